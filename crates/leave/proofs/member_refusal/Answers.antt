use Rattle.images.specs.Image.{decode}
use Rattle.leave.proofs.Kind3.{refusal_is}
use Rattle.leave.proofs.member_refusal.Goals as goal

pub returns : goal.returns
returns c = refusal_is (decode c.args.image.now) c.args.rule c.args.group c.args.u c.args.counter c.standing_of-s.result _ c.requires.1 c.standing_of-s.ensures c.refusal.ensures
