use Rattle.rules.proofs.Basics.{ltb_true}
use Rattle.sets.proofs.has_bit.Goals as goal

pub returns : goal.returns
returns c = rw (ltb_true c.args.u 8 c.requires)
