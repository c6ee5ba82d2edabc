use Rattle.std.proofs.Common.{◌∙◌}
use Rattle.rules.specs.Tests.{eight_at}
use Rattle.edits.proofs.Kind9.{listed}
use Rattle.edits.proofs.may_acknowledge.Goals as goal

pub returns : goal.returns
returns c = c.acknowledge_refusal.ensures ∙ listed c.args.e (eight_at c.args.counters) c.args.actor _ _ c.is_member-member.ensures c.has_bit-already.ensures
