use Rattle.std.proofs.Common.{◌∙◌}
use Rattle.rules.specs.Tests.{eight_at}
use Rattle.entries.proofs.Kind5.{listed}
use Rattle.entries.proofs.may_put_in.Goals as goal

pub returns : goal.returns
returns c = c.put_in_refusal.ensures ∙ listed c.args.e (eight_at c.args.counters) c.args.actor _ _ _ c.nobody_in-absent.ensures c.is_member-member.ensures c.strangers-strange.ensures
