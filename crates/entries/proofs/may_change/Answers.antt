use Rattle.std.proofs.Common.{◌∙◌}
use Rattle.rules.specs.Tests.{eight_at}
use Rattle.entries.proofs.Kind7.{listed}
use Rattle.entries.proofs.may_change.Goals as goal

pub returns : goal.returns
returns c = c.change_refusal.ensures ∙ listed c.args.e (eight_at c.args.counters) c.args.actor (eight_at c.args.shares) _ _ c.total_outside-outside.ensures c.strangers.ensures
