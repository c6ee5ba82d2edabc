use Rattle.std.proofs.Common.{◌∙◌}
use Rattle.rules.specs.Tests.{eight_at}
use Rattle.entries.proofs.Kind4.{listed}
use Rattle.entries.proofs.may_enter.Goals as goal

pub returns : goal.returns
returns c = c.enter_refusal.ensures ∙ listed c.args.expense c.args.replica c.args.e (eight_at c.args.shares) _ c.total_outside.ensures
