use Rattle.std.proofs.Common.{◌∙◌}
use Rattle.rules.specs.Tests.{eight_at}
use Rattle.edits.proofs.Kind8.{listed}
use Rattle.edits.proofs.may_delete.Goals as goal

pub returns : goal.returns
returns c = c.delete_refusal.ensures ∙ listed c.args.e (eight_at c.args.counters) c.args.actor _ c.is_member.ensures
