use Rattle.std.proofs.Common.{◌∙◌}
use Rattle.rules.specs.Tests.{eight_at}
use Rattle.entries.proofs.Kind6.{listed}
use Rattle.entries.proofs.may_take_out.Goals as goal

pub returns : goal.returns
returns c = c.take_out_refusal.ensures ∙ listed c.args.e (eight_at c.args.counters) c.args.actor c.args.group _ _ c.nobody_in-absent.ensures c.is_member-member.ensures
