use Rattle.std.proofs.Common.{◌∙◌}
use Rattle.rules.specs.Tests.{eight_at}
use Rattle.edits.proofs.Kind10.{listed}
use Rattle.edits.proofs.may_absorb.Goals as goal

pub returns : goal.returns
returns c = c.absorb_refusal.ensures ∙ listed c.args.e (eight_at c.args.counters) c.args.actor c.args.other _ _ c.has_bit-already.ensures c.may_absorb_in_group-rest.ensures
