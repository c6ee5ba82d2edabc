use Rattle.std.proofs.Common.{ap, ◌∙◌}
use Rattle.record_check.specs.Sets.{held_set}
use Rattle.record_check.proofs.held_in.Goals as goal

pub returns : goal.returns
returns c = c.high_above.ensures ∙ ap held_set c.read_shares-s.ensures
