use mathlib.Core.Path.{◌∙◌}
use native.Mathlib.Omega.{arith}
use Rattle.parts.proofs.Parts.{each_le, equal_made}
use Rattle.parts.proofs.equal_parts.Goals as goal

pub equal_eight-requires : goal.equal_eight-requires
equal_eight-requires c = omega (arith, each_le _ _ _ c.split_of-split.ensures)

pub returns : goal.returns
returns c = c.equal_eight.ensures ∙ equal_made _ _ _ _ _ c.members_in-members.ensures c.split_of-split.ensures c.ranks_of-ranks.ensures
