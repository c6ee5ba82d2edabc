use Rattle.std.proofs.Common.{arith}
use Rattle.std.proofs.lemmas.Grind.{common_steps}
use Rattle.parts.specs.Parts.{gifts_from}
use Rattle.parts.proofs.gifts_of.Goals as goal

pub returns : goal.returns
unfolding gifts_from
returns c = grind (arith, common_steps)
