use Rattle.std.proofs.Common.{arith}
use Rattle.std.proofs.lemmas.Grind.{common_steps}
use Rattle.parts.specs.Parts.{equal_eight}
use Rattle.parts.proofs.equal_eight.Goals as goal

pub returns : goal.returns
unfolding equal_eight
returns c = grind (arith, common_steps)
