use Rattle.std.proofs.Common.{arith}
use Rattle.std.proofs.lemmas.Grind.{common_steps}
use Rattle.images.specs.Image.{home_of}
use Rattle.header.proofs.homes_of.Goals as goal

pub returns : goal.returns
unfolding home_of
returns c = grind (arith, common_steps)
