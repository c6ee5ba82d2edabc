use Rattle.std.proofs.Common.{arith}
use Rattle.std.proofs.lemmas.Grind.{common_steps}
use Rattle.usage.specs.Usage.{keys_from}
use Rattle.usage.proofs.keys_of.Goals as goal

pub returns : goal.returns
unfolding keys_from
returns c = grind (arith, common_steps)
