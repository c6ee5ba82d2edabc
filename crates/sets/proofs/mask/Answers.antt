use Rattle.std.proofs.Common.{arith}
use Rattle.sets.proofs.mask.Goals as goal

pub returns : goal.returns
returns g c p d m = let e = c.high_mask.ensures.set p d m in omega arith
