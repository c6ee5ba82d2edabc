use Rattle.std.proofs.Common.{refl}
use Rattle.images.specs.Image.{replica_of}
use Rattle.header.proofs.replica_of.Goals as goal

pub returns : goal.returns
unfolding replica_of
returns c = refl
