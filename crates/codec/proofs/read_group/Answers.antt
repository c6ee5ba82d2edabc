use Rattle.format.specs.Bytes.{group_of}
use Rattle.codec.proofs.read_group.Goals as goal

pub returns : goal.returns
unfolding group_of
returns c = cc
