use Rattle.images.proofs.Codec.{power}
use Rattle.sets.proofs.bit.Goals as goal

pub returns : goal.returns
returns c = rw (power c.args.u c.requires)
