use Rattle.sets.proofs.High.{raised_exact}
use Rattle.sets.proofs.raised.Goals as goal

pub returns : goal.returns
returns c = rw c.from.ensures (raised_exact c.args.a c.args.k c.requires)
