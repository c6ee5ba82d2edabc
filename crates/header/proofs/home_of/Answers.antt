use Rattle.std.proofs.Common.{arith}
use Rattle.images.proofs.Round.{home_in, home_out}
use Rattle.header.proofs.home_of.Goals as goal

pub returns-then-at-lt8 : goal.returns-then-at-lt8
returns-then-at-lt8 c = home_in c.args.image.now c.args.u (omega arith)

pub returns : goal.returns
returns c = home_out _ _ c.if-at-lt8.false
