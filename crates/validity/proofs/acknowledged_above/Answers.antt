use Rattle.std.proofs.Common.{arith}
use Rattle.rules.specs.Tests.{eight_at}
use Rattle.validity.proofs.Above.{above_is}
use Rattle.validity.proofs.acknowledged_above.Goals as goal

pub returns : goal.returns
returns c = above_is (eight_at c.args.s) c.args.limit c.args.acknowledged _ (omega arith) c.high_above-asked.ensures
