use Rattle.std.proofs.Common.{ap, bit_or}
use Rattle.sets.proofs.with_bit.Goals as goal

pub returns : goal.returns
returns c = ap (bit_or c.args.acknowledged) c.bit.ensures
