use Rattle.std.proofs.Common.{refl, arith}
use Rattle.amounts.proofs.Amounts.{added_next}
use Rattle.halves.proofs.add_high.Goals as goal

pub loop-u-preserved : goal.loop-u-preserved
loop-u-preserved c = let l = c.loop-u in added_next l.u _ _ l.high _ (omega arith) l.invariant refl
