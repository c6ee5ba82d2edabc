use Rattle.std.proofs.Common.{refl, arith}
use Rattle.amounts.proofs.Amounts.{added_next}
use Rattle.amounts.proofs.add_shares.Goals as goal

pub overflow_add-held : goal.overflow_add-held
overflow_add-held c = let l = c.loop-u in let z = c.requires.1 l.u in let e = l.invariant.2 l.u (omega arith) in omega arith

pub loop-u-preserved : goal.loop-u-preserved
loop-u-preserved c = let l = c.loop-u in added_next l.u _ _ l.held _ (omega arith) l.invariant refl
