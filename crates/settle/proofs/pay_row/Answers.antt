use Rattle.std.proofs.Common.{◌<◌, length, length-set, arith}
use Rattle.eight.proofs.Filled.{next, last}
use Rattle.settle.proofs.Turns.{row_next, row_last, unpaid_next, unpaid_last}
use Rattle.settle.proofs.pay_row.Goals as goal

pub loop-c-preserved : goal.loop-c-preserved
loop-c-preserved c =
    let l = c.loop-c in
    let k : l.c < length l.claims = omega arith in (
      simp length-set (omega arith),
      simp length-set (omega arith),
      next _ l.paid l.c _ _ _ (omega arith) (row_next l.left _ l.c l.claims k (omega arith)) l.invariant.2,
      next _ l.claims l.c _ _ _ k (unpaid_next l.left _ l.c l.claims k (omega arith)) l.invariant.3,
    )

pub returns : goal.returns
returns c =
    let l = c.loop-c in record { row = last _ l.paid l.c _ (omega arith) (row_last l.left l.c l.claims (omega arith)) l.invariant.2; claims = last _ l.claims l.c _ (omega arith) (unpaid_last l.left l.c l.claims (omega arith)) l.invariant.3 }
