use Rattle.std.proofs.Common.{◌≡◌, sym, ◌∙◌, subst, ◌+◌, ◌*◌, arith, eqb}
use Rattle.format.specs.Layout.{no_expense}
use Rattle.format.specs.Bytes.{expense_of, expense_part}
use Rattle.images.specs.Image.{decode}
use Rattle.rules.proofs.Accepted.{every_8}
use Rattle.gather.specs.Rows.{RowsTo}
use Rattle.gather.proofs.Turns.{skip_some}
use Rattle.gather.proofs.Rows.add_all.Goals as goal
use Rattle.gather.proofs.Rows.add_all.Goals.{then-not-none_of_eight, else-not-none_of_eight}

pub loop-eight-preserved : goal.loop-eight-preserved
loop-eight-preserved c =
    let l = c.loop-eight in
    let b = c.args.image.now in
    let z : 8 * l.eight + 8 ≡ 8 * (l.eight + 1) = omega arith in
    subst (λ n. RowsTo (decode b) n c.if-not-none_of_eight.self) z (elim c.if-not-none_of_eight.branch [
      | then-not-none_of_eight w ↦ subst (RowsTo (decode b) (8 * l.eight + 8)) (sym w.self-is) w.add_eight.ensures
      | else-not-none_of_eight w ↦
          subst (RowsTo (decode b) (8 * l.eight + 8)) (sym w.self-is)
          (skip_some b l.self (8 * l.eight) 8 (omega arith) (every_8 (λ i. eqb (expense_of (expense_part b (8 * l.eight + i))).payer no_expense) (sym c.none_of_eight.ensures ∙ w.if-not-none_of_eight.false)) l.invariant)
    ])
