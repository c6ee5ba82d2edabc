use Rattle.std.proofs.Common.{sym, ◌∙◌, arith}
use Rattle.standing.proofs.Walk.{with_part, without_part, room}
use Rattle.standing.proofs.with_four.Goals as goal
use Rattle.standing.proofs.with_four.Goals.{then-stands_in, else-stands_in}

pub with_standing-s-requires : goal.with_standing-s-requires
with_standing-s-requires c =
    let a = c.args in
    let l = c.loop-c in
    (c.requires.0, room a.image.now a.rule a.g a.u c.fits-image l.c (omega arith) l.s l.invariant, sym c.stands_in.ensures ∙ c.if-stands_in.true, omega arith)

pub loop-c-preserved : goal.loop-c-preserved
loop-c-preserved c =
    let a = c.args in
    let l = c.loop-c in
    elim c.if-stands_in.branch [
      | then-stands_in w ↦ w.s-is ∙ with_part a.image.now a.rule a.g a.u l.c (omega arith) _ c.expense_part-part.ensures _ _ l.invariant w.with_standing-s.ensures
      | else-stands_in w ↦ w.s-is ∙ without_part a.image.now a.rule a.g a.u l.c (omega arith) _ c.expense_part-part.ensures _ _ l.invariant c.stands_in.ensures w.if-stands_in.false
    ]
