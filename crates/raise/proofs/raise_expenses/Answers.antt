use Rattle.raise.proofs.Expenses.{none_dated, one_dated}
use Rattle.std.proofs.Common.{arith, ◌≡◌, refl, sym, ◌∙◌, length-take, length-drop, take_all}
use borrow.Rule.Slice.PartMut.{same_len_mid}
use Rattle.format.specs.Layout.{expense_count, expense_place}
use Rattle.raise.proofs.raise_expenses.Goals as goal

pub loop-c-init : goal.loop-c-init
loop-c-init c = (omega arith, none_dated c.args.all.now c.args.image.now)

pub payer_in-requires : goal.payer_in-requires
payer_in-requires c = simp (length-take, length-drop) (omega arith)

pub put_dated-requires : goal.put_dated-requires
put_dated-requires c = (simp (length-take, length-drop) (omega arith), simp (length-take, length-drop) (omega arith))

pub loop-c-preserved : goal.loop-c-preserved
loop-c-preserved c = (same_len_mid _ _ _ _ c.put_dated.auto.part ∙ c.loop-c.invariant.0, one_dated c.args.all.now c.loop-c.c c.args.image.now c.loop-c.image _ _ c.payer_in.result c.day_of-day.result (omega arith) (omega arith) (omega arith) c.loop-c.invariant.1 c.payer_in.ensures c.day_of-day.ensures c.put_dated.ensures refl)

pub returns : goal.returns
returns c = let z : c.loop-c.c ≡ expense_count = omega arith in sym (take_all (expense_place c.loop-c.c) c.loop-c.image (omega arith)) ∙ c.loop-c.invariant.1 ∙ rw z
