use Rattle.std.proofs.Common.{arith, rules, ◌≡◌, refl, length-take, length-drop}
use Rattle.format.specs.Layout.{expense_count}
use Rattle.merge.proofs.Turns.{no_expense_lem, expense_turn}
use Rattle.merge.proofs.merge_expenses.Goals as goal

pub loop-expense-init : goal.loop-expense-init
loop-expense-init c = no_expense_lem _ _

pub merge_part-requires : goal.merge_part-requires
merge_part-requires c = simp (length-take, length-drop) (omega arith)

-- What the other image's part is, search finds: the answer then fits any code that takes that part, and refuses only code that takes another.
pub loop-expense-preserved : goal.loop-expense-preserved
loop-expense-preserved c = expense_turn _ _ _ _ _ _ c.loop-expense.expense c.loop-expense.invariant c.merge_part.ensures (search rules) refl

pub returns : goal.returns
returns c = let z : c.loop-expense.expense ≡ expense_count = omega arith in rw z at c.loop-expense.invariant
