use Rattle.rows.proofs.Rows.{row_broken, row_begun, every_next, every_eight}
use Rattle.std.proofs.Common.{◌+◌, ◌∙◌, eqb, sym, arith}
use Rattle.format.specs.Layout.{no_expense}
use Rattle.format.specs.Bytes.{expense_of, expense_part}
use Rattle.rows.proofs.none_of_eight.Goals as goal

pub returns-then-not-absent_at : goal.returns-then-not-absent_at
returns-then-not-absent_at c = row_broken (λ n. eqb (expense_of (expense_part c.args.image.now n)).payer no_expense) c.args.c (sym c.absent_at.ensures ∙ c.if-not-absent_at.true)

pub loop-i-init : goal.loop-i-init
loop-i-init c = row_begun (λ n. eqb (expense_of (expense_part c.args.image.now n)).payer no_expense) c.args.c (sym c.absent_at.ensures ∙ c.if-not-absent_at.false)

pub loop-i-preserved : goal.loop-i-preserved
loop-i-preserved c = every_next c.loop-i.i (λ j. eqb (expense_of (expense_part c.args.image.now (c.args.c + j))).payer no_expense) c.loop-i.invariant c.absent_at-none.ensures

pub returns : goal.returns
returns c = every_eight c.loop-i.i (λ j. eqb (expense_of (expense_part c.args.image.now (c.args.c + j))).payer no_expense) (omega arith) c.loop-i.invariant
