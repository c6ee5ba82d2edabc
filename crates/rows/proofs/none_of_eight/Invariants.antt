use Rattle.std.proofs.Common.{◌≡◌, ◌+◌, eqb}
use Rattle.format.specs.Layout.{no_expense}
use Rattle.format.specs.Bytes.{expense_of, expense_part}
use Rattle.rules.specs.Tests.{every_below}
use Rattle.rows.proofs.none_of_eight.Given as goal

abbrev pub invariant-loop-i : goal.invariant-loop-i
invariant-loop-i l = l.none ≡ every_below l.i (λ j. eqb (expense_of (expense_part l.image (l.c + j))).payer no_expense)
