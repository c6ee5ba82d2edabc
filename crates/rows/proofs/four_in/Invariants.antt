use Rattle.std.proofs.Common.{◌≡◌, ◌+◌}
use Rattle.format.specs.Bytes.{expense_of, expense_part}
use Rattle.rules.specs.Tests.{some_below}
use Rattle.fields.specs.Fields.{present_in}
use Rattle.rows.proofs.four_in.Given as goal

abbrev pub invariant-loop-i : goal.invariant-loop-i
invariant-loop-i l = l.one ≡ some_below l.i (λ j. present_in (expense_of (expense_part l.image (l.c + j))) l.g)
