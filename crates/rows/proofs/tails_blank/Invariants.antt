use Rattle.std.proofs.Common.{◌≡◌, ◌+◌, eqb}
use Rattle.format.specs.Bytes.{expense_of}
use Rattle.rules.specs.Tests.{every_below}
use Rattle.fields.specs.Fields.{among, blank_tail}
use Rattle.rows.proofs.tails_blank.Given as goal

abbrev pub invariant-loop-i : goal.invariant-loop-i
invariant-loop-i g l = eqb l.words 0 ≡ every_below l.i (λ j. blank_tail (expense_of (among g.row.SIZE l.all (l.c + j))))
