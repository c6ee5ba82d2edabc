use Rattle.std.proofs.Common.{◌≡◌, ◌+◌}
use Rattle.format.specs.Bytes.{expense_of}
use Rattle.rules.specs.Tests.{every_below}
use Rattle.fields.specs.Fields.{among, blank_head}
use Rattle.rows.proofs.heads_blank.Given as goal

abbrev pub invariant-loop-i : goal.invariant-loop-i
invariant-loop-i g l = l.blank ≡ every_below l.i (λ j. blank_head (expense_of (among g.row.SIZE l.all (l.c + j))))
