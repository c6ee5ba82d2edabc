use Rattle.rows.proofs.Rows.{some_none, some_next, some_four}
use Rattle.std.proofs.Common.{◌+◌, ◌∙◌, ap, arith}
use Rattle.format.specs.Bytes.{expense_of, expense_part}
use Rattle.fields.specs.Fields.{present_in}
use Rattle.rows.proofs.four_in.Goals as goal

pub loop-i-init : goal.loop-i-init
loop-i-init c = some_none (λ j. present_in (expense_of (expense_part c.args.image.now (c.args.c + j))) c.args.g)

pub loop-i-preserved : goal.loop-i-preserved
loop-i-preserved c = some_next c.loop-i.i (λ j. present_in (expense_of (expense_part c.args.image.now (c.args.c + j))) c.args.g) c.loop-i.invariant (c.is_in-one.ensures ∙ ap (λ p. present_in (expense_of p) c.args.g) c.expense_part.ensures)

pub returns : goal.returns
returns c = some_four c.loop-i.i c.args.c (λ j. present_in (expense_of (expense_part c.args.image.now j)) c.args.g) (omega arith) c.loop-i.invariant
