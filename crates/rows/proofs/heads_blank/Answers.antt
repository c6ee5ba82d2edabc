use Rattle.rows.proofs.Rows.{every_none, every_next, every_eight}
use Rattle.std.proofs.Common.{◌+◌, ap, ◌∙◌, arith}
use Rattle.format.specs.Bytes.{expense_of}
use Rattle.fields.specs.Fields.{among, blank_head}
use Rattle.rows.proofs.heads_blank.Goals as goal

pub loop-i-init : goal.loop-i-init
loop-i-init g c = every_none (λ j. blank_head (expense_of (among g.row.SIZE c.args.all.now (c.args.c + j))))

pub loop-i-preserved : goal.loop-i-preserved
loop-i-preserved g c = every_next c.loop-i.i (λ j. blank_head (expense_of (among g.row.SIZE c.args.all.now (c.args.c + j)))) c.loop-i.invariant (c.head_blank-blank.ensures ∙ ap (λ p. blank_head (expense_of p)) c.part_at.ensures.part)

pub returns : goal.returns
returns g c = every_eight c.loop-i.i (λ j. blank_head (expense_of (among g.row.SIZE c.args.all.now (c.args.c + j)))) (omega arith) c.loop-i.invariant
