use Rattle.rows.proofs.Rows.{absent_row}
use Rattle.std.proofs.Common.{◌+◌, ◌&&◌, sym, ap, ◌∙◌}
use Rattle.format.specs.Bytes.{expense_of}
use Rattle.rules.specs.Tests.{every8}
use Rattle.fields.specs.Fields.{among, blank_tail}
use Rattle.rows.proofs.eight_absent.Goals as goal

pub returns-then-not-heads_blank : goal.returns-then-not-heads_blank
returns-then-not-heads_blank g c = sym (ap (λ t. t && every8 (λ i. blank_tail (expense_of (among g.row.SIZE c.args.all.now (c.args.c + i))))) (sym c.heads_blank.ensures ∙ c.if-not-heads_blank.true)) ∙ absent_row g.row.SIZE c.args.all.now c.args.c

pub returns : goal.returns
returns g c = c.tails_blank.ensures ∙ sym (ap (λ t. t && every8 (λ i. blank_tail (expense_of (among g.row.SIZE c.args.all.now (c.args.c + i))))) (sym c.heads_blank.ensures ∙ c.if-not-heads_blank.false)) ∙ absent_row g.row.SIZE c.args.all.now c.args.c
