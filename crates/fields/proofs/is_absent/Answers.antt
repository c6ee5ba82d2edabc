use Rattle.fields.proofs.Words.{absent_is}
use Rattle.std.proofs.Common.{◌&&◌, sym, ap, ◌∙◌}
use Rattle.format.specs.Bytes.{expense_of}
use Rattle.fields.specs.Fields.{blank_tail}
use Rattle.fields.proofs.is_absent.Goals as goal

pub returns-then-not-head_blank : goal.returns-then-not-head_blank
returns-then-not-head_blank g c = sym (ap (λ t. t && blank_tail (expense_of c.args.part.now)) (sym c.head_blank.ensures ∙ c.if-not-head_blank.true)) ∙ absent_is _

pub returns : goal.returns
returns g c = c.tail_words.ensures ∙ sym (ap (λ t. t && blank_tail (expense_of c.args.part.now)) (sym c.head_blank.ensures ∙ c.if-not-head_blank.false)) ∙ absent_is _
