use Rattle.image_check.proofs.Answered.{unversioned, unheaded}
use Rattle.std.proofs.Common.{sym, ◌∙◌}
use Rattle.image_check.proofs.header_fault.Goals as goal

pub returns-then-not-version_ok : goal.returns-then-not-version_ok
returns-then-not-version_ok c = λ v n l. unversioned v c.args.image.now l (sym c.mark_ok.ensures ∙ c.if-not-mark_ok.false) (sym (c.version_ok.ensures v n) ∙ c.if-not-version_ok.true)

pub returns-then-not-header_ok : goal.returns-then-not-header_ok
returns-then-not-header_ok c = λ v n l. unheaded v c.args.image.now l (sym c.mark_ok.ensures ∙ c.if-not-mark_ok.false) (sym (c.version_ok.ensures v n) ∙ c.if-not-version_ok.false) (sym c.header_ok.ensures ∙ c.if-not-header_ok.true)

pub returns : goal.returns
returns c = λ v n l. (sym c.mark_ok.ensures ∙ c.if-not-mark_ok.false, sym (c.version_ok.ensures v n) ∙ c.if-not-version_ok.false, sym c.header_ok.ensures ∙ c.if-not-header_ok.false)
