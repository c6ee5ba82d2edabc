use Rattle.std.proofs.Common.{ap, ◌∙◌}
use Rattle.refusals.proofs.AboveZero.{above_zero}
use Rattle.figures.specs.Whole.{refused_report}
use Rattle.figures.proofs.Told.{totals_are, lines_are}
use Rattle.val.proofs.Shown.{left_alone, eight_lent, filled}
use Rattle.val.proofs.val_statement.Goals as goal

pub returns-in-Err-clause-totals : goal.returns-in-Err-clause-totals
returns-in-Err-clause-totals c = totals_are _ _ _ _ (c.refused.ensures ∙ ap refused_report c.number.ensures ∙ c.in-Err.ensures.report)

pub returns-in-Err-clause-lines : goal.returns-in-Err-clause-lines
returns-in-Err-clause-lines c = left_alone _ _ _ (λ z. above_zero c.in-Err.refusal (c.in-Err.ensures.code ∙ z))

pub fill-requires : goal.fill-requires
fill-requires c = eight_lent _ _ _ c.in-Ok.ensures.code

pub returns-clause-totals : goal.returns-clause-totals
returns-clause-totals c = totals_are _ _ _ _ c.in-Ok.ensures.report

pub returns-clause-lines : goal.returns-clause-lines
returns-clause-lines c = c.fill.ensures ∙ lines_are _ _ _ c.in-Ok.ensures.code _ c.in-Ok.ensures.report ∙ filled _ _ _ c.in-Ok.ensures.code
