use Rattle.std.proofs.Common.{◌∙◌}
use Rattle.refusals.proofs.PassedOn.{passed_on}
use Rattle.refusals.proofs.AboveZero.{above_zero}
use Rattle.payments.proofs.Ordered.{refused_statement, refused_count, refused_members, granted}
use Rattle.payments.proofs.list_payments.Goals as goal

pub returns-in_err-report : goal.returns-in_err-report
returns-in_err-report c =
    let e = c.in_err-report.field-0.0 in
    let both = refused_statement c.args.image.now c.args.group c.args.cents.now _ c.in_err-report.ensures.code (above_zero e) in
    record { code = passed_on c.from_residual.result _ c.from_residual.ensures.1 ∙ both.0; cents = both.1 }

pub returns-then-lent-ne-PAYMENTS_SIZE : goal.returns-then-lent-ne-PAYMENTS_SIZE
returns-then-lent-ne-PAYMENTS_SIZE c = let both = refused_count c.args.image.now c.args.group c.args.cents.now c.in_ok-report.ensures.code _ c.in_ok-report.ensures.report c.if-lent-ne-PAYMENTS_SIZE.true in record { code = both.0; cents = both.1 }

pub returns-then-members-eq0 : goal.returns-then-members-eq0
returns-then-members-eq0 c = let both = refused_members c.args.image.now c.args.group c.args.cents.now c.in_ok-report.ensures.code _ c.in_ok-report.ensures.report c.if-lent-ne-PAYMENTS_SIZE.false c.if-members-eq0.true in record { code = both.0; cents = both.1 }

pub returns : goal.returns
returns c =
    let both = granted c.args.image.now c.args.group c.args.cents.now c.in_ok-report.ensures.code _ c.in_ok-report.ensures.report c.if-lent-ne-PAYMENTS_SIZE.false c.if-members-eq0.false
    (λ i. (c.type_inv.image i).fits) _ _ _ c.balances_of.ensures c.settle.ensures c.put_table.ensures in record { code = both.0; cents = both.1 }
