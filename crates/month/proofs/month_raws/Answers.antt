use Rattle.std.proofs.Common.{◌≡◌, sym, ap, ◌∙◌, arith, rules}
use Rattle.format.specs.Bytes.{Octets}
use Rattle.refusals.proofs.PassedOn.{passed_on}
use Rattle.images.proofs.Round.{long}
use Rattle.balance.proofs.Fewer.{paid_below, held_below}
use Rattle.month.proofs.Written.{raws_are}
use Rattle.month.proofs.Answers.{refused_image, refused_absent, refused_count, refused_month, group_ok, granted}
use Rattle.month.proofs.month_raws.Goals as goal

pub returns-in_err-check : goal.returns-in_err-check
returns-in_err-check c =
    let both = refused_image c.args.image.now c.args.group c.args.month c.args.raws.now c.in_err-check.field-0.0 c.in_err-check.ensures in
    record { code = passed_on c.from_residual.result _ c.from_residual.ensures.1 ∙ both.0; raws = both.1 }

pub unwrap-image-requires : goal.unwrap-image-requires
unwrap-image-requires c = c.as_array.ensures.variant.1 (long c.args.image.now (record { octets = λ i. (c.type_inv.image i).fits; passes = sym c.in_ok-check.ensures }))

pub returns-then-is_absent : goal.returns-then-is_absent
returns-then-is_absent c =
    let a = c.args in
    let same : c.unwrap-image.result.now ≡ a.image.now = search rules in
    let both = refused_absent a.image.now a.group a.month a.raws.now (sym c.in_ok-check.ensures) _ (rw same at c.is_absent.ensures) c.if-is_absent.true in record { code = both.0; raws = both.1 }

pub returns-then-lent-ne-USERS : goal.returns-then-lent-ne-USERS
returns-then-lent-ne-USERS c =
    let a = c.args in
    let same : c.unwrap-image.result.now ≡ a.image.now = search rules in
    let both = refused_count a.image.now a.group a.month a.raws.now (sym c.in_ok-check.ensures) _ (rw same at c.is_absent.ensures) c.if-is_absent.false c.if-lent-ne-USERS.true in record { code = both.0; raws = both.1 }

pub returns-then-month-ge-MONTH_COUNT : goal.returns-then-month-ge-MONTH_COUNT
returns-then-month-ge-MONTH_COUNT c =
    let a = c.args in
    let same : c.unwrap-image.result.now ≡ a.image.now = search rules in
    let both = refused_month a.image.now a.group a.month a.raws.now (sym c.in_ok-check.ensures) _ (rw same at c.is_absent.ensures) c.if-is_absent.false c.if-lent-ne-USERS.false c.if-month-ge-MONTH_COUNT.true in record { code = both.0; raws = both.1 }

pub overflow_cast-g : goal.overflow_cast-g
overflow_cast-g c =
    let a = c.args in
    let same : c.unwrap-image.result.now ≡ a.image.now = search rules in
    let h = group_ok a.image.now a.group a.month a.raws.now (sym c.in_ok-check.ensures) _ (rw same at c.is_absent.ensures) c.if-is_absent.false in
    record { fits = omega arith }

pub put_raws-requires : goal.put_raws-requires
put_raws-requires c =
    let a = c.args in
    let o : Octets a.image.now = λ i. (c.type_inv.image i).fits in
    let same : c.unwrap-image.result.now ≡ a.image.now = search rules in
    let s = rw same at c.sums_of-sums.ensures in
    (c.if-lent-ne-USERS.false, λ u. (let p = paid_below a.image.now o _ a.group _ _ s u in let h = held_below a.image.now o _ a.group _ _ s u in (omega arith, omega arith)))

pub returns : goal.returns
returns c =
    let a = c.args in
    let same : c.unwrap-image.result.now ≡ a.image.now = search rules in
    let r = rw same at c.counters_of-r.ensures in
    let d = c.days_of-days in
    let s = rw same at c.sums_of-sums.ensures in
    let out = c.put_raws.ensures ∙ raws_are a.image.now a.group a.month _ d.result.first d.result.last _ (ap (λ t. t.rule) r) d.ensures.0 d.ensures.1 s in
    let both = granted a.image.now a.group a.month a.raws.now (sym c.in_ok-check.ensures) _ (rw same at c.is_absent.ensures) c.if-is_absent.false c.if-lent-ne-USERS.false (omega arith) _ out in
    record { code = both.0; raws = both.1 }
