use Rattle.std.proofs.Common.{◌≡◌, sym, ◌∙◌, rules}
use Rattle.format.specs.Bytes.{Octets}
use Rattle.images.proofs.Round.{long}
use Rattle.balance.proofs.All.{all_sums}
use Rattle.balance.proofs.Fewer.{paid_below, held_below, uses_below}
use Rattle.figures.proofs.Answered.{passed_on, refused_image, refused_number, refused_absent, refused_lent, granted}
use Rattle.figures.proofs.report_of.Goals as goal

pub returns-in_err-check : goal.returns-in_err-check
returns-in_err-check c =
    let was = passed_on c.from_residual.result _ c.from_residual.ensures.1 in
    let both = refused_image c.args.image.now c.args.group c.args.lent c.in_err-check.field-0.0 c.in_err-check.ensures in
    record { code = was.0 ∙ both.0; report = was.1 ∙ both.1 }

pub unwrap-image-requires : goal.unwrap-image-requires
unwrap-image-requires c = c.as_array.ensures.variant.1 (long c.args.image.now (record { octets = λ i. (c.type_inv.image i).fits; passes = sym c.in_ok-check.ensures }))

pub returns-then-group : goal.returns-then-group
returns-then-group c = let both = refused_number c.args.image.now c.args.group c.args.lent (sym c.in_ok-check.ensures) c.if-group.true in record { code = both.0; report = both.1 }

pub returns-then-nobody_in : goal.returns-then-nobody_in
returns-then-nobody_in c =
    let same : c.unwrap-image.result.now ≡ c.args.image.now = search rules in
    let both = refused_absent c.args.image.now c.args.group c.args.lent (sym c.in_ok-check.ensures) _ (rw same at c.counters_of-r.ensures) _ c.nobody_in.ensures c.if-nobody_in.true in
    record { code = both.0; report = both.1 }

pub returns-then-lent-ne-USERS : goal.returns-then-lent-ne-USERS
returns-then-lent-ne-USERS c =
    let same : c.unwrap-image.result.now ≡ c.args.image.now = search rules in
    let both = refused_lent c.args.image.now c.args.group c.args.lent (sym c.in_ok-check.ensures) _ (rw same at c.counters_of-r.ensures) _ c.nobody_in.ensures c.if-nobody_in.false c.if-lent-ne-USERS.true in
    record { code = both.0; report = both.1 }

pub report_from-requires : goal.report_from-requires
report_from-requires c =
    let a = c.args in
    let o : Octets a.image.now = λ i. (c.type_inv.image i).fits in
    let r = c.counters_of-r.result.rule in
    let same : c.unwrap-image.result.now ≡ c.args.image.now = search rules in
    let e = rw same at c.sums_of-sums.ensures in
    λ u. (paid_below a.image.now o r a.group _ _ e u, held_below a.image.now o r a.group _ _ e u, uses_below a.image.now o r a.group _ _ e u)

pub returns : goal.returns
returns c =
    let a = c.args in
    let o : Octets a.image.now = λ i. (c.type_inv.image i).fits in
    let same : c.unwrap-image.result.now ≡ c.args.image.now = search rules in
    let e = all_sums a.image.now o c.counters_of-r.result.rule a.group _ (rw same at c.sums_of-sums.ensures) in
    let both = granted a.image.now a.group a.lent (sym c.in_ok-check.ensures) _ (rw same at c.counters_of-r.ensures) _ c.nobody_in.ensures _ _ e c.report_from.ensures c.if-nobody_in.false c.if-lent-ne-USERS.false in
    record { code = both.0; report = both.1 }
