use Rattle.std.proofs.Common.{◌≡◌, ◌∙◌, arith, rules}
use Rattle.format.specs.Layout.{current}
use Rattle.refusals.proofs.AboveZero.{fault_above_zero}
use Rattle.refusals.proofs.PassedOn.{passed_on}
use Rattle.images.proofs.Round.{long}
use Rattle.balances.proofs.Answers.{refused_image, refused_count, granted}
use Rattle.balances.proofs.all_balances.Goals as goal

-- What the check says, `grind` finds, here and below: the answers then fit any code that hands it on, and refuse only code that hands on something else.
pub returns-in_err-check : goal.returns-in_err-check
returns-in_err-check c =
    let a = c.args in
    let both = refused_image a.image.now a.balances.now _ (grind arith) (fault_above_zero c.in_err-check.field-0.0) in
    record { code = passed_on c.from_residual.result _ c.from_residual.ensures.1 ∙ both.0; balances = both.1 }

pub returns-then-balances-ne-BALANCES_SIZE : goal.returns-then-balances-ne-BALANCES_SIZE
returns-then-balances-ne-BALANCES_SIZE c =
    let a = c.args in
    let both = refused_count a.image.now a.balances.now (grind arith) c.if-balances-ne-BALANCES_SIZE.true in
    record { code = both.0; balances = both.1 }

pub unwrap-image-requires : goal.unwrap-image-requires
unwrap-image-requires c = c.as_array.ensures.variant.1 (long {v = current} c.args.image.now (record { octets = λ i. (c.type_inv.image i).fits; passes = grind arith }))

pub returns : goal.returns
returns c =
    let a = c.args in
    let same : c.unwrap-image.result.now ≡ a.image.now = search rules in
    let both = granted a.image.now a.balances.now (grind arith) c.if-balances-ne-BALANCES_SIZE.false _ (rw same at c.put_all.ensures) in
    record { code = both.0; balances = both.1 }
