use Rattle.std.proofs.Common.{◌≡◌, ◌∙◌, rules, arith}
use Rattle.merge.proofs.Answered.{kept, own_bad, other_bad, renamed_fault, long, other_passes, both_checked, homes_differ, disagree, agreed, written}
use Rattle.refusals.proofs.AboveZero.{fault_above_zero}
use Rattle.refusals.proofs.PassedOn.{passed_on}
use Rattle.merge.proofs.merge.Goals as goal

pub returns-in_err-check : goal.returns-in_err-check
returns-in_err-check c =
    let e = own_bad c.args.own.now c.args.other.now c.in_err-check.field-0.0 c.in_err-check.ensures in
    record { code = passed_on c.from_residual.result _ c.from_residual.ensures.1 ∙ e; bytes = kept _ _ _ e (fault_above_zero _) }

-- What the other image's check says, `grind` finds, here and below: the answers then fit any code that hands it on, and refuse only code that hands on something else.
pub returns-in_err-map_err : goal.returns-in_err-map_err
returns-in_err-map_err c =
    let n = renamed_fault _ c.map_err.result c.map_err.ensures.cases _ c.in_err-map_err.was in
    let e = other_bad c.args.own.now c.args.other.now _ _ c.in_ok-check.ensures (grind arith) n in
    record { code = passed_on c.from_residual-in_err-map_err.result _ c.from_residual-in_err-map_err.ensures.1 ∙ e; bytes = kept _ _ _ e (λ z. omega arith) }

pub unwrap-own-requires : goal.unwrap-own-requires
unwrap-own-requires c = c.as_mut_array.ensures.variant.1 (long c.args.own.now c.in_ok-check.ensures)

pub unwrap-other-requires : goal.unwrap-other-requires
unwrap-other-requires c = c.as_array.ensures.variant.1 (long c.args.other.now (other_passes c.args.other.now _ _ (grind arith) c.map_err.ensures.cases _ c.in_ok-map_err.was))

pub returns-then-not-homes_same : goal.returns-then-not-homes_same
returns-then-not-homes_same c =
    let passes = other_passes c.args.other.now _ _ (grind arith) c.map_err.ensures.cases _ c.in_ok-map_err.was in
    let both = both_checked c.args.own.now c.args.other.now (λ i. (c.slice_known-1.given i).fits) (λ i. (c.type_inv.other i).fits) c.in_ok-check.ensures passes in
    let own : c.unwrap-own.result.now ≡ c.args.own.now = search rules in
    let other : c.unwrap-other.result.now ≡ c.args.other.now = search rules in
    let e = homes_differ c.args.own.now c.args.other.now both _ (rw (own, other) at c.homes_same.ensures) c.if-not-homes_same.true in
    record { code = e; bytes = own ∙ kept _ _ _ e (λ z. omega arith) }

pub returns-then-not-images_agree : goal.returns-then-not-images_agree
returns-then-not-images_agree c =
    let passes = other_passes c.args.other.now _ _ (grind arith) c.map_err.ensures.cases _ c.in_ok-map_err.was in
    let both = both_checked c.args.own.now c.args.other.now (λ i. (c.slice_known-1.given i).fits) (λ i. (c.type_inv.other i).fits) c.in_ok-check.ensures passes in
    let own : c.unwrap-own.result.now ≡ c.args.own.now = search rules in
    let other : c.unwrap-other.result.now ≡ c.args.other.now = search rules in
    let e = disagree c.args.own.now c.args.other.now both _ (rw (own, other) at c.homes_same.ensures) c.if-not-homes_same.false _ (rw (own, other) at c.images_agree.ensures) c.if-not-images_agree.true in
    record { code = e; bytes = own ∙ kept _ _ _ e (λ z. omega arith) }

pub returns : goal.returns
returns c =
    let passes = other_passes c.args.other.now _ _ (grind arith) c.map_err.ensures.cases _ c.in_ok-map_err.was in
    let both = both_checked c.args.own.now c.args.other.now (λ i. (c.slice_known-1.given i).fits) (λ i. (c.type_inv.other i).fits) c.in_ok-check.ensures passes in
    let own : c.unwrap-own.result.now ≡ c.args.own.now = search rules in
    let other : c.unwrap-other.result.now ≡ c.args.other.now = search rules in
    let e = agreed c.args.own.now c.args.other.now both _ (rw (own, other) at c.homes_same.ensures) c.if-not-homes_same.false _ (rw (own, other) at c.images_agree.ensures) c.if-not-images_agree.false in
    record { code = e; bytes = written c.args.own.now c.args.other.now both _ _ e (rw (own, other) at c.merge_expenses.ensures) (rw other at c.merge_groups.ensures) }
