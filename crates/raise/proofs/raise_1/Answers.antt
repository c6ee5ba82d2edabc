use Rattle.std.proofs.Common.{◌≡◌, sym, ap, ◌∙◌, take, drop, rules, arith}
use Rattle.format.specs.Layout.{v1, current, expenses_at_in, expenses_size_in}
use Rattle.images.specs.Image.{CheckedIn}
use Rattle.images.specs.Calls.{older_by}
use Rattle.refusals.proofs.AboveZero.{fault_above_zero}
use Rattle.refusals.proofs.PassedOn.{fault_passed_on}
use Rattle.raise.proofs.Expenses.{first_older}
use Rattle.raise.proofs.Groups.{groups_behind}
use Rattle.raise.proofs.Raised.{by_check, left_alone, written}
use Rattle.raise.proofs.raise_1.Goals as goal

pub returns-in_err-check_1 : goal.returns-in_err-check_1
returns-in_err-check_1 c =
    let e = by_check c.args.old.now c.args.image.now v1 (ap (older_by current) c.told-old) c.told-image _ c.in_err-check_1.ensures in
    record { code = fault_passed_on c.from_residual.result _ c.from_residual.ensures.1 ∙ e; bytes = left_alone _ _ _ e (fault_above_zero _) }

pub raise_rest-requires : goal.raise_rest-requires
raise_rest-requires c = omega arith

pub returns : goal.returns
returns c =
    let e = by_check c.args.old.now c.args.image.now v1 (ap (older_by current) c.told-old) c.told-image 0 c.in_ok-check_1.ensures in
    let ok : CheckedIn v1 c.args.old.now = record { octets = c.fits-old; passes = sym c.in_ok-check_1.ensures } in
    let groups = groups_behind c.args.image.now c.raise_groups.new.image _ c.told-image (search rules) c.raise_groups.ensures in
    let all : c.unwrap-all.result.now ≡ take (expenses_size_in v1) (drop (expenses_at_in v1) c.args.old.now) = search rules in
    record { code = e; bytes = written c.args.old.now c.args.image.now v1 (ap (older_by current) c.told-old) c.told-image first_older ok e c.raise_groups.new.image _ _ groups (rw c.told-old all) c.raise_rest.ensures }
