use Rattle.refusals.proofs.PassedOn.{fault_passed_on}
use Rattle.image_check.proofs.Answered.{unsized}
use Rattle.std.proofs.Common.{refl, ◌∙◌}
use Rattle.format.specs.Layout.{current}
use Rattle.image_check.proofs.check.Goals as goal

pub returns-then-image-ne-IMAGE_SIZE : goal.returns-then-image-ne-IMAGE_SIZE
returns-then-image-ne-IMAGE_SIZE c = unsized current c.args.image.now c.if-image-ne-IMAGE_SIZE.true

pub check_as-requires : goal.check_as-requires
check_as-requires c = (current, record { long = c.if-image-ne-IMAGE_SIZE.false; sized = refl; numbered = refl; placed = refl; groups = c.known_sets-known.ensures })

pub returns : goal.returns
returns c = c.check_as.ensures current (record { long = c.if-image-ne-IMAGE_SIZE.false; sized = refl; numbered = refl; placed = refl; groups = c.known_sets-known.ensures })

pub returns-in_err-header_fault : goal.returns-in_err-header_fault
returns-in_err-header_fault c = fault_passed_on c.from_residual.result _ c.from_residual.ensures.1 ∙ c.in_err-header_fault.ensures current refl c.if-image-ne-IMAGE_SIZE.false
