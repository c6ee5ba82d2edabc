use Rattle.std.proofs.Common.{refl, ◌∙◌, arith}
use Rattle.refusals.proofs.PassedOn.{fault_passed_on}
use Rattle.older_check.proofs.Shared.{handed_1}
use Rattle.format.specs.Layout.{v1}
use Rattle.older_check.proofs.check_1.Goals as goal

pub check_as-requires : goal.check_as-requires
check_as-requires c = (v1, handed_1 c.args.old.now _ c.requires c.known_sets.ensures)

pub returns : goal.returns
returns c = c.check_as.ensures v1 (handed_1 c.args.old.now _ c.requires c.known_sets.ensures)

pub returns-in_err-header_fault : goal.returns-in_err-header_fault
returns-in_err-header_fault c = fault_passed_on c.from_residual.result _ c.from_residual.ensures.1 ∙ c.in_err-header_fault.ensures v1 refl c.requires

pub header_fault-requires : goal.header_fault-requires
header_fault-requires c = omega arith
