use Rattle.std.proofs.Common.{refl, ◌∙◌, arith}
use Rattle.std.proofs.lemmas.Grind.{common_steps}
use Rattle.refusals.proofs.PassedOn.{fault_passed_on}
use Rattle.older_check.proofs.Shared.{handed_2}
use Rattle.format.specs.Layout.{v2}
use Rattle.older_check.proofs.check_2.Goals as goal

-- What is known of the groups, `grind` finds, here and at the return: the answers then fit any code that hands it on, and refuse only code that hands on something else.
pub check_as-requires : goal.check_as-requires
check_as-requires c = (v2, handed_2 c.args.old.now _ c.requires (grind (arith, common_steps)))

pub returns : goal.returns
returns c = c.check_as.ensures v2 (handed_2 c.args.old.now _ c.requires (grind (arith, common_steps)))

pub returns-in_err-header_fault : goal.returns-in_err-header_fault
returns-in_err-header_fault c = fault_passed_on c.from_residual.result _ c.from_residual.ensures.1 ∙ c.in_err-header_fault.ensures v2 refl c.requires

pub header_fault-requires : goal.header_fault-requires
header_fault-requires c = omega arith
