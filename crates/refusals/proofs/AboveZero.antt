-- No refusal has the number 0.
use Rattle.std.proofs.Common.{◌≢◌, arith}
use Rattle.refusals.specs.declared.Fault.{Fault}
use Rattle.refusals.specs.declared.Fault.TheVariants.{Length, Mark, Version, Header, Expense}
use Rattle.refusals.specs.declared.Refusal.{Refusal}
use Rattle.refusals.specs.declared.Refusal.TheVariants.{Image, Other, BadAction, NotHome, GroupNotOwned, GroupPresent, GroupAbsent, NotMember, AlreadyMember, Owes, CounterFull, ExpenseNotOwned, ExpensePresent, ExpenseAbsent, NotPayer, BadTotal, HasGroup, NotInGroup, ShareOfNonMember, Deleted, NoShare, AlreadyAcknowledged, VersionFull, StillMember, SameUser, HomesDiffer, Conflict, BadLines, GroupEmpty, SharePending, BadMonth}
use Rattle.refusals.specs.Numbers.{fault_number, number}

pub fault_above_zero : (f : Fault) → fault_number f ≢ 0
fault_above_zero Length z = absurd (omega (arith, z))
fault_above_zero Mark z = absurd (omega (arith, z))
fault_above_zero Version z = absurd (omega (arith, z))
fault_above_zero Header z = absurd (omega (arith, z))
fault_above_zero Expense z = absurd (omega (arith, z))

pub above_zero : (r : Refusal) → number r ≢ 0
above_zero (Image f) z = fault_above_zero f z
above_zero (Other f) z = absurd (omega (arith, z))
above_zero BadAction z = absurd (omega (arith, z))
above_zero NotHome z = absurd (omega (arith, z))
above_zero GroupNotOwned z = absurd (omega (arith, z))
above_zero GroupPresent z = absurd (omega (arith, z))
above_zero GroupAbsent z = absurd (omega (arith, z))
above_zero NotMember z = absurd (omega (arith, z))
above_zero AlreadyMember z = absurd (omega (arith, z))
above_zero Owes z = absurd (omega (arith, z))
above_zero CounterFull z = absurd (omega (arith, z))
above_zero ExpenseNotOwned z = absurd (omega (arith, z))
above_zero ExpensePresent z = absurd (omega (arith, z))
above_zero ExpenseAbsent z = absurd (omega (arith, z))
above_zero NotPayer z = absurd (omega (arith, z))
above_zero BadTotal z = absurd (omega (arith, z))
above_zero HasGroup z = absurd (omega (arith, z))
above_zero NotInGroup z = absurd (omega (arith, z))
above_zero ShareOfNonMember z = absurd (omega (arith, z))
above_zero Deleted z = absurd (omega (arith, z))
above_zero NoShare z = absurd (omega (arith, z))
above_zero AlreadyAcknowledged z = absurd (omega (arith, z))
above_zero VersionFull z = absurd (omega (arith, z))
above_zero StillMember z = absurd (omega (arith, z))
above_zero SameUser z = absurd (omega (arith, z))
above_zero HomesDiffer z = absurd (omega (arith, z))
above_zero Conflict z = absurd (omega (arith, z))
above_zero BadLines z = absurd (omega (arith, z))
above_zero GroupEmpty z = absurd (omega (arith, z))
above_zero SharePending z = absurd (omega (arith, z))
above_zero BadMonth z = absurd (omega (arith, z))
