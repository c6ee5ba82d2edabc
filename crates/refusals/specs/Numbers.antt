-- The number of each refusal, and the answer of a call by number: 0 where nothing is refused.
use Rattle.std.specs.Prelude.{ℕ, ◌+◌}
use Rattle.std.specs.declared.result.Result.{Result}
use Rattle.std.specs.declared.result.Result.TheVariants.{Ok, Err}
use Rattle.refusals.specs.declared.Fault.{Fault}
use Rattle.refusals.specs.declared.Fault.TheVariants.{Length, Mark, Version, Header, Expense}
use Rattle.refusals.specs.declared.Refusal.{Refusal}
use Rattle.refusals.specs.declared.Refusal.TheVariants.{Image, Other, BadAction, NotHome, GroupNotOwned, GroupPresent, GroupAbsent, NotMember, AlreadyMember, Owes, CounterFull, ExpenseNotOwned, ExpensePresent, ExpenseAbsent, NotPayer, BadTotal, HasGroup, NotInGroup, ShareOfNonMember, Deleted, NoShare, AlreadyAcknowledged, VersionFull, StillMember, SameUser, HomesDiffer, Conflict, BadLines, GroupEmpty, SharePending, BadMonth}

abbrev pub fault_number : Fault → ℕ
fault_number Length = 1
fault_number Mark = 2
fault_number Version = 3
fault_number Header = 4
fault_number Expense = 5

-- 20 is no refusal's number.
abbrev pub number : Refusal → ℕ
number (Image f) = fault_number f
number (Other f) = 40 + fault_number f
number BadAction = 6
number NotHome = 7
number GroupNotOwned = 8
number GroupPresent = 9
number GroupAbsent = 10
number NotMember = 11
number AlreadyMember = 12
number Owes = 13
number CounterFull = 14
number ExpenseNotOwned = 15
number ExpensePresent = 16
number ExpenseAbsent = 17
number NotPayer = 18
number BadTotal = 19
number HasGroup = 21
number NotInGroup = 22
number ShareOfNonMember = 23
number Deleted = 24
number NoShare = 25
number AlreadyAcknowledged = 26
number VersionFull = 27
number StillMember = 28
number SameUser = 29
number HomesDiffer = 30
number Conflict = 31
number BadLines = 32
number GroupEmpty = 33
number SharePending = 34
number BadMonth = 35

-- What a call answers, by number.
abbrev pub code : {A : Type 0} → Result A Refusal → ℕ
code (Ok _) = 0
code (Err r) = number r

abbrev pub fault_code : {A : Type 0} → Result A Fault → ℕ
fault_code (Ok _) = 0
fault_code (Err f) = fault_number f
