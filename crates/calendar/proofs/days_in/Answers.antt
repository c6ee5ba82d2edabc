use mathlib.Core.Path.{sym}
use Rattle.calendar.specs.Calendar.{days_of}
use Rattle.calendar.proofs.days_in.Goals as goal

pub returns-in-January : goal.returns-in-January
unfolding days_of
returns-in-January c = rw c.in-January.is

pub returns-then-is_leap : goal.returns-then-is_leap
unfolding days_of
returns-then-is_leap c = rw (c.in-February.is, sym c.is_leap.ensures, c.if-is_leap.true)

pub returns-else-is_leap : goal.returns-else-is_leap
unfolding days_of
returns-else-is_leap c = rw (c.in-February.is, sym c.is_leap.ensures, c.if-is_leap.false)

pub returns-in-March : goal.returns-in-March
unfolding days_of
returns-in-March c = rw c.in-March.is

pub returns-in-April : goal.returns-in-April
unfolding days_of
returns-in-April c = rw c.in-April.is

pub returns-in-May : goal.returns-in-May
unfolding days_of
returns-in-May c = rw c.in-May.is

pub returns-in-June : goal.returns-in-June
unfolding days_of
returns-in-June c = rw c.in-June.is

pub returns-in-July : goal.returns-in-July
unfolding days_of
returns-in-July c = rw c.in-July.is

pub returns-in-August : goal.returns-in-August
unfolding days_of
returns-in-August c = rw c.in-August.is

pub returns-in-September : goal.returns-in-September
unfolding days_of
returns-in-September c = rw c.in-September.is

pub returns-in-October : goal.returns-in-October
unfolding days_of
returns-in-October c = rw c.in-October.is

pub returns-in-November : goal.returns-in-November
unfolding days_of
returns-in-November c = rw c.in-November.is

pub returns-in-December : goal.returns-in-December
unfolding days_of
returns-in-December c = rw c.in-December.is
