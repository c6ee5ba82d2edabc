-- The whole table is tested here, by computation.
use mathlib.Core.Path.{refl}
use Rattle.calendar.specs.Calendar.{leap_year, days_of, year_of, month_of, month_length, rises}
use Rattle.calendar.proofs.Entries.{tabled}
use Rattle.calendar.proofs.first_days.Goals as goal

pub returns : goal.returns
unfolding leap_year days_of year_of month_of month_length rises
returns c = tabled _ refl
