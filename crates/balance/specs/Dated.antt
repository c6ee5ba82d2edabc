-- A ledger's expenses of the days from a first to a last alone.
use Rattle.std.specs.Prelude.{ℕ}
use Rattle.calendar.specs.Calendar.{between}
use Rattle.rules.specs.Ledger.{Ledger}
use Rattle.rules.specs.Month.{of_days}

abbrev pub from_to : (first last : ℕ) → Ledger → Ledger
from_to first last l = of_days (between first last) l
