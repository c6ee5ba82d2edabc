use mathlib.Core.Path.{refl}
use Rattle.calendar.specs.Calendar.{leap_year}
use Rattle.calendar.proofs.is_leap.Goals as goal

pub returns : goal.returns
unfolding leap_year
returns c = refl
