use mathlib.Core.Path.{refl}
use Rattle.calendar.specs.Calendar.{year_of}
use Rattle.calendar.proofs.year_of.Goals as goal

pub returns : goal.returns
unfolding year_of
returns c = refl
