use Rattle.calendar.specs.Calendar.{month_of}
use Rattle.std.proofs.Common.{rules}
use Rattle.calendar.proofs.month_of.Goals as goal

pub returns : goal.returns
unfolding month_of
returns c = search rules
