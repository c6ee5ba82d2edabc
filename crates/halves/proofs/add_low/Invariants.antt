use Rattle.std.proofs.Common.{◌%◌}
use Rattle.rules.specs.Tests.{eight_at}
use Rattle.amounts.proofs.Amounts.{AddedBelow}
use Rattle.halves.proofs.add_low.Given as goal

abbrev pub invariant-loop-u : goal.invariant-loop-u
invariant-loop-u l = AddedBelow l.u l.initial.low (λ v. eight_at l.s v % 65_536) l.low
