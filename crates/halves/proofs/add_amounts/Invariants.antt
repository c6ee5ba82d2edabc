use Rattle.rules.specs.Tests.{eight_at}
use Rattle.amounts.proofs.Amounts.{AddedBelow}
use Rattle.halves.proofs.add_amounts.Given as goal

abbrev pub invariant-loop-u : goal.invariant-loop-u
invariant-loop-u l = AddedBelow l.u l.initial.sums (eight_at l.s) l.sums
