use Rattle.rules.specs.Tests.{eight_at}
use Rattle.amounts.proofs.Amounts.{AddedBelow}
use Rattle.amounts.proofs.add_shares.Given as goal

abbrev pub invariant-loop-u : goal.invariant-loop-u
invariant-loop-u l = AddedBelow l.u l.initial.held (eight_at l.s) l.held
