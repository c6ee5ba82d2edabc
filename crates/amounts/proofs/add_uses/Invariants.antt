use Rattle.std.proofs.Common.{ltb}
use Rattle.rules.specs.Tests.{number, eight_at}
use Rattle.amounts.proofs.Amounts.{AddedBelow}
use Rattle.amounts.proofs.add_uses.Given as goal

abbrev pub invariant-loop-u : goal.invariant-loop-u
invariant-loop-u l = AddedBelow l.u l.initial.uses (λ v. number (ltb 0 (eight_at l.s v))) l.uses
