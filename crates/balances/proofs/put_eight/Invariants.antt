use Rattle.std.proofs.Common.{◌≡◌, ◌*◌, length}
use Rattle.std.proofs.Math.Seq.{paste}
use Rattle.format.specs.Layout.{balances_size}
use Rattle.balances.proofs.put_eight.Given as goal

abbrev pub invariant-loop-u : goal.invariant-loop-u
invariant-loop-u l = (length l.balances ≡ balances_size) × (l.balances ≡ paste l.initial.balances (8 * l.g) l.eight l.u)
