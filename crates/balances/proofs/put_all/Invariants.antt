use Rattle.images.specs.Image.{decode}
use Rattle.balances.proofs.Groups.{Written}
use Rattle.balances.proofs.put_all.Given as goal

abbrev pub invariant-loop-g : goal.invariant-loop-g
invariant-loop-g l = Written l.initial.balances (decode l.image) l.g l.balances
