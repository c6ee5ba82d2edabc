use Rattle.std.proofs.Common.{◌*◌}
use Rattle.images.specs.Image.{decode}
use Rattle.balance.specs.Sums.{together, SumsTo}
use Rattle.balance.specs.Dated.{from_to}
use Rattle.balance.proofs.sums_of.Given as goal

abbrev pub invariant-loop-row : goal.invariant-loop-row
invariant-loop-row l = SumsTo (from_to l.first l.last (decode l.image)) l.rule l.g (4 * l.row) (together l.paid l.held l.uses l.expenses)
