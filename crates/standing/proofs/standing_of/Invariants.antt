use Rattle.std.proofs.Common.{◌≡◌, ◌*◌}
use Rattle.images.specs.Image.{decode}
use Rattle.standing.specs.Standing.{standing_to}
use Rattle.standing.proofs.standing_of.Given as goal

abbrev pub invariant-loop-row : goal.invariant-loop-row
invariant-loop-row l = l.s ≡ standing_to (4 * l.row) (decode l.image) l.rule l.g l.u
