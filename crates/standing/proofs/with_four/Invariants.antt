use Rattle.std.proofs.Common.{◌≡◌}
use Rattle.images.specs.Image.{decode}
use Rattle.standing.specs.Standing.{standing_to}
use Rattle.standing.proofs.with_four.Given as goal

abbrev pub invariant-loop-c : goal.invariant-loop-c
invariant-loop-c l = l.s ≡ standing_to l.c (decode l.image) l.rule l.g l.u
