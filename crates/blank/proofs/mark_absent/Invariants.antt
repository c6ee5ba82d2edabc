use Rattle.std.proofs.Common.{◌≡◌}
use Rattle.blank.specs.Blank.{absent_below}
use Rattle.blank.proofs.mark_absent.Given as goal

abbrev pub invariant-loop-c : goal.invariant-loop-c
invariant-loop-c l = l.image ≡ absent_below l.c l.initial.image
