use Rattle.std.proofs.Common.{◌≡◌, true}
use Rattle.rules.specs.Tests.{every_below}
use Rattle.agree.specs.Agreed.{agree_at}
use Rattle.agree.proofs.expenses_agree.Given as goal

abbrev pub invariant-loop-c : goal.invariant-loop-c
invariant-loop-c l = every_below l.c (agree_at l.own l.other) ≡ true
