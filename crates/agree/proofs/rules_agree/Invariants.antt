use Rattle.std.proofs.Common.{◌≡◌, true}
use Rattle.rules.specs.Tests.{every_below}
use Rattle.agree.specs.Agreed.{rules_agree_at}
use Rattle.agree.proofs.rules_agree.Given as goal

abbrev pub invariant-loop-g : goal.invariant-loop-g
invariant-loop-g l = every_below l.g (rules_agree_at l.own l.other) ≡ true
