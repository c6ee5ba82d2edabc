use Rattle.std.proofs.Common.{◌≡◌, ℕ, ◌*◌, ◌^◌, ◌+◌, ◌<◌, Bool}
use Rattle.rules.specs.Tests.{number, sum_below}
use Rattle.sets.specs.Marked.{Marks}
use Rattle.sets.proofs.high_mask.Given as goal

abbrev pub invariant-loop-u : goal.invariant-loop-u
invariant-loop-u g l =
    ((p : ℕ → Bool) (d : _) → Marks (goal.F-post g l.test) l.items d p → l.set ≡ 256 * sum_below l.u (λ w. number (p w) * 2 ^ w))
    × (l.set < 2 ^ (8 + l.u))
