use Rattle.std.proofs.Common.{◌≡◌, ℕ, ◌<◌, length}
use Rattle.format.specs.Layout.{user_count}
use Rattle.rules.specs.Tests.{sum8, sum_below, eight_at, eight_of}
use Rattle.gather.specs.Rows.{whole_at}
use Rattle.gather.proofs.Rows.sums_at.Given as goal

abbrev pub invariant-loop-p : goal.invariant-loop-p
invariant-loop-p l =
    (length l.paid ≡ user_count) × ((q : ℕ) → q < l.p → eight_at l.paid q ≡ sum8 (whole_at l.self l.g q)) × (l.held ≡ eight_of (λ u. sum_below l.p (λ q. whole_at l.self l.g q u)))
