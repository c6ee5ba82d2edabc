-- Eight amounts, one for each user, and their bound.
use Rattle.std.specs.Prelude.{◌≡◌, List, ℕ, ◌≤◌, length}
use Rattle.rules.specs.Tests.{eight_at}

-- Eight amounts, none above m.
abbrev pub UpTo : ℕ → List ℕ → Type 0
UpTo m l = (length l ≡ 8) × ((u : ℕ) → eight_at l u ≤ m)
