-- Amounts in halves of sixteen bits.
use Rattle.std.specs.Prelude.{List, ℕ, ◌+◌, ◌*◌}
use Rattle.rules.specs.Tests.{eight_at}

-- The whole amount of user u.
abbrev pub whole_of : (low high : List ℕ) → ℕ → ℕ
whole_of a b u = eight_at a u + 65_536 * eight_at b u
