-- A line for each user from the counter, what the user paid and holds, the gift and the part.
use Rattle.std.specs.Prelude.{List, [], ◌∷◌, ℕ, pos, ◌+ℤ◌, ◌-ℤ◌}
use Rattle.std.proofs.Math.IntN.{sub_ℕ}
use Rattle.format.specs.declared.Line.{Line}
use Rattle.rules.specs.Tests.{eight_at}

-- "Balance is raw − gift + part."
abbrev pub line_from : (counter paid held gift part : ℕ) → Line
line_from n p h g q = record { counter = n; raw = sub_ℕ p h; gift = g; part = q; balance = sub_ℕ p h -ℤ pos g +ℤ pos q }

unfoldable pub line_at : (counters paid held gifts parts : List ℕ) → ℕ → Line
line_at f p h g q u = line_from (eight_at f u) (eight_at p u) (eight_at h u) (eight_at g u) (eight_at q u)

unfoldable pub lines_from : (counters paid held gifts parts : List ℕ) → List Line
lines_from f p h g q =
    line_at f p h g q 0 ∷ line_at f p h g q 1 ∷ line_at f p h g q 2 ∷ line_at f p h g q 3 ∷ line_at f p h g q 4 ∷ line_at f p h g q 5 ∷ line_at f p h g q 6 ∷ line_at f p h g q 7 ∷ []
