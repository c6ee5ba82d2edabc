-- The parts of a group's gifts: document 01, 'Balances', and document 02, A3. A group is given by its members, its gifts and each user's weight.
use Rattle.std.specs.Prelude.{Bool, cond, ◌&&◌, ℕ, ◌+◌, ◌-◌, ◌*◌, ◌/◌, ◌%◌, ltb, eqb}
use Rattle.format.specs.Layout.{use_rule}
use Rattle.rules.specs.Tests.{number, only, sum8}

-- The sum of f over the members; how many they are.
abbrev pub sum_over : (member : ℕ → Bool) → (f : ℕ → ℕ) → ℕ
sum_over member f = sum8 (λ u. only (member u) (f u))

unfoldable pub members_in : (member : ℕ → Bool) → ℕ
members_in member = sum8 (λ u. number (member u))

-- How many members come before u; `before w u` says that w does.
unfoldable pub rank_in : (before : ℕ → ℕ → Bool) → (member : ℕ → Bool) → ℕ → ℕ
rank_in before member u = sum8 (λ w. only (before w u) (number (member w)))

-- Rule 1. "Part: total gifts div members, one cent more for the first (total mod members) members by user number; non-members 0."
unfoldable pub part_equally : (member : ℕ → Bool) → (gifts : ℕ) → ℕ → ℕ
part_equally member gifts u = only (member u) (gifts / members_in member + number (ltb (rank_in ltb member u) (gifts % members_in member)))

-- Rule 2. "total weight": the members'.
unfoldable pub weights_in : (member : ℕ → Bool) → (weight : ℕ → ℕ) → ℕ
weights_in member weight = sum_over member weight

-- "the largest remainders, lower user number first": w comes before u.
unfoldable pub largest : (remainder : ℕ → ℕ) → ℕ → ℕ → Bool
largest remainder w u = cond (eqb (remainder w) (remainder u)) (ltb w u) (ltb (remainder u) (remainder w))

module _ (member : ℕ → Bool) (gifts : ℕ) (weight : ℕ → ℕ) where
  -- "gifts × weight div total weight", and what that leaves.
  unfoldable pub quotient : ℕ → ℕ
  quotient u = gifts * weight u / weights_in member weight

  unfoldable pub remainder : ℕ → ℕ
  remainder u = gifts * weight u % weights_in member weight

  -- "the cents left over"
  unfoldable pub left_over : ℕ
  left_over = gifts - sum_over member quotient

  -- "the part is gifts × weight div total weight, and the cents left over go one each to the largest remainders, lower user number first"
  unfoldable pub part_by_use : ℕ → ℕ
  part_by_use u = only (member u) (quotient u + number (ltb (rank_in (largest remainder) member u) left_over))

  -- "Rule 1 is today's part"; "When all members' weights are zero, rule 1 applies."
  unfoldable pub part_in : (rule : ℕ) → ℕ → ℕ
  part_in rule u = cond (eqb rule use_rule && ltb 0 (weights_in member weight)) (part_by_use u) (part_equally member gifts u)
