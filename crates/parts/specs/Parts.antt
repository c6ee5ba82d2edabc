-- Gifts and parts from a group's eight counters and what each paid and holds, as code has them: lists of eight.
use Rattle.std.specs.Prelude.{not, List, ℕ, ◌+◌, ◌-◌, ◌%◌, ltb, eqb}
use Rattle.rules.specs.Tests.{number, only, eight_at, eight_of}
use Rattle.rules.specs.Ledger.{member_in}
use Rattle.rules.specs.Parts.{rank_in, part_equally, part_in}

-- "Gift is raw for a non-member with raw above zero, else 0."
abbrev pub gift_from : (counter paid held : ℕ) → ℕ
gift_from n p h = only (not (eqb (n % 2) 1)) (p - h)

unfoldable pub gift_at : (counters paid held : List ℕ) → ℕ → ℕ
gift_at f p h u = gift_from (eight_at f u) (eight_at p u) (eight_at h u)

unfoldable pub gifts_from : (counters paid held : List ℕ) → List ℕ
gifts_from f p h = eight_of (gift_at f p h)

-- Members with a smaller user number.
unfoldable pub ranks_from : List ℕ → List ℕ
ranks_from f = eight_of (rank_in ltb (member_in (eight_at f)))

-- A member's equal part: what each gets, and one cent more for the first members.
abbrev pub equal_part : (counter rank each rest : ℕ) → ℕ
equal_part n k q r = only (eqb (n % 2) 1) (q + number (ltb k r))

unfoldable pub equal_at : (counters ranks : List ℕ) → (each rest u : ℕ) → ℕ
equal_at f k q r u = equal_part (eight_at f u) (eight_at k u) q r

unfoldable pub equal_eight : (counters ranks : List ℕ) → (each rest : ℕ) → List ℕ
equal_eight f k q r = eight_of (equal_at f k q r)

-- The equal parts, and those of a rule.
unfoldable pub equal_from : (counters : List ℕ) → (gifts : ℕ) → List ℕ
equal_from f g = eight_of (part_equally (member_in (eight_at f)) g)

unfoldable pub parts_from : (rule : ℕ) → (counters : List ℕ) → (gifts : ℕ) → (weights : List ℕ) → List ℕ
parts_from n f g w = eight_of (part_in (member_in (eight_at f)) g (eight_at w) n)
