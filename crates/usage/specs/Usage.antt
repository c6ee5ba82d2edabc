-- Parts by use as code has them: from a group's eight counters and eight figures, as lists of eight.
use Rattle.std.specs.Prelude.{List, ℕ, ◌+◌, ◌-◌, ◌*◌, ltb}
use Rattle.rules.specs.Tests.{number, only, sum8, eight_at, eight_of}
use Rattle.rules.specs.Ledger.{member_in}
use Rattle.rules.specs.Parts.{rank_in, largest, part_by_use}

-- A member's quotient, and a cent more for the largest remainders.
abbrev pub cents_at : (counters quotients remainders : List ℕ) → (left u : ℕ) → ℕ
cents_at f q r k u = only (member_in (eight_at f) u) (eight_at q u + number (ltb (rank_in (largest (eight_at r)) (member_in (eight_at f)) u) k))

unfoldable pub cents_from : (counters quotients remainders : List ℕ) → (left : ℕ) → List ℕ
cents_from f q r k = eight_of (cents_at f q r k)

-- The same from one number for each user, the larger the earlier in the order of the largest remainders; 0 is a non-member's.
abbrev pub key_at : (counters remainders : List ℕ) → ℕ → ℕ
key_at f r u = only (member_in (eight_at f) u) (8 * eight_at r u + (8 - u))

unfoldable pub keys_from : (counters remainders : List ℕ) → List ℕ
keys_from f r = eight_of (key_at f r)

unfoldable pub rank_by : (keys : List ℕ) → (mine : ℕ) → ℕ
rank_by k x = sum8 (λ w. number (ltb x (eight_at k w)))

-- A member's quotient, and a cent more where fewer members come before him than cents are left over.
unfoldable pub cents_by : (counters quotients keys : List ℕ) → (left u : ℕ) → ℕ
cents_by f q k left u = only (member_in (eight_at f) u) (eight_at q u + number (ltb (rank_by k (eight_at k u)) left))

-- The parts by use.
unfoldable pub by_use_from : (counters : List ℕ) → (gifts : ℕ) → (weights : List ℕ) → List ℕ
by_use_from f g w = eight_of (part_by_use (member_in (eight_at f)) g (eight_at w))
