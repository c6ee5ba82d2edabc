-- What tests on one expense's record say, its words taken eight bytes at a time.
use Rattle.std.specs.Prelude.{◌≡◌, ℕ, ◌*◌, Bool, cond, not, ◌&&◌, ◌⊎◌, List, [], ◌∷◌, length, ◌≤◌, take, drop, ◌==◌, bit_or, nat_eq}
use Rattle.format.specs.Layout.{Version, v1, current, no_expense}
use Rattle.format.specs.Bytes.{Bytes}
use Rattle.format.specs.declared.ExpenseRecord.{ExpenseRecord}
use Rattle.rules.specs.Tests.{all_of, every8, eight_at}
use Rattle.images.specs.Meaning.{blank_record}

-- How many bytes an expense has: in the older versions, and in the current one; the version by which one of so many bytes is checked, and the bytes of expense c
-- of those that stand one behind the other.
abbrev pub Sized : ℕ → Type 0
Sized n = (n ≡ 40) ⊎ (n ≡ 42)

-- The bytes of an expense of that size. In the older versions nothing stands behind them, since no day is read there.
abbrev pub Part : ℕ → Bytes → Type 0
Part n p = ((n ≡ 40) × (length p ≡ 40)) ⊎ ((n ≡ 42) × (42 ≤ length p))

abbrev pub sized_as : ℕ → Version
sized_as n = cond (n == 40) v1 current

abbrev pub among : ℕ → Bytes → ℕ → Bytes
among n s c = take n (drop (c * n) s)

-- The first eight bytes are those of no expense; there is no share.
unfoldable pub blank_head : ExpenseRecord → Bool
blank_head e = all_of ((e.payer == no_expense) ∷ (e.group == 0) ∷ (e.deleted == 0) ∷ (e.acknowledged == 0) ∷ (e.version == 0) ∷ [])

abbrev pub unshared : List ℕ → Bool
unshared s = every8 (λ u. nat_eq (eight_at s u) 0)

-- Nothing stands behind the head: no share and no day.
abbrev pub blank_tail : ExpenseRecord → Bool
blank_tail e = unshared e.shares && e.day == 0

-- "255 for no cost, then the other 39 bytes are zero"; "an absent cost has zero" for its day too.
unfoldable pub absent_record : ExpenseRecord → Bool
absent_record e = e.payer == no_expense && blank_record e

-- The bits that stand in some share of an even user, and of an odd one.
abbrev pub evens : List ℕ → ℕ
evens s = bit_or (bit_or (eight_at s 0) (eight_at s 2)) (bit_or (eight_at s 4) (eight_at s 6))

abbrev pub odds : List ℕ → ℕ
odds s = bit_or (bit_or (eight_at s 1) (eight_at s 3)) (bit_or (eight_at s 5) (eight_at s 7))

-- The record of an expense that is there and in group g, deleted or not.
abbrev pub present_in : ExpenseRecord → ℕ → Bool
present_in e g = e.group == g && not (e.payer == no_expense)

-- The same of one that is not deleted.
abbrev pub stands_in : ExpenseRecord → ℕ → Bool
stands_in e g = present_in e g && not (e.deleted == 1)
