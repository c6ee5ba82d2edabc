-- Each day up to the last lies in exactly one month, and no month of the calendar holds a later day.
use mathlib.Core.Path.{◌≡◌, refl}
use mathlib.Core.Bool.{Bool, true, false}
use Prim.Native.Nat.{ℕ, zero, suc, ◌≤◌, ◌<◌}
use native.Mathlib.Omega.{arith}
use lib.Dec.{leb, ltb}
use borrow.Author.Tests.{ltb-true, ltb-false, leb-true, le-leb}
use Rattle.format.specs.Layout.{last_day, month_count}
use Rattle.calendar.specs.Calendar.{leap_year, days_of, year_of, month_of, month_length, first_day, last_day_of, in_month}
use Rattle.calendar.proofs.Tests.{and_left, and_right}
use Rattle.calendar.proofs.Months.{last_before_next, first_days_rise, months_end}

-- Edges to check by the standard: of January 2000; of February 2000, with its 29th; of December 2099.
january_2000 : (in_month 0 0 ≡ true) × (in_month 0 30 ≡ true) × (in_month 0 31 ≡ false)
unfolding leap_year days_of year_of month_of month_length first_day last_day_of in_month
january_2000 = (refl, refl, refl)

february_2000 : (in_month 1 30 ≡ false) × (in_month 1 31 ≡ true) × (in_month 1 59 ≡ true) × (in_month 1 60 ≡ false)
unfolding leap_year days_of year_of month_of month_length first_day last_day_of in_month
february_2000 = (refl, refl, refl, refl)

december_2099 : (in_month 1199 36_493 ≡ false) × (in_month 1199 36_494 ≡ true) × (in_month 1199 36_524 ≡ true) × (in_month 1199 36_525 ≡ false)
unfolding leap_year days_of year_of month_of month_length first_day last_day_of in_month
december_2099 = (refl, refl, refl, refl)

-- To lie in a month is to lie from its first day to its last.
pub from_first : (m d : ℕ) → in_month m d ≡ true → first_day m ≤ d
unfolding in_month
from_first m d e = leb-true (first_day m) d (and_left (leb (first_day m) d) (leb d (last_day_of m)) e)

pub to_last : (m d : ℕ) → in_month m d ≡ true → d ≤ last_day_of m
unfolding in_month
to_last m d e = leb-true d (last_day_of m) (and_right (leb (first_day m) d) (leb d (last_day_of m)) e)

pub from_first_to_last : (m d : ℕ) → first_day m ≤ d → d ≤ last_day_of m → in_month m d ≡ true
unfolding in_month
from_first_to_last m d h k = rw (le-leb (first_day m) d h, le-leb d (last_day_of m) k)

-- Each day up to the last lies in a month,
month_before : (n d : ℕ) → d < first_day n → (m : ℕ) × (m < n) × (in_month m d ≡ true)
unfolding first_day
month_before zero d h = absurd (omega arith)
month_before (suc n) d h = go (ltb d (first_day n)) refl (λ k. month_before n d k)
  where
    go : (b : Bool) → ltb d (first_day n) ≡ b → (d < first_day n → (m : ℕ) × (m < n) × (in_month m d ≡ true)) → (m : ℕ) × (m < suc n) × (in_month m d ≡ true)
    go true e earlier = let p = earlier (ltb-true d (first_day n) e) in (p.0, omega arith, p.2)
    go false e earlier = (n, omega arith, from_first_to_last n d (ltb-false d (first_day n) e) (omega (arith, last_before_next n)))

pub some_month : (d : ℕ) → d ≤ last_day → (m : ℕ) × (m < month_count) × (in_month m d ≡ true)
some_month d h = month_before month_count d (omega (arith, months_end))

-- in no other,
not_later : (m n d : ℕ) → in_month m d ≡ true → in_month n d ≡ true → ¬ (m < n)
not_later m n d p q k = omega (arith, to_last m d p, last_before_next m, first_days_rise (suc m) n k, from_first n d q)

pub one_month : (m n d : ℕ) → in_month m d ≡ true → in_month n d ≡ true → m ≡ n
one_month m n d p q = omega (arith, not_later m n d p q, not_later n m d q p)

-- and a later day in none of the calendar.
pub up_to_last_day : (m d : ℕ) → m < month_count → in_month m d ≡ true → d ≤ last_day
up_to_last_day m d h p = omega (arith, to_last m d p, last_before_next m, first_days_rise (suc m) month_count h, months_end)
