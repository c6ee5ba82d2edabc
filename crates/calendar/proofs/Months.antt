-- Laws of months: leap years, lengths, first and last days, and the end of the calendar.
use mathlib.Core.Path.{◌≡◌, refl, ap}
use mathlib.Core.Bool.{Bool, true, false, cond}
use mathlib.Core.Logic.{⊎_elim}
use Prim.Native.Nat.{ℕ, zero, suc, ◌+◌, ◌≤◌, ◌<◌}
use native.Mathlib.Nat.{le_of_eq, le_of_lt, le_trans, le-suc_iff}
use native.Mathlib.Numerals.{add-one}
use native.Mathlib.Omega.{arith}
use Rattle.format.specs.Layout.{last_day, month_count}
use Rattle.calendar.specs.declared.Month.{Month}
use Rattle.calendar.specs.declared.Month.TheVariants.{January, February, March, April, May, June, July, August, September, October, November, December}
use Rattle.calendar.specs.Calendar.{leap_year, days_of, year_of, month_of, month_length, first_day, last_day_of}

-- Years to check by the standard. Of those by a hundred the calendar has 2000 alone, so its table says nothing of 1900 and 2100.
leap_years : (leap_year 2000 ≡ true) × (leap_year 2004 ≡ true) × (leap_year 2096 ≡ true)
unfolding leap_year
leap_years = (refl, refl, refl)

common_years : (leap_year 1900 ≡ false) × (leap_year 2001 ≡ false) × (leap_year 2099 ≡ false) × (leap_year 2100 ≡ false)
unfolding leap_year
common_years = (refl, refl, refl, refl)

-- The first month number and the last.
first_month : (year_of 0 ≡ 2000) × (month_of 0 ≡ January)
unfolding year_of month_of
first_month = (refl, refl)

last_month : (year_of 1199 ≡ 2099) × (month_of 1199 ≡ December)
unfolding year_of month_of
last_month = (refl, refl)

-- A month has 28 to 31 days.
february_between : (leap : Bool) → (28 ≤ cond leap 29 28) × (cond leap 29 28 ≤ 31)
february_between true = omega arith
february_between false = omega arith

days_between : (y : ℕ) (m : Month) → (28 ≤ days_of y m) × (days_of y m ≤ 31)
unfolding days_of
days_between y January = omega arith
days_between y February = february_between (leap_year y)
days_between y March = omega arith
days_between y April = omega arith
days_between y May = omega arith
days_between y June = omega arith
days_between y July = omega arith
days_between y August = omega arith
days_between y September = omega arith
days_between y October = omega arith
days_between y November = omega arith
days_between y December = omega arith

pub length_between : (m : ℕ) → (28 ≤ month_length m) × (month_length m ≤ 31)
unfolding month_length
length_between m = days_between (year_of m) (month_of m)

-- A month's last day is the day before the next month's first; said again of m + 1, as code has it.
pub last_before_next : (m : ℕ) → suc (last_day_of m) ≡ first_day (suc m)
unfolding first_day last_day_of
last_before_next m = omega (arith, length_between m)

pub first_after_last : (m : ℕ) → first_day (m + 1) ≡ last_day_of m + 1
first_after_last m = omega (arith, ap first_day (add-one m), last_before_next m)

-- First days rise.
pub next_first : (m : ℕ) → first_day (m + 1) ≡ first_day m + month_length m
unfolding first_day
next_first m = rw add-one

pub first_before_next : (m : ℕ) → first_day m < first_day (suc m)
unfolding first_day
first_before_next m = omega (arith, length_between m)

pub first_days_rise : (m n : ℕ) → m ≤ n → first_day m ≤ first_day n
first_days_rise m zero h = let e : m ≡ 0 = omega arith in le_of_eq (ap first_day e)
first_days_rise m (suc n) h =
    ⊎_elim (λ k. le_trans (first_days_rise m n k) (le_of_lt (first_before_next n))) (λ e. le_of_eq (ap first_day e)) (le-suc_iff.0 h)

-- The months end with the last day.
pub months_end : first_day month_count ≡ suc last_day
unfolding leap_year days_of year_of month_of month_length first_day
months_end = refl

pub ends_by_last_day : (m : ℕ) → m < month_count → first_day m + month_length m ≤ suc last_day
ends_by_last_day m h = omega (arith, next_first m, first_days_rise (m + 1) month_count (omega arith), months_end)
