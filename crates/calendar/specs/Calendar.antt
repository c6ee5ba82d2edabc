-- Document 02, A6 and A7: days and months, "Gregorian calendar as in ISO 8601". Days count from 1 January 2000, day 0, and months from January 2000, month 0.
use Rattle.std.specs.Prelude.{◌≡◌, Bool, cond, not, ◌&&◌, ◌||◌, List, [], ◌∷◌, ℕ, zero, suc, ◌+◌, ◌-◌, ◌/◌, ◌%◌, ◌<◌, leb, eqb, get_or, length}
use Rattle.format.specs.Layout.{last_day, month_count}
use Rattle.calendar.specs.declared.Month.{Month}
use Rattle.calendar.specs.declared.Month.TheVariants.{January, February, March, April, May, June, July, August, September, October, November, December}

-- A year is a leap year by four, not by a hundred, but by four hundred.
unfoldable pub leap_year : ℕ → Bool
leap_year y = (eqb (y % 4) 0 && not (eqb (y % 100) 0)) || eqb (y % 400) 0

-- "a month's length as twelve cases with February's leap-year rule", to be laid beside the standard. The months are those of the code's enum.
unfoldable pub days_of : (year : ℕ) → Month → ℕ
days_of y January = 31
days_of y February = cond (leap_year y) 29 28
days_of y March = 31
days_of y April = 30
days_of y May = 31
days_of y June = 30
days_of y July = 31
days_of y August = 31
days_of y September = 30
days_of y October = 31
days_of y November = 30
days_of y December = 31

abbrev pub months : List Month
months = January ∷ February ∷ March ∷ April ∷ May ∷ June ∷ July ∷ August ∷ September ∷ October ∷ November ∷ December ∷ []

-- "Months are numbered 0 to 1199 from January 2000": the year of a month number, its month in that year, and that month's days.
unfoldable pub year_of : ℕ → ℕ
year_of m = 2000 + m / 12

unfoldable pub month_of : ℕ → Month
month_of m = get_or months (m % 12) January

unfoldable pub month_length : ℕ → ℕ
month_length m = days_of (year_of m) (month_of m)

-- "to begin with day 0 and to rise each time by the length of the month before"
unfoldable pub first_day : ℕ → ℕ
first_day zero = 0
first_day (suc m) = first_day m + month_length m

unfoldable pub last_day_of : ℕ → ℕ
last_day_of m = first_day m + month_length m - 1

-- "from the month's first day to its last, both included"
abbrev pub between : (first last : ℕ) → ℕ → Bool
between first last d = leb first d && leb d last

unfoldable pub in_month : (month day : ℕ) → Bool
in_month m d = between (first_day m) (last_day_of m) d

-- What is shown of a table: "the first days of all 1,200 months", "each of the 1,200 months ends the day before the table's next first day, the last on day 36,524".
pub record Tabled (table : List ℕ) : Type 0 where
  pub all_months : length table ≡ month_count
  pub first_days : (m : ℕ) → m < month_count → get_or table m 0 ≡ first_day m
  pub ends_before_next : (m : ℕ) → m + 1 < month_count → last_day_of m + 1 ≡ get_or table (m + 1) 0
  pub ends_with_last_day : last_day_of (month_count - 1) ≡ last_day

-- "shown over the whole table to begin with day 0 and to rise each time by the length of the month before": the test that is computed.
-- `rises m d` is this of the table from month m on: it begins with day d. Behind December 2099 nothing stands in it, and the last day is over.
unfoldable pub rises : (m d : ℕ) → List ℕ → Bool
rises m d [] = eqb m month_count && eqb d (last_day + 1)
rises m d (x ∷ xs) = eqb x d && rises (m + 1) (x + month_length m) xs
