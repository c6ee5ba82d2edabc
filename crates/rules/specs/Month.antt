-- Document 02, A6: the figures of a month. Which days a month has is the calendar's.
use Rattle.std.specs.Prelude.{◌≡◌, Bool, cond, List, [], ◌∷◌, ℕ, zero, suc, eqb, ℤ, pos, ◌+ℤ◌}
use Rattle.std.proofs.Math.Option.{Option, none, some}
use Rattle.format.specs.Layout.{undated, month_count}
use Rattle.calendar.specs.Calendar.{in_month}
use Rattle.rules.specs.Ledger.{Expense, Ledger}
use Rattle.rules.specs.Balance.{raw, sumℤ}

-- An expense whose day passes a test; and the ledger that has these expenses and no other.
abbrev pub dated : (ℕ → Bool) → Option Expense → Option Expense
dated p none = none
dated p (some e) = cond (p e.day) (some e) none

unfoldable pub of_days : (ℕ → Bool) → Ledger → Ledger
of_days p l = record { counter = l.counter; rule = l.rule; expense = λ c. dated p (l.expense c) }

-- "each user's raw from valid costs dated from the month's first day to its last, both included; undated costs appear in none"
unfoldable pub month_raw : Ledger → (group month user : ℕ) → ℤ
month_raw l g m u = raw (of_days (in_month m) l) g u

unfoldable pub month_raws : Ledger → (group month : ℕ) → List ℤ
month_raws l g m =
    month_raw l g m 0 ∷ month_raw l g m 1 ∷ month_raw l g m 2 ∷ month_raw l g m 3 ∷ month_raw l g m 4 ∷ month_raw l g m 5 ∷ month_raw l g m 6 ∷ month_raw l g m 7 ∷ []

-- The raw from costs without a day.
unfoldable pub undated_raw : Ledger → (group user : ℕ) → ℤ
undated_raw l g u = raw (of_days (eqb undated) l) g u

unfoldable pub sum_months : ℕ → (ℕ → ℤ) → ℤ
sum_months zero f = pos 0
sum_months (suc n) f = sum_months n f +ℤ f n

-- What the months' figures come to.
pub record Monthly (l : Ledger) (g : ℕ) : Type 0 where
  -- "These raws sum to zero for each crew and month."
  pub zero_sum : (m : ℕ) → sumℤ (month_raws l g m) ≡ pos 0
  -- No cost is in two months or in none: over all months, and with those that have no day, they are the statement's.
  pub whole : (u : ℕ) → (sum_months month_count (λ m. month_raw l g m u) +ℤ undated_raw l g u) ≡ raw l g u
