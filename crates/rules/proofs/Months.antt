-- What the months' figures come to (document 02, A6): a group's raws of a month sum to zero, and over all months, with those that have no day, they are the
-- statement's. It rests on Balance (paid and held are the same over all users) and on the calendar (each day lies in one month).
use mathlib.Core.Path.{◌≡◌, refl, ap, ◌∙◌}
use mathlib.Core.Bool.{Bool, true, false, cond}
use mathlib.Core.List.{List, [], ◌∷◌}
use mathlib.Core.Option.{Option, none, some}
use mathlib.Core.Logic.{◌⊎◌, inl, inr, ◌≢◌}
use Prim.Native.Nat.{ℕ, zero, suc, ◌+◌, ◌≤◌, ◌<◌}
use native.Mathlib.Omega.{arith}
use lib.Dec.{leb, eqb}
use lib.IntN.{ℤ, pos, ◌+ℤ◌}
use Rattle.format.specs.Layout.{expense_count, last_day, undated, month_count}
use Rattle.calendar.specs.Calendar.{in_month}
use Rattle.calendar.proofs.Days.{some_month, one_month, up_to_last_day}
use Rattle.rules.specs.Tests.{sum_below}
use Rattle.rules.specs.Ledger.{Expense, Ledger}
use Rattle.rules.specs.Sound.{day_fits, sound}
use Rattle.rules.specs.Balance.{paid_in, held_in, paid, held, raw, sumℤ}
use Rattle.rules.specs.Month.{dated, of_days, month_raw, month_raws, undated_raw, sum_months, Monthly}
use Rattle.rules.proofs.Basics.{false_of, eqb_true, or_cases}
use Rattle.rules.proofs.Sums.{sum_zero, sum_same, sum_one, sum_add, sums_swap}
use Rattle.rules.proofs.Sound.{leb_le, eqb_other, GoodOption, good_ledger, Payer, Payers, payers}
use Rattle.rules.proofs.Balance.{Diff, diff_sub, diff_shift, diff_add, diff_zero, diff_same, diff_pos, raw_zero}

-- An expense is kept or left out: what holds of it and of none holds of what is left.
pub kept : (P : Option Expense → Type 0) → P none → (p : ℕ → Bool) (o : Option Expense) → P o → P (dated p o)
kept P n p none h = n
kept P n p (some e) h = go (p e.day)
  where
    go : (b : Bool) → P (cond b (some e) none)
    go true = h
    go false = n

days_payers : (p : ℕ → Bool) (l : Ledger) → Payers l → Payers (of_days p l)
unfolding of_days
days_payers p l h c k = kept Payer tt _ (l.expense c) (h c k)

diff_raw : (l : Ledger) (g u : ℕ) → Diff (paid l g u) (held l g u) (raw l g u)
unfolding raw
diff_raw l g u = diff_sub (paid l g u) (held l g u)

-- The raws from the expenses of some days sum to zero, whichever days these are: "These raws sum to zero for each crew and month."
abbrev raws_of : Ledger → ℕ → List ℤ
raws_of l g = raw l g 0 ∷ raw l g 1 ∷ raw l g 2 ∷ raw l g 3 ∷ raw l g 4 ∷ raw l g 5 ∷ raw l g 6 ∷ raw l g 7 ∷ []

days_zero : (p : ℕ → Bool) (l : Ledger) → Payers l → (g : ℕ) → sumℤ (raws_of (of_days p l) g) ≡ pos 0
unfolding sumℤ
days_zero p l h g =
    let d = diff_raw (of_days p l) g in
    let z = raw_zero (of_days p l) g (days_payers p l h) in
    diff_zero
    (diff_add (d 0) (diff_add (d 1) (diff_add (d 2) (diff_add (d 3) (diff_add (d 4) (diff_add (d 5) (diff_add (d 6) (diff_add (d 7) (diff_pos 0)))))))))
    (omega arith)

pub month_zero : (l : Ledger) → Payers l → (g m : ℕ) → sumℤ (month_raws l g m) ≡ pos 0
unfolding month_raws month_raw
month_zero l h g m = days_zero _ l h g

-- "undated costs appear in none"
pub month_raw_undated : (m : ℕ) (e : Expense) → m < month_count → e.day ≡ undated → dated (in_month m) (some e) ≡ none
month_raw_undated m e k d = ap (λ b. cond b (some e) none) (false_of (in_month m e.day) (λ q. let z = up_to_last_day m e.day k q in omega arith))

-- A figure of one expense counts once, in the month of its day or among those without one.
abbrev pub Dayed : Option Expense → Type 0
Dayed none = Unit {0}
Dayed (some e) = day_fits e.day ≡ true

module _ (f : Option Expense → ℕ) (f0 : f none ≡ 0) where
  abbrev InMonths : Option Expense → ℕ
  InMonths o = sum_below month_count (λ m. f (dated (in_month m) o))

  in_its_month : (e : Expense) → e.day ≤ last_day → InMonths (some e) + f (dated (eqb undated) (some e)) ≡ f (some e)
  in_its_month e k =
      let w = some_month e.day k in
      let others : (i : ℕ) → i < month_count → i ≢ w.0 → f (dated (in_month i) (some e)) ≡ 0 =
      λ i j ne. ap (λ b. f (cond b (some e) none)) (false_of (in_month i e.day) (λ q. ne (one_month i w.0 e.day q w.2))) ∙ f0 in
      let a = sum_one month_count (λ m. f (dated (in_month m) (some e))) w.0 w.1 others in
      let b : f (dated (in_month w.0) (some e)) ≡ f (some e) = ap (λ t. f (cond t (some e) none)) w.2 in
      let c : f (dated (eqb undated) (some e)) ≡ 0 = ap (λ t. f (cond t (some e) none)) (eqb_other undated e.day (omega arith)) ∙ f0 in
      omega arith

  in_no_month : (e : Expense) → e.day ≡ undated → InMonths (some e) + f (dated (eqb undated) (some e)) ≡ f (some e)
  in_no_month e d =
      let a = sum_same month_count (λ m. f (dated (in_month m) (some e))) (λ m. 0) (λ m k. ap f (month_raw_undated m e k d) ∙ f0) in
      let z = sum_zero month_count in
      let b : f (dated (eqb undated) (some e)) ≡ f (some e) = ap (λ n. f (cond (eqb undated n) (some e) none)) d in
      omega arith

  once : (o : Option Expense) → Dayed o → InMonths o + f (dated (eqb undated) o) ≡ f o
  once none h = let a = sum_same month_count (λ m. f none) (λ m. 0) (λ m k. f0) in let z = sum_zero month_count in omega arith
  once (some e) h = go (or_cases (leb e.day last_day) (eqb e.day undated) h)
    where
      go : (leb e.day last_day ≡ true) ⊎ (eqb e.day undated ≡ true) → InMonths (some e) + f (dated (eqb undated) (some e)) ≡ f (some e)
      go (inl q) = in_its_month e (leb_le e.day last_day q)
      go (inr q) = in_no_month e (eqb_true e.day undated q)

  -- So over all expenses.
  all_once : (x : ℕ → Option Expense) → ((c : ℕ) → c < expense_count → Dayed (x c))
      → sum_below month_count (λ m. sum_below expense_count (λ c. f (dated (in_month m) (x c)))) + sum_below expense_count (λ c. f (dated (eqb undated) (x c)))
      ≡ sum_below expense_count (λ c. f (x c))
  all_once x h =
      let a = sums_swap month_count expense_count (λ m c. f (dated (in_month m) (x c))) in
      let b = sum_add expense_count (λ c. InMonths (x c)) (λ c. f (dated (eqb undated) (x c))) in
      let d = sum_same expense_count (λ c. InMonths (x c) + f (dated (eqb undated) (x c))) (λ c. f (x c)) (λ c k. once (x c) (h c k)) in
      omega arith

diff_months : (n : ℕ) (a b : ℕ → ℕ) (f : ℕ → ℤ) → ((m : ℕ) → Diff (a m) (b m) (f m)) → Diff (sum_below n a) (sum_below n b) (sum_months n f)
unfolding sum_below sum_months
diff_months zero a b f h = diff_pos 0
diff_months (suc n) a b f h = diff_add (diff_months n a b f h) (h n)

abbrev pub Days : Ledger → Type 0
Days l = (c : ℕ) → c < expense_count → Dayed (l.expense c)

paid_once : (l : Ledger) → Days l → (g u : ℕ) → sum_below month_count (λ m. paid (of_days (in_month m) l) g u) + paid (of_days (eqb undated) l) g u ≡ paid l g u
unfolding of_days paid
paid_once l h g u = all_once (paid_in (l.rule g) g u) refl l.expense h

held_once : (l : Ledger) → Days l → (g u : ℕ) → sum_below month_count (λ m. held (of_days (in_month m) l) g u) + held (of_days (eqb undated) l) g u ≡ held l g u
unfolding of_days held
held_once l h g u = all_once (held_in (l.rule g) g u) refl l.expense h

-- No cost is in two months or in none.
pub months_whole : (l : Ledger) → Days l → (g u : ℕ) → (sum_months month_count (λ m. month_raw l g m u) +ℤ undated_raw l g u) ≡ raw l g u
unfolding month_raw undated_raw
months_whole l h g u =
    let p = paid_once l h g u in
    let q = held_once l h g u in
    let d = diff_months month_count _ _ _ (λ m. diff_raw (of_days (in_month m) l) g u) in
    diff_same (diff_shift (paid l g u) (held l g u) (diff_add d (diff_raw (of_days (eqb undated) l) g u)) (omega arith)) (diff_raw l g u)

-- Of a sound ledger.
days : (home : ℕ → ℕ) (l : Ledger) → sound home l ≡ true → Days l
days home l h c k = go (l.expense c) (good_ledger home l h c k)
  where
    go : (o : Option Expense) → GoodOption home l c o → Dayed o
    go none g = tt
    go (some e) g = g.dayed

pub monthly : (home : ℕ → ℕ) (l : Ledger) → sound home l ≡ true → (g : ℕ) → Monthly l g
monthly home l h g = record { zero_sum = month_zero l (payers home l h) g; whole = months_whole l (days home l h) g }
