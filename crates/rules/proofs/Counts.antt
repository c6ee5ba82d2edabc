-- The count of valid expenses on a statement, and a user's weight: nothing is counted in an empty ledger, and one more expense counts one if it is
-- valid, for the weight with a positive share of the user, and nothing if not.
-- Every ledger that an image holds comes from the empty one by entering expenses, so these laws leave the counts no other value. A weight is at most 512.
use mathlib.Core.Path.{◌≡◌, refl, sym, ap, ◌∙◌}
use mathlib.Core.Bool.{cond, ◌&&◌}
use mathlib.Core.Option.{Option, none, some}
use Prim.Native.Nat.{ℕ, ◌+◌, ◌≤◌, ◌<◌}
use native.Mathlib.Omega.{arith}
use lib.Dec.{ltb}
use Rattle.format.specs.Layout.{expense_count}
use Rattle.rules.specs.Tests.{number, sum_below}
use Rattle.rules.specs.Ledger.{Expense, Ledger, empty}
use Rattle.rules.specs.Balance.{valid, valid_in, used_in, valid_expenses, weight}
use Rattle.rules.proofs.Basics.{eqb_self}
use Rattle.rules.proofs.Sums.{sum_zero, sum_but_one, sum_bound, number_le}
use Rattle.rules.proofs.Sound.{eqb_other}
use Rattle.rules.proofs.Replaced.{with_expense}

pub valid_empty : (g : ℕ) → valid_expenses empty g ≡ 0
unfolding valid_expenses
valid_empty g = sum_zero expense_count

pub weight_empty : (g u : ℕ) → weight empty g u ≡ 0
unfolding weight
weight_empty g u = sum_zero expense_count

-- One more expense adds what it counts, where an absent one counts nothing.
one_more : (f : Option Expense → ℕ) → f none ≡ 0 → (l : Ledger) (c : ℕ) (e : Expense) → c < expense_count
    → sum_below expense_count (λ d. f ((with_expense l c (some e)).expense d)) ≡ sum_below expense_count (λ d. f ((with_expense l c none).expense d)) + f (some e)
one_more f z l c e k =
    let a : ℕ → ℕ = λ d. f ((with_expense l c (some e)).expense d) in
    let b : ℕ → ℕ = λ d. f ((with_expense l c none).expense d) in
    let there : a c ≡ f (some e) = ap (λ t. f (cond t (some e) (l.expense c))) (eqb_self c) in
    let gone : b c ≡ 0 = ap (λ t. f (cond t none (l.expense c))) (eqb_self c) ∙ z in
    let rest = sum_but_one expense_count a b c k (λ d _ ne. ap (λ t. f (cond t (some e) (l.expense d))) (eqb_other d c ne) ∙ sym (ap (λ t. f (cond t none (l.expense d))) (eqb_other d c ne))) in
    omega arith

pub valid_one : (l : Ledger) (g c : ℕ) (e : Expense) → c < expense_count → valid_expenses (with_expense l c (some e)) g ≡ valid_expenses (with_expense l c none) g + number (valid (l.rule g) g e)
unfolding valid_expenses
valid_one l g c e k = one_more (valid_in (l.rule g) g) refl l c e k

pub weight_one : (l : Ledger) (g u c : ℕ) (e : Expense) → c < expense_count
    → weight (with_expense l c (some e)) g u ≡ weight (with_expense l c none) g u + number (valid (l.rule g) g e && ltb 0 (e.shares u))
unfolding weight
weight_one l g u c e k = one_more (used_in (l.rule g) g u) refl l c e k

pub weight_small : (l : Ledger) (g u : ℕ) → weight l g u ≤ expense_count
unfolding weight
weight_small l g u = let z = sum_bound expense_count 1 _ (λ c _. used_one (l.expense c)) in omega arith
  where
    used_one : (o : Option Expense) → used_in (l.rule g) g u o ≤ 1
    used_one none = omega arith
    used_one (some e) = number_le (valid (l.rule g) g e && ltb 0 (e.shares u))
