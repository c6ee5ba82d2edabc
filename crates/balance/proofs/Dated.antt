-- The expenses of some days in the loops: one that is added or passed over, and the sums with it.
use Rattle.std.proofs.Common.{◌≡◌, refl, sym, ap, ◌∙◌, Bool, true, false, cond, List, ℕ, ◌+◌, ◌<◌, arith, eqb}
use mathlib.Core.Option.{Option, none}
use Rattle.format.specs.Layout.{no_expense, use_rule, expense_count}
use Rattle.format.specs.declared.ExpenseRecord.{ExpenseRecord}
use Rattle.format.specs.Bytes.{Bytes}
use Rattle.rules.specs.Ledger.{Expense}
use Rattle.images.specs.Meaning.{meaning, meaning_in}
use Rattle.rules.specs.Month.{dated, of_days}
use Rattle.images.specs.Image.{decode}
use Rattle.rules.proofs.Basics.{Same, same, other, same?}
use Rattle.rules.proofs.Sums.{only_zero}
use Rattle.rules.proofs.Months.{kept}
use Rattle.fields.specs.Fields.{present_in}
use Rattle.validity.proofs.Counts.{at, meant}
use Rattle.balance.specs.declared.Sums.{Sums}
use Rattle.balance.specs.Sums.{together, Added, SumsTo}
use Rattle.balance.proofs.Added.{EachEight, Nothing, passed_over}
use Rattle.balance.proofs.Turns.{with_one, not_in}

none_adds : (rule g : ℕ) → Nothing rule g none
none_adds rule g = (λ u. refl, λ u. refl, λ u. only_zero (eqb rule use_rule), refl)

-- What adds nothing to the sums adds nothing where its day is asked for, too.
pub nothing_dated : (rule g : ℕ) (p : ℕ → Bool) (o : Option Expense) (s : Sums) → EachEight s → Added rule g o s s → Added rule g (dated p o) s s
nothing_dated rule g p o s k = kept (λ x. Added rule g x s s) (passed_over rule g none s k (none_adds rule g)) p o

-- A record of these days means what it means, any other no expense.
module _ (p : ℕ → Bool) (e : ExpenseRecord) where
  pub dated_meaning : dated p (meaning e) ≡ cond (p e.day) (meaning e) none
  unfolding meaning_in
  dated_meaning = go (same? e.payer no_expense) (p e.day) refl
    where
      go : Same e.payer no_expense → (t : Bool) → p e.day ≡ t → dated p (meaning e) ≡ cond (p e.day) (meaning e) none
      go (same _ q) true r = rw (q, r)
      go (same _ q) false r = rw (q, r)
      go (other _ q) t r = rw q

  -- By the code's test t, what it makes of the sums.
  module _ (t : Bool) (et : t ≡ p e.day) where
    meaning_by : dated p (meaning e) ≡ cond t (meaning e) none
    meaning_by = dated_meaning ∙ ap (λ x. cond x (meaning e) none) (sym et)

    pub of_other_days : (rule g : ℕ) (s : Sums) → EachEight s → t ≡ false → Added rule g (dated p (meaning e)) s s
    of_other_days rule g s k z = rw (meaning_by, z) (passed_over rule g none s k (none_adds rule g))

    pub of_these_days : (rule g : ℕ) (s s' : Sums) → t ≡ true → Added rule g (meaning e) s s' → Added rule g (dated p (meaning e)) s s'
    of_these_days rule g s s' z w = rw (meaning_by, z) w

-- The expenses of an image.
module _ (b : Bytes) (rule g : ℕ) (p : ℕ → Bool) where
  meant_dated : (c : ℕ) → c < expense_count → (of_days p (decode b)).expense c ≡ dated p (meaning (at b c))
  unfolding of_days
  meant_dated c k = ap (dated p) (meant b c k)

  -- One turn of the loop over four: what add_expense made of expense c's part, where k counts what was added before.
  pub one_more : (c : ℕ) → c < expense_count → (q h n q' h' n' : List ℕ) (k k' r : ℕ) → SumsTo (of_days p (decode b)) rule g c (together q h n k)
      → Added rule g (dated p (meaning (at b c))) (together q h n 0) (together q' h' n' r) → k' ≡ k + r → SumsTo (of_days p (decode b)) rule g (c + 1) (together q' h' n' k')
  one_more c j q h n q' h' n' k k' r e w z =
      with_one (of_days p (decode b)) rule g c (dated p (meaning (at b c))) (meant_dated c j) (together q h n k) (together q' h' n' k') e (w.0, w.1, w.2, omega (arith, w.3, z))

  -- An expense that is not in the group adds nothing, on whichever day.
  pub not_in_dated : (c : ℕ) → c < expense_count → present_in (at b c) g ≡ false → Nothing rule g ((of_days p (decode b)).expense c)
  unfolding of_days
  not_in_dated c k z = kept (Nothing rule g) (none_adds rule g) p ((decode b).expense c) (not_in b rule g c k z)
