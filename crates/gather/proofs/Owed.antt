-- What users hold by payer: over a payer's row it is what he paid, over a user's column what he holds, where every payer is a user.
use Rattle.std.proofs.Common.{◌≡◌, refl, sym, ap, ◌∙◌, Bool, true, false, ◌&&◌, ◌≢◌, ℕ, ◌+◌, ◌≤◌, arith, eqb}
use mathlib.Core.Option.{Option, none, some}
use Rattle.format.specs.Layout.{no_expense, user_count, expense_count}
use Rattle.format.specs.declared.ExpenseRecord.{ExpenseRecord}
use Rattle.rules.specs.Tests.{only, sum8, sum_below}
use Rattle.rules.specs.Ledger.{Expense, Ledger, total}
use Rattle.rules.specs.Balance.{valid, paid_in, held_in}
use Rattle.images.specs.Meaning.{meaning, meaning_in}
use Rattle.rules.proofs.Basics.{Same, same, other, same?, eqb_self}
use Rattle.rules.proofs.Sound.{eqb_other, Payer, Payers}
use Rattle.rules.proofs.Sums.{sum_zero, sum_more, sum_same, sum_le, sum_one, sums_swap, sum_8}
use Rattle.balance.specs.Sums.{paid_to, held_to}
use Rattle.gather.specs.Rows.{owed_in, owed_to}

-- The payer of an expense, where there is one.
abbrev pub PaidBy : ℕ → Option Expense → Type 0
PaidBy p none = Unit {0}
PaidBy p (some e) = e.payer ≡ p

pub meaning_paid : (e : ExpenseRecord) → PaidBy e.payer (meaning e)
unfolding meaning_in
meaning_paid e = go (same? e.payer no_expense)
  where
    go : Same e.payer no_expense → PaidBy e.payer (meaning e)
    go (same _ q) = rw q tt
    go (other _ q) = rw q refl

module _ (k g u : ℕ) where
  owed_held : (e : Expense) (t : Bool) → eqb e.payer e.payer ≡ t → t ≡ true → only (valid k g e && t) (e.shares u) ≡ only (valid k g e) (e.shares u)
  owed_held e t q z = go (valid k g e)
    where
      go : (v : Bool) → only (v && t) (e.shares u) ≡ only v (e.shares u)
      go true = ap (λ x. only x (e.shares u)) z
      go false = refl

  pub own_owed : (p : ℕ) (o : Option Expense) → PaidBy p o → owed_in k g p u o ≡ held_in k g u o
  own_owed p none b = refl
  own_owed p (some e) b = rw (sym b) (owed_held e (eqb e.payer e.payer) refl (eqb_self e.payer))

  pub not_owed : (p q : ℕ) (o : Option Expense) → PaidBy p o → q ≢ p → owed_in k g q u o ≡ 0
  not_owed p q none b n = refl
  not_owed p q (some e) b n = rw (eqb_other e.payer q (λ z. n (sym z ∙ b))) (go (valid k g e))
    where
      go : (v : Bool) → only (v && false) (e.shares u) ≡ 0
      go true = refl
      go false = refl

  owed_le_held : (p : ℕ) (o : Option Expense) → owed_in k g p u o ≤ held_in k g u o
  owed_le_held p none = omega arith
  owed_le_held p (some e) = go (valid k g e) (eqb e.payer p)
    where
      go : (v t : Bool) → only (v && t) (e.shares u) ≤ only v (e.shares u)
      go true true = omega arith
      go true false = omega arith
      go false t = omega arith

  pub none_owed : (p : ℕ) (o : Option Expense) → held_in k g u o ≡ 0 → owed_in k g p u o ≡ 0
  none_owed p o z = let h = owed_le_held p o in omega arith

  column : (o : Option Expense) → Payer o → held_in k g u o ≡ sum_below user_count (λ p. owed_in k g p u o)
  column none q = sym (sum_zero user_count)
  column (some e) q =
      sym (sum_one user_count (λ p. owed_in k g p u (some e)) e.payer q (λ p p8 n. not_owed e.payer p (some e) refl n) ∙ own_owed e.payer (some e) refl)

  pub owed_more : (l : Ledger) (c p : ℕ) → owed_to (c + 1) l k g p u ≡ owed_to c l k g p u + owed_in k g p u (l.expense c)
  unfolding owed_to
  owed_more l c p = sum_more _ c

  pub owed_le : (l : Ledger) (n p : ℕ) → owed_to n l k g p u ≤ held_to n l k g u
  unfolding owed_to held_to
  owed_le l n p = sum_le n _ _ (λ c j. owed_le_held p (l.expense c))

  pub held_columns : (l : Ledger) → Payers l → held_to expense_count l k g u ≡ sum_below user_count (λ p. owed_to expense_count l k g p u)
  unfolding owed_to held_to
  held_columns l ps = sum_same expense_count _ _ (λ c j. column (l.expense c) (ps c j)) ∙ sums_swap expense_count user_count (λ c p. owed_in k g p u (l.expense c))

module _ (k g p : ℕ) where
  row : (o : Option Expense) → paid_in k g p o ≡ sum8 (λ u. owed_in k g p u o)
  row none = refl
  row (some e) = go (valid k g e && eqb e.payer p)
    where
      go : (t : Bool) → only t (total e) ≡ sum8 (λ u. only t (e.shares u))
      go true = refl
      go false = refl

  pub paid_row : (l : Ledger) → paid_to expense_count l k g p ≡ sum8 (λ u. owed_to expense_count l k g p u)
  unfolding owed_to paid_to
  paid_row l =
      sum_same expense_count _ _ (λ c j. row (l.expense c) ∙ sum_8 (λ u. owed_in k g p u (l.expense c)))
      ∙ sums_swap expense_count user_count (λ c u. owed_in k g p u (l.expense c)) ∙ sym (sum_8 (λ u. owed_to expense_count l k g p u))
