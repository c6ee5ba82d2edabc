-- A ledger read by rule 1, under which every positive share must be acknowledged: what the module works out. It shows the same replica, and in a group of another
-- rule than the second its figures are the ledger's own. Rests on the rules' law that there the stored bit decides (Counted).
use mathlib.Core.Path.{◌≡◌, refl, sym, ◌∙◌}
use mathlib.Core.Bool.{Bool, true, not, ◌&&◌, ◌||◌}
use mathlib.Core.Option.{Option, none, some}
use mathlib.Core.Logic.{◌≢◌}
use Prim.Native.Nat.{ℕ}
use native.Mathlib.Omega.{arith}
use lib.Dec.{ltb, eqb}
use Rattle.format.specs.Layout.{expense_count, equal_rule, use_rule}
use Rattle.rules.specs.Tests.{only, every8, sum8, sum_below, every_below, some_below}
use Rattle.rules.specs.Ledger.{Expense, Ledger, total}
use Rattle.rules.specs.Sound.{sound, sound_expense}
use Rattle.rules.specs.Balance.{counts_acknowledged, valid, paid_in, held_in, paid, held, raw, gift, gifts}
use Rattle.rules.specs.Pending.{pending_in, pending}
use Rattle.rules.proofs.Counted.{counts_stored}
use Rattle.splitless.specs.Shown.{show}

abbrev pub strict : Ledger → Ledger
strict l = record { counter = l.counter; rule = λ g. equal_rule; expense = l.expense }

pub show_strict : (r : ℕ) (l : Ledger) → show r (strict l) ≡ show r l
unfolding show
show_strict r l = refl

pub sound_strict : (home : ℕ → ℕ) (l : Ledger) → sound home l ≡ true → sound home (strict l) ≡ true
unfolding sound sound_expense
sound_strict home l so = (λ i. every_below expense_count (λ c. same c (l.expense c) i)) ∙ so
  where
    same : (c : ℕ) (o : Option Expense) → sound_expense home (strict l) c o ≡ sound_expense home l c o
    same c none = refl
    same c (some e) = refl

module _ (k : ℕ) (ne : k ≢ use_rule) (g u : ℕ) where
  counts_same : (s : ℕ) (a : Bool) → counts_acknowledged equal_rule s a ≡ counts_acknowledged k s a
  counts_same s a = counts_stored equal_rule s a (λ q. omega arith) ∙ sym (counts_stored k s a ne)

  valid_same : (e : Expense) → valid equal_rule g e ≡ valid k g e
  valid_same e i = eqb e.group g && not e.deleted && every8 (λ w. eqb (e.shares w) 0 || counts_same (e.shares w) (e.acknowledged w) i)

  paid_same : (o : Option Expense) → paid_in equal_rule g u o ≡ paid_in k g u o
  paid_same none = refl
  paid_same (some e) = λ i. only (valid_same e i && eqb e.payer u) (total e)

  held_same : (o : Option Expense) → held_in equal_rule g u o ≡ held_in k g u o
  held_same none = refl
  held_same (some e) = λ i. only (valid_same e i) (e.shares u)

  pending_same : (o : Option Expense) → pending_in equal_rule g u o ≡ pending_in k g u o
  pending_same none = refl
  pending_same (some e) = λ i. counts_same (e.shares u) (e.acknowledged u) i && ltb 0 (e.shares u) && eqb e.group g && not (e.deleted || valid_same e i)

module _ (l : Ledger) (g : ℕ) (ne : l.rule g ≢ use_rule) where
  pub strict_paid : (u : ℕ) → paid (strict l) g u ≡ paid l g u
  unfolding paid
  strict_paid u = λ i. sum_below expense_count (λ c. paid_same (l.rule g) ne g u (l.expense c) i)

  pub strict_held : (u : ℕ) → held (strict l) g u ≡ held l g u
  unfolding held
  strict_held u = λ i. sum_below expense_count (λ c. held_same (l.rule g) ne g u (l.expense c) i)

  pub strict_raw : (u : ℕ) → raw (strict l) g u ≡ raw l g u
  unfolding raw
  strict_raw u = rw (strict_paid u, strict_held u)

  pub strict_gift : (u : ℕ) → gift (strict l) g u ≡ gift l g u
  unfolding gift
  strict_gift u = rw (strict_paid u, strict_held u)

  pub strict_gifts : gifts (strict l) g ≡ gifts l g
  unfolding gifts
  strict_gifts = λ i. sum8 (λ u. strict_gift u i)

  pub strict_pending : (u : ℕ) → pending (strict l) g u ≡ pending l g u
  unfolding pending
  strict_pending u = λ i. some_below expense_count (λ c. pending_same (l.rule g) ne g u (l.expense c) i)
