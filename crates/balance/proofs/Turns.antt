-- The sums over the first n expenses, as the loops work them out.
use Rattle.std.proofs.Common.{◌≡◌, refl, sym, ap, ◌∙◌, Bool, false, not, ◌&&◌, ◌||◌, ℕ, ◌+◌, ◌≤◌, ◌<◌, arith, eqb, length}
use mathlib.Core.Option.{Option}
use Rattle.format.specs.Layout.{expense_count}
use Rattle.format.specs.Bytes.{Bytes}
use Rattle.rules.specs.Tests.{sum_below, eight_at, eight_of}
use Rattle.rules.specs.Ledger.{Expense, Ledger}
use Rattle.rules.specs.Balance.{paid_in, held_in, valid_in}
use Rattle.images.specs.Image.{decode}
use Rattle.rules.proofs.Sums.{or_none, sum_more}
use Rattle.fields.specs.Fields.{present_in}
use Rattle.validity.proofs.Counts.{backed, at, meant}
use Rattle.balance.specs.declared.Sums.{Sums}
use Rattle.balance.specs.Sums.{uses_in, paid_to, held_to, uses_to, valid_to, Added, SumsTo, sums_of}
use Rattle.balance.proofs.Added.{Nothing, passed_over, counts_not}

-- What the loops have of a ledger after n expenses.
module _ (l : Ledger) (rule g : ℕ) where
  pub sums_none : SumsTo l rule g 0 (record { paid = eight_of (λ u. 0); held = eight_of (λ u. 0); uses = eight_of (λ u. 0); expenses = 0 })
  unfolding paid_to held_to uses_to valid_to sum_below
  sums_none = (refl, refl, refl, refl)

  pub sums_all : (n : ℕ) (s : Sums) → n ≡ expense_count → SumsTo l rule g n s → s ≡ sums_of l rule g
  unfolding paid_to held_to uses_to valid_to sums_of
  sums_all n s z e =
      (λ i. record { paid = e.0 i; held = e.1 i; uses = e.2 i; expenses = e.3 i })
      ∙ ap (λ m. record { paid = eight_of (paid_to m l rule g); held = eight_of (held_to m l rule g); uses = eight_of (uses_to m l rule g); expenses = valid_to m l rule g }) z

  -- The sums with expense c, which is o.
  module _ (c : ℕ) (o : Option Expense) (m : l.expense c ≡ o) where
    more_paid : (u : ℕ) → paid_to (c + 1) l rule g u ≡ paid_to c l rule g u + paid_in rule g u o
    unfolding paid_to
    more_paid u = sum_more _ c ∙ ap (λ t. paid_to c l rule g u + paid_in rule g u t) m

    more_held : (u : ℕ) → held_to (c + 1) l rule g u ≡ held_to c l rule g u + held_in rule g u o
    unfolding held_to
    more_held u = sum_more _ c ∙ ap (λ t. held_to c l rule g u + held_in rule g u t) m

    more_uses : (u : ℕ) → uses_to (c + 1) l rule g u ≡ uses_to c l rule g u + uses_in rule g u o
    unfolding uses_to
    more_uses u = sum_more _ c ∙ ap (λ t. uses_to c l rule g u + uses_in rule g u t) m

    more_valid : valid_to (c + 1) l rule g ≡ valid_to c l rule g + valid_in rule g o
    unfolding valid_to
    more_valid = sum_more _ c ∙ ap (λ t. valid_to c l rule g + valid_in rule g t) m

    pub with_one : (s t : Sums) → SumsTo l rule g c s → Added rule g o s t → SumsTo l rule g (c + 1) t
    with_one s t e w = (
      w.0 ∙ (λ i. eight_of (λ u. eight_at (e.0 i) u + paid_in rule g u o)) ∙ (λ i. eight_of (λ u. sym (more_paid u) i)),
      w.1 ∙ (λ i. eight_of (λ u. eight_at (e.1 i) u + held_in rule g u o)) ∙ (λ i. eight_of (λ u. sym (more_held u) i)),
      w.2 ∙ (λ i. eight_of (λ u. eight_at (e.2 i) u + uses_in rule g u o)) ∙ (λ i. eight_of (λ u. sym (more_uses u) i)),
      w.3 ∙ ap (λ k. k + valid_in rule g o) e.3 ∙ sym more_valid,
    )

  -- An expense that adds nothing changes none of the sums.
  pub skip_one : (c n : ℕ) → n ≡ c + 1 → Nothing rule g (l.expense c) → (s : Sums) → SumsTo l rule g c s → SumsTo l rule g n s
  skip_one c n q z s e = rw q (with_one c (l.expense c) refl s s e (passed_over rule g (l.expense c) s (ap length e.0, ap length e.1, ap length e.2) z))

-- The expenses of an image.
module _ (b : Bytes) (rule g : ℕ) where
  -- An expense that is not in the group adds nothing.
  pub not_in : (c : ℕ) → c < expense_count → present_in (at b c) g ≡ false → Nothing rule g ((decode b).expense c)
  not_in c k z = rw (meant b c k) (counts_not rule g (at b c) (ap (λ t. t && not (eqb (at b c).deleted 1) && backed rule (at b c)) z))

  -- Four that are not in it, in a ledger where none of these adds anything.
  pub skip_four : (l : Ledger) → ((c : ℕ) → c < expense_count → present_in (at b c) g ≡ false → Nothing rule g (l.expense c)) → (c : ℕ) → c + 4 ≤ expense_count → (r : Bool)
      → r ≡ (present_in (at b c) g || present_in (at b (c + 1)) g || present_in (at b (c + 2)) g || present_in (at b (c + 3)) g) → r ≡ false → (s : Sums) → SumsTo l rule g c s
      → SumsTo l rule g (c + 4) s
  skip_four l none_adds c j r er z s e =
      let n3 = or_none _ _ (sym er ∙ z) in
      let n2 = or_none _ _ n3.0 in
      let n1 = or_none _ _ n2.0 in
      skip_one l rule g (c + 3) (c + 4) (omega arith) (none_adds (c + 3) (omega arith) n3.1) s
      (skip_one l rule g (c + 2) (c + 3) (omega arith) (none_adds (c + 2) (omega arith) n2.1) s
      (skip_one l rule g (c + 1) (c + 2) (omega arith) (none_adds (c + 1) (omega arith) n1.1) s
      (skip_one l rule g c (c + 1) refl (none_adds c (omega arith) n1.0) s e)))
