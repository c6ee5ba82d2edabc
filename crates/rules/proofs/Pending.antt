-- Nothing is pending for a user in a group just when every expense that stands there, and in which the user has a share that counts as acknowledged, is valid.
use mathlib.Core.Path.{◌≡◌, refl, sym, ap, ◌∙◌}
use mathlib.Core.Bool.{Bool, true, false, not, ◌&&◌, ◌||◌}
use mathlib.Core.Option.{Option, none, some}
use mathlib.Core.Logic.{◌↔◌}
use Prim.Native.Nat.{ℕ, ◌<◌}
use lib.Dec.{ltb, eqb}
use borrow.Author.Tests.{not-true}
use Rattle.format.specs.Layout.{expense_count, user_count}
use Rattle.rules.specs.Tests.{every8}
use Rattle.rules.specs.Ledger.{Expense, Ledger}
use Rattle.rules.specs.Balance.{counts_acknowledged, valid}
use Rattle.rules.specs.Pending.{pending_in, pending}
use Rattle.rules.proofs.Basics.{clash, eqb_true, eqb_self, ltb_true}
use Rattle.rules.proofs.Sums.{none_below, of_none_below}
use Rattle.rules.proofs.Accepted.{every_8, ltb_lt}
use Rattle.rules.proofs.Sound.{of_every8, or_else, of_or_else, positive, not_zero}

-- The two tests, over plain Booleans: in the group, not deleted, backed; acknowledged, positive, in the group, neither deleted nor valid.
pub three : (a b c : Bool) → (a && b && c) ≡ true → (a ≡ true) × (b ≡ true) × (c ≡ true)
three true true c e = (refl, refl, e)
three true false c e = absurd (clash e refl)
three false true c e = absurd (clash e refl)
three false false c e = absurd (clash e refl)

waits_not : (a s g d v : Bool) → (a && s && g && not (d || v)) ≡ false → g ≡ true → d ≡ false → s ≡ true → a ≡ true → v ≡ true
waits_not a s g d true e eg ed es ea = refl
waits_not a s g d false e eg ed es ea = absurd (clash (rw (ea, es, eg, ed)) e)

of_waits_not : (a s g d v : Bool) → (g ≡ true → d ≡ false → s ≡ true → a ≡ true → v ≡ true) → (a && s && g && not (d || v)) ≡ false
of_waits_not true true true false v h = ap not (h refl refl refl refl)
of_waits_not true true true true v h = refl
of_waits_not true true false d v h = refl
of_waits_not true false g d v h = refl
of_waits_not false s g d v h = refl

-- A valid expense is in its group, not deleted, and every positive share of it counts as acknowledged.
abbrev pub counted : (rule : ℕ) → Expense → ℕ → Bool
counted k e w = counts_acknowledged k (e.shares w) (e.acknowledged w)

abbrev backed : (rule : ℕ) → Expense → ℕ → Bool
backed k e w = eqb (e.shares w) 0 || counted k e w

module _ (k g : ℕ) (e : Expense) where
  parts : valid k g e ≡ true → (eqb e.group g ≡ true) × (not e.deleted ≡ true) × (every8 (backed k e) ≡ true)
  parts v = three (eqb e.group g) (not e.deleted) (every8 (backed k e)) v

  pub valid_group : valid k g e ≡ true → e.group ≡ g
  valid_group v = eqb_true e.group g (parts v).0

  pub valid_stands : valid k g e ≡ true → e.deleted ≡ false
  valid_stands v = not-true e.deleted (parts v).1

  pub valid_acks : valid k g e ≡ true → (w : ℕ) → w < user_count → 0 < e.shares w → counted k e w ≡ true
  valid_acks v w w8 h = or_else (eqb (e.shares w) 0) (counted k e w) (every_8 (backed k e) (parts v).2 w w8) (not_zero (e.shares w) h)

  pub of_valid : e.group ≡ g → e.deleted ≡ false → ((w : ℕ) → w < user_count → 0 < e.shares w → counted k e w ≡ true) → valid k g e ≡ true
  of_valid i d h =
      let all : every8 (backed k e) ≡ true = of_every8 (backed k e) (λ w w8. of_or_else (eqb (e.shares w) 0) (counted k e w) (λ z. h w w8 (positive (e.shares w) z))) in
      (λ j. eqb (i j) g && not (d j) && all j) ∙ ap (λ t. t && true && true) (eqb_self g)

-- One expense: where it stands in the group and the user's share counts as acknowledged, it is valid.
abbrev pub ClearIn : (rule group user : ℕ) → Expense → Type 0
ClearIn k g u e = e.group ≡ g → e.deleted ≡ false → 0 < e.shares u → counted k e u ≡ true → valid k g e ≡ true

module _ (k g u : ℕ) (e : Expense) where
  pub clear_in : pending_in k g u (some e) ≡ false → ClearIn k g u e
  clear_in z i d h a = waits_not (counted k e u) (ltb 0 (e.shares u)) (eqb e.group g) e.deleted (valid k g e) z
      (ap (λ n. eqb n g) i ∙ eqb_self g) d (ltb_true 0 (e.shares u) h) a

  pub of_clear_in : ClearIn k g u e → pending_in k g u (some e) ≡ false
  of_clear_in h = of_waits_not (counted k e u) (ltb 0 (e.shares u)) (eqb e.group g) e.deleted (valid k g e)
      (λ i d p a. h (eqb_true e.group g i) d (ltb_lt 0 (e.shares u) p) a)

-- All of them.
abbrev pub Clear : Ledger → (group user : ℕ) → Type 0
Clear l g u = (c : ℕ) (e : Expense) → c < expense_count → l.expense c ≡ some e → ClearIn (l.rule g) g u e

pub pending_clear : (l : Ledger) (g u : ℕ) → (pending l g u ≡ false) ↔ Clear l g u
unfolding pending
pending_clear l g u = (
  λ z c e c512 is. clear_in (l.rule g) g u e (sym (ap (pending_in (l.rule g) g u) is) ∙ none_below expense_count _ z c c512),
  λ h. of_none_below expense_count _ (λ c c512. go h c c512 (l.expense c) refl),
)
  where
    go : (h : Clear l g u) (c : ℕ) → c < expense_count → (o : Option Expense) → l.expense c ≡ o → pending_in (l.rule g) g u (l.expense c) ≡ false
    go h c c512 none is = ap (pending_in (l.rule g) g u) is
    go h c c512 (some e) is = ap (pending_in (l.rule g) g u) is ∙ of_clear_in (l.rule g) g u e (h c e c512 is)
