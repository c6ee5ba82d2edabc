-- One expense before and after what another user does to it: the user has paid no less after it, and comes to hold no more. What a user can come to hold of an
-- expense is the share in it, where it stands in the group and the share counts as acknowledged; with nothing pending the user holds that already.
-- Rests on what nothing pending means (Pending).
use mathlib.Core.Path.{◌≡◌, refl, sym, ap, ◌∙◌}
use mathlib.Core.Bool.{Bool, true, false, not, ◌&&◌, ◌||◌}
use mathlib.Core.Option.{Option, none, some}
use mathlib.Core.Logic.{◌≢◌}
use Prim.Native.Nat.{ℕ, ◌≤◌, ◌<◌}
use native.Mathlib.Omega.{arith}
use lib.Dec.{eqb}
use borrow.Author.Tests.{not-true}
use Rattle.format.specs.Layout.{user_count}
use Rattle.rules.specs.Tests.{only}
use Rattle.rules.specs.Ledger.{Expense, with_acks, total}
use Rattle.rules.specs.Balance.{counts_acknowledged, valid, paid_in, held_in}
use Rattle.rules.specs.Pending.{pending_in}
use Rattle.rules.specs.Step.{moved, edited}
use Rattle.rules.proofs.Basics.{clash, Same, same, other, same?, Less, less, more, less?, eqb_true, eqb_self, or_false}
use Rattle.rules.proofs.Sound.{eqb_other}
use Rattle.rules.proofs.Counted.{counts_more}
use Rattle.rules.proofs.Pending.{three, counted, valid_group, valid_stands, valid_acks, of_valid, clear_in}

-- The expense stands in the group and user u's share in it counts as acknowledged.
abbrev ready : (rule group user : ℕ) → Expense → Bool
ready k g u e = eqb e.group g && not e.deleted && counted k e u

-- What user u holds of one number's expense, or comes to hold once the others have acknowledged it.
abbrev owed_in : (rule group user : ℕ) → Option Expense → ℕ
owed_in k g u none = 0
owed_in k g u (some e) = only (ready k g u e) (e.shares u)

-- One number's expense before and after.
pub record NoWorse (k g u : ℕ) (o p : Option Expense) : Type 0 where
  pub pays : paid_in k g u o ≤ paid_in k g u p
  pub owes : owed_in k g u p ≤ owed_in k g u o

only_le : (a b : Bool) (n : ℕ) → (a ≡ true → b ≡ true) → only a n ≤ only b n
only_le true true n h = omega arith
only_le true false n h = absurd (clash (h refl) refl)
only_le false b n h = omega arith

none_le : (a b : Bool) (n : ℕ) → n ≡ 0 → only a n ≤ only b n
none_le true true n z = omega arith
none_le true false n z = omega arith
none_le false b n z = omega arith

module _ (k g u : ℕ) where
  pub no_worse_same : (o : Option Expense) → NoWorse k g u o o
  no_worse_same o = record { pays = omega arith; owes = omega arith }

  pub no_worse_then : (o p q : Option Expense) → NoWorse k g u o p → NoWorse k g u p q → NoWorse k g u o q
  no_worse_then o p q x y = let a = x.pays in let b = y.pays in let c = x.owes in let d = y.owes in record { pays = omega arith; owes = omega arith }

  -- What is held is owed; with nothing pending there is no more to come.
  pub held_owed : u < user_count → (o : Option Expense) → held_in k g u o ≤ owed_in k g u o
  held_owed u8 none = omega arith
  held_owed u8 (some e) = go (less? 0 (e.shares u))
    where
      go : Less 0 (e.shares u) → held_in k g u (some e) ≤ owed_in k g u (some e)
      go (less s _) = only_le (valid k g e) (ready k g u e) (e.shares u) (λ v. (λ i. eqb (valid_group k g e v i) g && not (valid_stands k g e v i) && valid_acks k g e v u u8 s i) ∙ ap (λ t. t && true && true) (eqb_self g))
      go (more s _) = none_le (valid k g e) (ready k g u e) (e.shares u) (omega arith)

  pub clear_owed : (o : Option Expense) → pending_in k g u o ≡ false → owed_in k g u o ≤ held_in k g u o
  clear_owed none z = omega arith
  clear_owed (some e) z = go (less? 0 (e.shares u))
    where
      go : Less 0 (e.shares u) → owed_in k g u (some e) ≤ held_in k g u (some e)
      go (less s _) = only_le (ready k g u e) (valid k g e) (e.shares u) (λ h.
          let t = three (eqb e.group g) (not e.deleted) (counted k e u) h in
          clear_in k g u e z (eqb_true e.group g t.0) (not-true e.deleted t.1) s t.2)
      go (more s _) = none_le (ready k g u e) (valid k g e) (e.shares u) (omega arith)

  -- An expense that another pays: it has no part in what u paid.
  pub paid_zero : (e : Expense) → e.payer ≢ u → paid_in k g u (some e) ≡ 0
  paid_zero e ne = ap (λ t. only (valid k g e && t) (total e)) (eqb_other e.payer u ne) ∙ go (valid k g e)
    where
      go : (b : Bool) → only (b && false) (total e) ≡ 0
      go true = refl
      go false = refl

  -- Afterwards it is out of the group, or deleted, or u has no share in it.
  pub no_worse_aside : (o : Option Expense) (e : Expense) → paid_in k g u o ≡ 0 → (e.group ≡ g → e.deleted ≡ false → 0 < e.shares u → ⊥) → NoWorse k g u o (some e)
  no_worse_aside o e p un = record { pays = omega arith; owes = go (less? 0 (e.shares u)) }
    where
      go : Less 0 (e.shares u) → owed_in k g u (some e) ≤ owed_in k g u o
      go (less s _) =
          let z = only_le (ready k g u e) false (e.shares u) (λ h.
          let t = three (eqb e.group g) (not e.deleted) (counted k e u) h in
          absurd (un (eqb_true e.group g t.0) (not-true e.deleted t.1) s)) in
          omega arith
      go (more s _) = let q : e.shares u ≡ 0 = omega arith in let z = only_le (ready k g u e) true (e.shares u) (λ h. refl) in omega arith

  -- An acknowledgement by another.
  module _ (a : ℕ) (ne : a ≢ u) (e : Expense) where
    abbrev nodded : Expense
    nodded = with_acks e (λ w. e.acknowledged w || eqb w a)

    still_valid : valid k g e ≡ true → valid k g nodded ≡ true
    still_valid v = of_valid k g nodded (valid_group k g e v) (valid_stands k g e v) (λ w j s. counts_more k (e.shares w) (e.acknowledged w) (eqb w a) (valid_acks k g e v w j s))

    pub no_worse_acknowledged : NoWorse k g u (some e) (some nodded)
    no_worse_acknowledged = record { pays = go (valid k g e) refl; owes = rw (eqb_other u a (λ q. ne (sym q)), or_false (e.acknowledged u)) (omega arith) }
      where
        go : (b : Bool) → valid k g e ≡ b → only (b && eqb e.payer u) (total e) ≤ only (valid k g nodded && eqb e.payer u) (total e)
        go true v = let q = still_valid v in rw q (omega arith)
        go false v = omega arith

  -- A share moved by another who pays it: to that other, and not from u unless it was u's.
  pub no_worse_moved : (a w : ℕ) → a ≢ u → (e : Expense) → paid_in k g u (some e) ≡ 0
      → NoWorse k g u (some e) (some (edited e e.group e.deleted e.acknowledged (moved a w e.shares) e.day))
  no_worse_moved a w ne e p = record { pays = omega arith; owes = go (same? u w) }
    where
      u_a : eqb u a ≡ false
      u_a = eqb_other u a (λ q. ne (sym q))

      go : Same u w → owed_in k g u (some (edited e e.group e.deleted e.acknowledged (moved a w e.shares) e.day)) ≤ owed_in k g u (some e)
      go (same _ q) = rw (u_a, q) (let z = only_le (eqb e.group g && not e.deleted && counts_acknowledged k 0 (e.acknowledged u)) true 0 (λ h. refl) in omega arith)
      go (other _ q) = rw (u_a, q) (omega arith)
