-- Leaving, whatever the group's rule, is the module's leaving from a replica on which all shares are acknowledged that count so: read by rule 1 (Strict), the ledger
-- with these bits has the ledger's own figures. Rests on Leaving.
use mathlib.Core.Path.{◌≡◌, refl, sym, ap, ◌∙◌, subst}
use mathlib.Core.Bool.{Bool, true, false, not, ◌&&◌, ◌||◌}
use mathlib.Core.Option.{Option, none, some, map}
use mathlib.Core.Logic.{◌↔◌}
use Prim.Native.Nat.{ℕ, ◌<◌}
use native.Mathlib.Omega.{arith}
use lib.Dec.{ltb, eqb}
use lib.IntN.{sub_ℕ}
use Rattle.format.specs.Layout.{user_count, group_count, expense_count, equal_rule}
use Rattle.rules.specs.Tests.{only, every8, sum_below, some_below}
use Rattle.rules.specs.Ledger.{Expense, with_acks, Ledger, total}
use Rattle.rules.specs.Balance.{counts_acknowledged, valid, paid_in, held_in, paid, held, raw}
use Rattle.rules.specs.Pending.{pending_in, pending}
use Rattle.rules.specs.Action.{leave}
use Rattle.rules.proofs.Basics.{Same, same, other, same?, Less, less, more, less?, and_none}
use Rattle.rules.proofs.Counted.{counts_stored}
use Rattle.splitless.specs.Module as M
use Rattle.splitless.specs.Shown.{show, Leaves, nodded, AsModule, here}
use Rattle.splitless.proofs.Strict.{strict, show_strict}
use Rattle.splitless.proofs.Leaving.{leaves_tied}

module _ (l : Ledger) (g u : ℕ) where
  abbrev bits : Expense → Expense
  bits e = with_acks e (λ w. ltb 0 (e.shares w) && counts_acknowledged (l.rule e.group) (e.shares w) (e.acknowledged w))

  -- What counts under rule 1 with these bits: a positive share that counts under the group's.
  counts_so : (e : Expense) → e.group ≡ g → (w : ℕ) → counts_acknowledged equal_rule (e.shares w) ((bits e).acknowledged w) ≡ (ltb 0 (e.shares w) && counts_acknowledged (l.rule g) (e.shares w) (e.acknowledged w))
  counts_so e i w = counts_stored equal_rule (e.shares w) ((bits e).acknowledged w) (λ q. omega arith) ∙ ap (λ n. ltb 0 (e.shares w) && counts_acknowledged (l.rule n) (e.shares w) (e.acknowledged w)) i

  backed_so : (n : ℕ) (c : Bool) → (eqb n 0 || (ltb 0 n && c)) ≡ (eqb n 0 || c)
  backed_so n c = go (less? 0 n)
    where
      go : Less 0 n → (eqb n 0 || (ltb 0 n && c)) ≡ (eqb n 0 || c)
      go (less _ q) = ap (λ t. eqb n 0 || (t && c)) q
      go (more k _) = let z : n ≡ 0 = omega arith in rw z

  valid_so : (e : Expense) → valid equal_rule g (bits e) ≡ valid (l.rule g) g e
  valid_so e = go (same? e.group g)
    where
      go : Same e.group g → valid equal_rule g (bits e) ≡ valid (l.rule g) g e
      go (same p _) =
          (λ i. eqb e.group g && not e.deleted && every8 (λ w. eqb (e.shares w) 0 || counts_so e p w i))
          ∙ (λ i. eqb e.group g && not e.deleted && every8 (λ w. backed_so (e.shares w) (counts_acknowledged (l.rule g) (e.shares w) (e.acknowledged w)) i))
      go (other _ q) = rw q

  paid_so : (o : Option Expense) → paid_in equal_rule g u (map bits o) ≡ paid_in (l.rule g) g u o
  paid_so none = refl
  paid_so (some e) = λ i. only (valid_so e i && eqb e.payer u) (total e)

  held_so : (o : Option Expense) → held_in equal_rule g u (map bits o) ≡ held_in (l.rule g) g u o
  held_so none = refl
  held_so (some e) = λ i. only (valid_so e i) (e.shares u)

  twice : (a b : Bool) → (a && b && a) ≡ (b && a)
  twice true b = refl
  twice false b = sym (and_none b)

  pending_so : (o : Option Expense) → pending_in equal_rule g u (map bits o) ≡ pending_in (l.rule g) g u o
  pending_so none = refl
  pending_so (some e) = go (same? e.group g)
    where
      go : Same e.group g → pending_in equal_rule g u (some (bits e)) ≡ pending_in (l.rule g) g u (some e)
      go (same p _) =
          (λ i. counts_so e p u i && ltb 0 (e.shares u) && eqb e.group g && not (e.deleted || valid_so e i))
          ∙ ap (λ t. t && eqb e.group g && not (e.deleted || valid (l.rule g) g e)) (twice (ltb 0 (e.shares u)) (counts_acknowledged (l.rule g) (e.shares u) (e.acknowledged u)))
      go (other _ q) = rw q (rw (and_none (counts_acknowledged equal_rule (e.shares u) ((bits e).acknowledged u) && ltb 0 (e.shares u)), and_none (counts_acknowledged (l.rule g) (e.shares u) (e.acknowledged u) && ltb 0 (e.shares u))))

  raw_so : raw (strict (nodded l)) g u ≡ raw l g u
  unfolding raw paid held
  raw_so = λ i. sub_ℕ (sum_below expense_count (λ c. paid_so (l.expense c) i)) (sum_below expense_count (λ c. held_so (l.expense c) i))

  waits_so : pending (strict (nodded l)) g u ≡ pending l g u
  unfolding pending
  waits_so = λ i. some_below expense_count (λ c. pending_so (l.expense c) i)

pub nods_tied : (home : ℕ → ℕ) (r : ℕ) (l : Ledger) (a g : ℕ) → a < user_count → g < group_count → Leaves home r l a g ↔ AsModule home r (here (show r (nodded l))) (leave a g)
nods_tied home r l a g a8 g16 =
    let t = subst (λ x. Leaves home r (strict (nodded l)) a g ↔ AsModule home r (here x) (leave a g)) (show_strict r (nodded l)) (leaves_tied home r (strict (nodded l)) a g a8 g16 (λ q. omega arith)) in (
      λ h. t.0 (h.0, h.1, h.2, subst M.AtLeastZero (sym (raw_so l g a)) h.3, waits_so l g a ∙ h.4, h.5),
      λ h. let y = t.1 h in (y.0, y.1, y.2, subst M.AtLeastZero (raw_so l g a) y.3, sym (waits_so l g a) ∙ y.4, y.5),
    )
