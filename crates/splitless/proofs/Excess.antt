-- What a user has paid in a group beyond the shares held there, under rule 1 as the module has it (Strict), and which steps leave it: an expense outside of the group adds nothing, and one that only its
-- payer has acknowledged adds as much to what the payer paid as to the payer's share. Proved of ledgers.
use mathlib.Core.Path.{◌≡◌, refl, sym, ap, ◌∙◌}
use mathlib.Core.Bool.{Bool, true, false, not, cond, ◌&&◌, ◌||◌}
use mathlib.Core.Option.{Option, none, some}
use mathlib.Core.Logic.{◌≢◌}
use Prim.Native.Nat.{ℕ, ◌+◌, ◌-◌, ◌≤◌, ◌<◌}
use native.Mathlib.Omega.{arith}
use lib.Dec.{eqb}
use Rattle.format.specs.Layout.{equal_rule}
use Rattle.rules.specs.Tests.{every8, sum_below, only}
use Rattle.rules.specs.Ledger.{Expense, Ledger, total, group_absent}
use Rattle.rules.specs.Sound.{sound}
use Rattle.rules.specs.Balance.{counts_acknowledged, valid, paid_in, held_in, paid, held}
use Rattle.rules.specs.Step.{states, apply}
use Rattle.rules.specs.Merge.{merged, merge_expense, merge_ledger}
use Rattle.rules.proofs.Basics.{Same, eqb_self, same?, Less, less?, and_right, same, other, less, more}
use Rattle.rules.proofs.Theory.{merged_lt, merged_gt, merged_eq}
use Rattle.rules.proofs.Accepted.{every_8}
use Rattle.rules.proofs.Sound.{eqb_other, or_else, not_zero, Good, GoodOption, good_ledger}
use Rattle.rules.proofs.Sums.{sum_same, sum_but_one, sum_8}
use Rattle.splitless.proofs.Showing.{absent_zero}
use Rattle.splitless.proofs.Strict.{strict}

unfoldable pub excess : Ledger → (g u : ℕ) → ℕ
excess l g u = paid (strict l) g u - held (strict l) g u

-- An expense that is not in group g adds nothing.
out_valid : (g : ℕ) (e : Expense) → e.group ≢ g → valid equal_rule g e ≡ false
out_valid g e ne = rw (eqb_other e.group g ne)

pub out_paid : (g u : ℕ) (e : Expense) → e.group ≢ g → paid_in equal_rule g u (some e) ≡ 0
out_paid g u e ne = rw (out_valid g e ne)

pub out_held : (g u : ℕ) (e : Expense) → e.group ≢ g → held_in equal_rule g u (some e) ≡ 0
out_held g u e ne = rw (out_valid g e ne)

-- Nobody else has acknowledged: the expense counts only where nobody else has a share, and then the payer's share is its amount.
module _ (g u : ℕ) (u8 : u < 8) (e : Expense) (p8 : e.payer < 8) (lone : (w : ℕ) → w < 8 → e.acknowledged w ≡ true → w ≡ e.payer) where
  others_none : valid equal_rule g e ≡ true → (w : ℕ) → w < 8 → w ≢ e.payer → e.shares w ≡ 0
  unfolding counts_acknowledged
  others_none v w k ne = go (less? 0 (e.shares w))
    where
      acked : (eqb (e.shares w) 0 || e.acknowledged w) ≡ true
      acked = every_8 (λ x. eqb (e.shares x) 0 || e.acknowledged x) (and_right (eqb e.group g && not e.deleted) (every8 (λ x. eqb (e.shares x) 0 || e.acknowledged x)) v) w k

      go : Less 0 (e.shares w) → e.shares w ≡ 0
      go (less j _) = absurd (ne (lone w k (or_else (eqb (e.shares w) 0) (e.acknowledged w) acked (not_zero (e.shares w) j))))
      go (more j _) = omega arith

  payer_all : valid equal_rule g e ≡ true → total e ≡ e.shares e.payer
  unfolding sum_below
  payer_all v = let x = sum_but_one 8 e.shares (λ i. 0) e.payer p8 (λ i k ne. others_none v i k ne) in let y = sum_8 e.shares in omega arith

  pub lone_even : paid_in equal_rule g u (some e) ≡ held_in equal_rule g u (some e)
  lone_even = go (valid equal_rule g e) refl (same? e.payer u)
    where
      go : (b : Bool) → valid equal_rule g e ≡ b → Same e.payer u → only (b && eqb e.payer u) (total e) ≡ only b (e.shares u)
      go false v s = refl
      go true v (same p q) = rw q (payer_all v ∙ ap e.shares p)
      go true v (other p q) = rw q (sym (others_none v u u8 (λ x. p (sym x))))

-- One expense stated anew: if its part of paid less held stays, so does the excess.
module _ (l : Ledger) (c : ℕ) (e : Expense) (g u : ℕ) (c512 : c < 512) where
  pub states_excess : paid_in equal_rule g u (some e) + held_in equal_rule g u (l.expense c) ≡ paid_in equal_rule g u (l.expense c) + held_in equal_rule g u (some e) → excess (apply (states c e) l) g u ≡ excess l g u
  unfolding excess paid held
  states_excess even =
      let x = one (paid_in equal_rule g u) in
      let y = one (held_in equal_rule g u) in
      omega arith
    where
      one : (k : Option Expense → ℕ) → sum_below 512 (λ d. k (cond (eqb d c) (some e) (l.expense d))) + k (l.expense c) ≡ sum_below 512 (λ d. k (l.expense d)) + k (some e)
      one k =
          let x = sum_but_one 512 (λ d. k (cond (eqb d c) (some e) (l.expense d))) (λ d. k (l.expense d)) c c512 (λ i j ne. ap (λ b. k (cond b (some e) (l.expense i))) (eqb_other i c ne)) in
          let y : k (cond (eqb c c) (some e) (l.expense c)) ≡ k (some e) = ap (λ b. k (cond b (some e) (l.expense c))) (eqb_self c) in
          omega arith

-- A sound ledger without group g has no expense in it.
pub absent_out : (home : ℕ → ℕ) (l : Ledger) → sound home l ≡ true → (g : ℕ) → g < 16 → group_absent l g ≡ true → (c : ℕ) (e : Expense) → c < 512 → l.expense c ≡ some e → e.group ≢ g
absent_out home l so g g16 ab c e k p q = go (l.expense c) p (good_ledger home l so c k)
  where
    here_good : Good home l c e → ⊥
    here_good gd =
        let x = gd.payer_in (omega arith) in
        let y : l.counter e.group e.payer ≡ 0 = ap (λ n. l.counter n e.payer) q ∙ absent_zero 0 l g e.payer gd.payer8 ab in
        omega arith

    go : (o : Option Expense) → o ≡ some e → GoodOption home l c o → ⊥
    go o r gd = here_good (rw r at gd)

-- Two ledgers merged, of which one has nothing in group g, nor holds a version as high as one of the other's there: in g what is paid and held is the other's.
abbrev pub Apart : (g : ℕ) → Ledger → Ledger → Type 0
Apart g l m = (c : ℕ) → c < 512
    → ((f : Expense) → m.expense c ≡ some f → f.group ≢ g)
    × ((e f : Expense) → l.expense c ≡ some e → m.expense c ≡ some f → e.version ≤ f.version → e.group ≢ g)

module _ (g : ℕ) (k : Option Expense → ℕ) (nothing : k none ≡ 0) (out : (e : Expense) → e.group ≢ g → k (some e) ≡ 0) where
  own_stays : (o p : Option Expense) → ((f : Expense) → p ≡ some f → f.group ≢ g) → ((e f : Expense) → o ≡ some e → p ≡ some f → e.version ≤ f.version → e.group ≢ g) → k (merge_expense o p) ≡ k o
  own_stays none none x y = refl
  own_stays none (some f) x y = out f (x f refl) ∙ sym nothing
  own_stays (some e) none x y = refl
  own_stays (some e) (some f) x y = go (less? f.version e.version) (less? e.version f.version)
    where
      go : Less f.version e.version → Less e.version f.version → k (some (merged e f)) ≡ k (some e)
      go (less j _) s = ap (λ d. k (some d)) (merged_gt e f j)
      go (more j _) (less i _) = ap (λ d. k (some d)) (merged_lt e f i) ∙ out f (x f refl) ∙ sym (out e (y e f refl refl (omega arith)))
      go (more j _) (more i _) = ap (λ d. k (some d)) (merged_eq e f (omega arith)) ∙ out _ (y e f refl refl (omega arith)) ∙ sym (out e (y e f refl refl (omega arith)))

  other_comes : (o p : Option Expense) → ((e : Expense) → o ≡ some e → e.group ≢ g) → ((f e : Expense) → p ≡ some f → o ≡ some e → f.version ≤ e.version → f.group ≢ g) → k (merge_expense o p) ≡ k p
  other_comes none none x y = refl
  other_comes none (some f) x y = refl
  other_comes (some e) none x y = out e (x e refl) ∙ sym nothing
  other_comes (some e) (some f) x y = go (less? f.version e.version) (less? e.version f.version)
    where
      go : Less f.version e.version → Less e.version f.version → k (some (merged e f)) ≡ k (some f)
      go (less j _) s = ap (λ d. k (some d)) (merged_gt e f j) ∙ out e (x e refl) ∙ sym (out f (y f e refl refl (omega arith)))
      go (more j _) (less i _) = ap (λ d. k (some d)) (merged_lt e f i)
      go (more j _) (more i _) = ap (λ d. k (some d)) (merged_eq e f (omega arith)) ∙ out _ (x e refl) ∙ sym (out f (y f e refl refl (omega arith)))

module _ (l m : Ledger) (g u : ℕ) where
  pub merged_own : Apart g l m → excess (merge_ledger l m) g u ≡ excess l g u
  unfolding excess paid held
  merged_own h =
      let x = sum_same 512 (λ c. paid_in equal_rule g u ((merge_ledger l m).expense c)) (λ c. paid_in equal_rule g u (l.expense c)) (λ c k. own_stays g (paid_in equal_rule g u) refl (out_paid g u) (l.expense c) (m.expense c) (h c k).0 (h c k).1) in
      let y = sum_same 512 (λ c. held_in equal_rule g u ((merge_ledger l m).expense c)) (λ c. held_in equal_rule g u (l.expense c)) (λ c k. own_stays g (held_in equal_rule g u) refl (out_held g u) (l.expense c) (m.expense c) (h c k).0 (h c k).1) in
      omega arith

  pub merged_other : Apart g m l → excess (merge_ledger l m) g u ≡ excess m g u
  unfolding excess paid held
  merged_other h =
      let x = sum_same 512 (λ c. paid_in equal_rule g u ((merge_ledger l m).expense c)) (λ c. paid_in equal_rule g u (m.expense c)) (λ c k. other_comes g (paid_in equal_rule g u) refl (out_paid g u) (l.expense c) (m.expense c) (h c k).0 (h c k).1) in
      let y = sum_same 512 (λ c. held_in equal_rule g u ((merge_ledger l m).expense c)) (λ c. held_in equal_rule g u (m.expense c)) (λ c k. other_comes g (held_in equal_rule g u) refl (out_held g u) (l.expense c) (m.expense c) (h c k).0 (h c k).1) in
      omega arith
