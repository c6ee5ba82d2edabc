-- Tests read as facts of the module, and the module's functions of the users and sums read as the rules'.
use mathlib.Core.Path.{◌≡◌, refl, fun_ext}
use mathlib.Core.Bool.{Bool, true, false, not, cond, ◌&&◌, ◌||◌}
use mathlib.Core.List.{List, [], ◌∷◌}
use Prim.Native.Nat.{ℕ, zero, suc, ◌%◌, ◌<◌}
use native.Mathlib.Omega.{arith}
use lib.Dec.{ltb, eqb}
use lib.IntN.{sub_ℕ}
use Rattle.rules.specs.Tests.{sum8, sum_below, Check, first}
use Rattle.rules.proofs.Basics.{clash, Same, eqb_true, eqb_self, eqb_false, same?, Less, less?, ltb_true, and_left, and_right, false_of, same, other, less, more}
use Rattle.rules.proofs.Accepted.{Passed}
use Rattle.rules.proofs.Sound.{eqb_other, not_zero}
use Rattle.splitless.specs.Module as M

-- A pair, written flat: the checks of a kind that have passed stand one a line.
infixr 2 ◌&◌
abbrev pub ◌&◌ : {A B : Type 0} → A → B → A × B
a & b = (a, b)

-- Checks that have all passed answer 0, and an answer 0 has passed the first.
pub of_passed : (ks : List Check) → Passed ks → first ks ≡ 0
unfolding first
of_passed [] p = refl
of_passed (k ∷ ks) p = rw p.0 (of_passed ks p.1)

pub first_zero : (b : Bool) (n : ℕ) (ks : List Check) → first ((b, suc n) ∷ ks) ≡ 0 → (b ≡ false) × (first ks ≡ 0)
unfolding first
first_zero true n ks e = absurd (omega arith)
first_zero false n ks e = (refl, e)

-- Tests of numbers, and membership by an odd counter.
pub eqb_yes : (m n : ℕ) → m ≡ n → eqb m n ≡ true
eqb_yes m n p = rw p (eqb_self n)

pub odd_yes : (m n : ℕ) → m ≡ n → eqb (n % 2) 1 ≡ true → M.IsMember m
odd_yes m n q e = rw q (eqb_true (n % 2) 1 e)

pub odd_no : (m n : ℕ) → m ≡ n → eqb (n % 2) 1 ≡ false → ¬ M.IsMember m
odd_no m n q e h = eqb_false (n % 2) 1 e (rw q at h)

pub yes_odd : (m n : ℕ) → m ≡ n → M.IsMember m → eqb (n % 2) 1 ≡ true
yes_odd m n q h = eqb_yes (n % 2) 1 (rw q at h)

pub no_odd : (m n : ℕ) → m ≡ n → (¬ M.IsMember m) → eqb (n % 2) 1 ≡ false
no_odd m n q h = eqb_other (n % 2) 1 (λ k. h (rw q k))

-- Functions of the users.
pub numbers_at : (f : ℕ → ℕ) (u : ℕ) → u < 8 → M.numbers f u ≡ f u
numbers_at f u k = rw (ltb_true u 8 k)

pub flags_at : (p : ℕ → Bool) (u : ℕ) → u < 8 → M.flags p u ≡ p u
flags_at p u k = rw (ltb_true u 8 k)

pub numbers_path : (f g : ℕ → ℕ) → ((u : ℕ) → u < 8 → f u ≡ g u) → M.numbers f ≡ M.numbers g
numbers_path f g h = fun_ext (λ u. go u (less? u 8))
  where
    go : (u : ℕ) → Less u 8 → M.numbers f u ≡ M.numbers g u
    go u (less k e) = rw e (h u k)
    go u (more k e) = rw e

pub flags_path : (p q : ℕ → Bool) → ((u : ℕ) → u < 8 → p u ≡ q u) → M.flags p ≡ M.flags q
flags_path p q h = fun_ext (λ u. go u (less? u 8))
  where
    go : (u : ℕ) → Less u 8 → M.flags p u ≡ M.flags q u
    go u (less k e) = rw e (h u k)
    go u (more k e) = rw e

pub sum_shares : (s : ℕ → ℕ) → M.SumShares (M.numbers s) ≡ sum8 s
unfolding M.SumShares M.SumFunction
sum_shares s = omega arith

-- Sums and tests over numbers below a bound.
pub sum_function : (n : ℕ) (d : ℕ → Bool) (F f : ℕ → ℕ) → ((i : ℕ) → i < n → cond (d i) (F i) 0 ≡ f i) → M.SumFunction n d F ≡ sum_below n f
unfolding M.SumFunction sum_below
sum_function zero d F f h = refl
sum_function (suc n) d F f h = rw (sum_function n d F f (λ i k. h i (omega arith)), h n (omega arith))

pub every_user_lem : (n : ℕ) (p : ℕ → Bool) → M.every_user n p ≡ true → (i : ℕ) → i < n → p i ≡ true
unfolding M.every_user
every_user_lem zero p e i h = absurd (omega arith)
every_user_lem (suc n) p e i h = go (same? i n) (λ k. every_user_lem n p (and_left (M.every_user n p) (p n) e) i k)
  where
    go : Same i n → (i < n → p i ≡ true) → p i ≡ true
    go (same q _) ih = rw q (and_right (M.every_user n p) (p n) e)
    go (other q _) ih = ih (omega arith)

pub of_every_user : (n : ℕ) (p : ℕ → Bool) → ((i : ℕ) → i < n → p i ≡ true) → M.every_user n p ≡ true
unfolding M.every_user
of_every_user zero p h = refl
of_every_user (suc n) p h = rw (of_every_user n p (λ i k. h i (omega arith)), h n (omega arith))

pub zero_or : (n : ℕ) (b : Bool) → (not (ltb 0 n) || b) ≡ (eqb n 0 || b)
zero_or n b = go (less? 0 n)
  where
    go : Less 0 n → (not (ltb 0 n) || b) ≡ (eqb n 0 || b)
    go (less k e) = rw (e, not_zero n k)
    go (more k e) = rw (e, eqb_yes n 0 (omega arith))

pub and_swap : (a b c : Bool) → (b && a && c) ≡ (a && b && c)
and_swap true true c = refl
and_swap true false c = refl
and_swap false true c = refl
and_swap false false c = refl

-- A difference at least zero, and a conjunction that is not true.
pub least_zero : (a b : ℕ) → ltb a b ≡ false → M.AtLeastZero (sub_ℕ a b)
least_zero a b p = rw p tt

pub zero_least : (a b : ℕ) → M.AtLeastZero (sub_ℕ a b) → ltb a b ≡ false
zero_least a b h = false_of _ (λ p. rw p at h)

pub and_false : (a b : Bool) → (a && b) ≡ false → a ≡ true → b ≡ false
and_false true b e p = e
and_false false b e p = absurd (clash p refl)

pub of_and_false : (a b : Bool) → (a ≡ true → b ≡ false) → (a && b) ≡ false
of_and_false true b h = h refl
of_and_false false b h = refl
