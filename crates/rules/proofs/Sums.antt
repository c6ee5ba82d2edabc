-- Sums over the numbers below a bound and over the eight users, and tests of one among them: term by term, with one term more, with one term another.
-- They rest on the tests of Basics alone.
use mathlib.Core.Path.{◌≡◌, refl, sym, ap₂, ◌∙◌}
use mathlib.Core.Bool.{Bool, true, false, ◌||◌}
use mathlib.Core.Logic.{◌≢◌}
use Prim.Native.Nat.{ℕ, zero, suc, ◌+◌, ◌*◌, ◌≤◌, ◌<◌}
use native.Mathlib.Omega.{arith}
use native.Mathlib.Numerals.{add-one}
use native.Mathlib.Nat.{mul-add}
use Rattle.rules.specs.Tests.{number, only, sum8, sum_below, some_below}
use Rattle.rules.proofs.Basics.{clash, Same, same, other, same?}

pub only_zero : (a : Bool) → only a 0 ≡ 0
only_zero true = refl
only_zero false = refl

pub sum_zero : (n : ℕ) → sum_below n (λ c. 0) ≡ 0
unfolding sum_below
sum_zero zero = refl
sum_zero (suc n) = let z = sum_zero n in omega arith

pub sum_more : (f : ℕ → ℕ) (n : ℕ) → sum_below (n + 1) f ≡ sum_below n f + f n
unfolding sum_below
sum_more f n = rw add-one

pub sum_same : (n : ℕ) (f g : ℕ → ℕ) → ((c : ℕ) → c < n → f c ≡ g c) → sum_below n f ≡ sum_below n g
unfolding sum_below
sum_same zero f g h = refl
sum_same (suc n) f g h = ap₂ ◌+◌ (sum_same n f g (λ c k. h c (omega arith))) (h n (omega arith))

pub sum_le : (n : ℕ) (f h : ℕ → ℕ) → ((i : ℕ) → i < n → f i ≤ h i) → sum_below n f ≤ sum_below n h
unfolding sum_below
sum_le zero f h e = omega arith
sum_le (suc n) f h e = let x = sum_le n f h (λ i k. e i (omega arith)) in let y = e n (omega arith) in omega arith

-- Less at one place, and nowhere more.
pub sum_less : (n : ℕ) (f h : ℕ → ℕ) (c : ℕ) → c < n → f c < h c → ((i : ℕ) → i < n → f i ≤ h i) → sum_below n f < sum_below n h
unfolding sum_below
sum_less zero f h c k l e = absurd (omega arith)
sum_less (suc n) f h c k l e = go (same? c n) (λ j. sum_less n f h c j l below)
  where
    below : (i : ℕ) → i < n → f i ≤ h i
    below i j = e i (omega arith)

    go : Same c n → (c < n → sum_below n f < sum_below n h) → sum_below n f + f n < sum_below n h + h n
    go (same p _) ih = let x = sum_le n f h below in let y : f n < h n = rw p at l in omega arith
    go (other p _) ih = let x = ih (omega arith) in let y = e n (omega arith) in omega arith

pub sum_bound : (n m : ℕ) (f : ℕ → ℕ) → ((i : ℕ) → i < n → f i ≤ m) → sum_below n f ≤ m * n
unfolding sum_below
sum_bound zero m f h = omega arith
sum_bound (suc n) m f h = let x = sum_bound n m f (λ i k. h i (omega arith)) in let y = h n (omega arith) in omega arith

pub sum_but_one : (n : ℕ) (f h : ℕ → ℕ) (c : ℕ) → c < n → ((i : ℕ) → i < n → i ≢ c → f i ≡ h i) → sum_below n f + h c ≡ sum_below n h + f c
unfolding sum_below
sum_but_one zero f h c k e = absurd (omega arith)
sum_but_one (suc n) f h c k e = go (same? c n) (λ j. sum_but_one n f h c j (λ i x. e i (omega arith)))
  where
    go : Same c n → (c < n → sum_below n f + h c ≡ sum_below n h + f c) → sum_below n f + f n + h c ≡ sum_below n h + h n + f c
    go (same p _) ih = let x = sum_same n f h (λ i j. e i (omega arith) (omega arith)) in rw p (omega arith)
    go (other p _) ih = let x = ih (omega arith) in let y = e n (omega arith) (λ q. p (sym q)) in omega arith

-- One term alone.
pub sum_one : (n : ℕ) (f : ℕ → ℕ) (c : ℕ) → c < n → ((i : ℕ) → i < n → i ≢ c → f i ≡ 0) → sum_below n f ≡ f c
sum_one n f c k e = let x = sum_but_one n f (λ i. 0) c k e in let z = sum_zero n in omega arith

-- Two terms in one, and two sums in either order.
pub sum_add : (n : ℕ) (f h : ℕ → ℕ) → sum_below n (λ i. f i + h i) ≡ sum_below n f + sum_below n h
unfolding sum_below
sum_add zero f h = refl
sum_add (suc n) f h = let x = sum_add n f h in omega arith

pub sums_swap : (m n : ℕ) (f : ℕ → ℕ → ℕ) → sum_below m (λ i. sum_below n (f i)) ≡ sum_below n (λ j. sum_below m (λ i. f i j))
unfolding sum_below
sums_swap zero n f = sym (sum_zero n)
sums_swap (suc m) n f = let x = sums_swap m n f in let y = sum_add n (λ j. sum_below m (λ i. f i j)) (f m) in omega arith

-- Over the eight users.
pub sum_8 : (f : ℕ → ℕ) → sum8 f ≡ sum_below 8 f
unfolding sum_below
sum_8 f = omega arith

pub sum8_same : (f h : ℕ → ℕ) → ((u : ℕ) → u < 8 → f u ≡ h u) → sum8 f ≡ sum8 h
sum8_same f h e = sum_8 f ∙ sum_same 8 f h e ∙ sym (sum_8 h)

pub sum8_le : (f h : ℕ → ℕ) → ((u : ℕ) → u < 8 → f u ≤ h u) → sum8 f ≤ sum8 h
sum8_le f h e = rw (sum_8 f, sum_8 h) (sum_le 8 f h e)

pub sum8_add : (f h : ℕ → ℕ) → sum8 (λ u. f u + h u) ≡ sum8 f + sum8 h
sum8_add f h = omega arith

pub sum8_times : (k : ℕ) (f : ℕ → ℕ) → sum8 (λ u. k * f u) ≡ k * sum8 f
sum8_times k f = simp mul-add

pub below_sum : (f : ℕ → ℕ) (u : ℕ) → u < 8 → f u ≤ sum8 f
below_sum f zero h = omega arith
below_sum f (suc zero) h = omega arith
below_sum f (suc (suc zero)) h = omega arith
below_sum f (suc (suc (suc zero))) h = omega arith
below_sum f (suc (suc (suc (suc zero)))) h = omega arith
below_sum f (suc (suc (suc (suc (suc zero))))) h = omega arith
below_sum f (suc (suc (suc (suc (suc (suc zero)))))) h = omega arith
below_sum f (suc (suc (suc (suc (suc (suc (suc zero))))))) h = omega arith
below_sum f (suc (suc (suc (suc (suc (suc (suc (suc u)))))))) h = absurd (omega arith)

-- A test of one among them.
pub some_more : (p : ℕ → Bool) (n : ℕ) → some_below (n + 1) p ≡ (some_below n p || p n)
unfolding some_below
some_more p n = rw add-one

pub or_none : (a b : Bool) → (a || b) ≡ false → (a ≡ false) × (b ≡ false)
or_none true b e = absurd (clash refl e)
or_none false b e = (refl, e)

pub none_below : (n : ℕ) (p : ℕ → Bool) → some_below n p ≡ false → (i : ℕ) → i < n → p i ≡ false
unfolding some_below
none_below zero p e i h = absurd (omega arith)
none_below (suc n) p e i h = go (same? i n) (λ k. none_below n p (or_none (some_below n p) (p n) e).0 i k)
  where
    go : Same i n → (i < n → p i ≡ false) → p i ≡ false
    go (same q _) ih = rw q (or_none (some_below n p) (p n) e).1
    go (other q _) ih = ih (omega arith)

pub of_none_below : (n : ℕ) (p : ℕ → Bool) → ((i : ℕ) → i < n → p i ≡ false) → some_below n p ≡ false
unfolding some_below
of_none_below zero p h = refl
of_none_below (suc n) p h = rw (of_none_below n p (λ i k. h i (omega arith)), h n (omega arith))

-- A test's number is 0 or 1.
pub number_le : (b : Bool) → number b ≤ 1
number_le true = omega arith
number_le false = omega arith
