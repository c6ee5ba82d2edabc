-- A test of every number below a bound, as a loop goes through it.
use mathlib.Core.Path.{◌≡◌, refl, sym, ap, ◌∙◌, fun_ext}
use mathlib.Core.Bool.{Bool, true, false, ◌&&◌, and-false}
use Prim.Native.Nat.{ℕ, zero, suc, ◌+◌, ◌-◌, ◌*◌, ◌≤◌, ◌<◌}
use native.Mathlib.Nat.{add_assoc}
use native.Mathlib.Numerals.{add-one}
use native.Mathlib.Omega.{arith}
use Rattle.rules.specs.Tests.{every_below}
use Rattle.rules.proofs.Basics.{clash, Same, same, other, same?, Less, less, more, less?, false_of}
use Rattle.rules.proofs.Accepted.{every_below_lem}
use Rattle.rules.proofs.Sound.{of_every_below}

module _ (f : ℕ → Bool) where
  pub all_none : every_below 0 f ≡ true
  unfolding every_below
  all_none = refl

  pub all_more : (n : ℕ) → every_below n f ≡ true → f n ≡ true → every_below (n + 1) f ≡ true
  unfolding every_below
  all_more n h k = rw (add-one, h, k)

  pub all_false : (i n : ℕ) → i < n → f i ≡ false → every_below n f ≡ false
  unfolding every_below
  all_false i zero h e = absurd (omega arith)
  all_false i (suc n) h e = go (same? i n) (λ k. all_false i n k e)
    where
      go : Same i n → (i < n → every_below n f ≡ false) → (every_below n f && f n) ≡ false
      go (same p _) ih = rw (← p, e) (and-false (every_below i f))
      go (other p _) ih = rw (ih (omega arith))

  -- A block of m numbers from n on.
  pub block_more : (n m : ℕ) → every_below n f ≡ true → every_below m (λ i. f (n + i)) ≡ true → every_below (n + m) f ≡ true
  block_more n m h k = of_every_below (n + m) f (λ i j. go i j (less? i n))
    where
      go : (i : ℕ) → i < n + m → Less i n → f i ≡ true
      go i j (less q _) = every_below_lem n f h i q
      go i j (more q _) =
          let e : n + (i - n) ≡ i = omega arith in
          ap f (sym e) ∙ every_below_lem m (λ x. f (n + x)) k (i - n) (omega arith)

  pub block_false : (n m t : ℕ) → n + m ≤ t → every_below m (λ i. f (n + i)) ≡ false → every_below t f ≡ false
  block_false n m t h e = false_of (every_below t f) (λ a. clash (of_every_below m (λ i. f (n + i)) (λ i j. every_below_lem t f a (n + i) (omega arith))) e)

  -- Numbers from a on, in rows of eight.
  shifted : (a n m : ℕ) → every_below m (λ i. f ((a + n) + i)) ≡ every_below m (λ i. f (a + (n + i)))
  shifted a n m = ap (every_below m) (fun_ext (λ i. ap f (add_assoc a n i)))

pub row_more : (f : ℕ → Bool) (a n : ℕ) → every_below (8 * n) (λ i. f (a + i)) ≡ true → every_below 8 (λ i. f ((a + 8 * n) + i)) ≡ true → every_below (8 * (n + 1)) (λ i. f (a + i)) ≡ true
row_more f a n h k =
    let z : 8 * n + 8 ≡ 8 * (n + 1) = omega arith in
    rw z at (block_more (λ i. f (a + i)) (8 * n) 8 h (sym (shifted f a (8 * n) 8) ∙ k))

pub row_false : (f : ℕ → Bool) (a n m : ℕ) → 8 * n + 8 ≤ m → every_below 8 (λ i. f ((a + 8 * n) + i)) ≡ false → every_below m (λ i. f (a + i)) ≡ false
row_false f a n m h e = block_false (λ i. f (a + i)) (8 * n) 8 m h (sym (shifted f a (8 * n) 8) ∙ e)
