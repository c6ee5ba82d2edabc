-- The largest remainders, lower user number first, are an order (Order).
use mathlib.Core.Path.{◌≡◌}
use mathlib.Core.Bool.{true, false}
use mathlib.Core.Logic.{◌⊎◌, inl, inr}
use Prim.Native.Nat.{ℕ, ◌<◌}
use native.Mathlib.Omega.{arith}
use borrow.Author.Tests.{ltb-true, lt-ltb, eq-eqb, ne_eqb}
use Rattle.rules.proofs.Basics.{clash, false_of, Same, same, other, same?, Less, less, more, less?}
use Rattle.rules.proofs.Order.{Order}
use Rattle.rules.specs.Parts.{largest}

module _ (r : ℕ → ℕ) where
  -- The test as a fact, both ways.
  abbrev pub First : ℕ → ℕ → Type 0
  First w u = (r u < r w) ⊎ ((r w ≡ r u) × (w < u))

  pub first_is : (w u : ℕ) → largest r w u ≡ true → First w u
  unfolding largest
  first_is w u = go (same? (r w) (r u))
    where
      go : Same (r w) (r u) → largest r w u ≡ true → First w u
      go (same e t) h = inr (e, ltb-true w u (rw t at h))
      go (other n t) h = inl (ltb-true (r u) (r w) (rw t at h))

  pub is_first : (w u : ℕ) → First w u → largest r w u ≡ true
  unfolding largest
  is_first w u (inl h) = rw (ne_eqb (r w) (r u) (λ e. omega arith)) (lt-ltb (r u) (r w) h)
  is_first w u (inr h) = rw (eq-eqb (r w) (r u) h.0) (lt-ltb w u h.1)

  never : (u : ℕ) → First u u → ⊥
  never u (inl h) = omega arith
  never u (inr h) = omega arith

  along : (u v w : ℕ) → First u v → First v w → First u w
  along u v w (inl h) (inl k) = inl (omega arith)
  along u v w (inl h) (inr k) = inl (omega arith)
  along u v w (inr h) (inl k) = inl (omega arith)
  along u v w (inr h) (inr k) = inr (omega arith, omega arith)

  either : (u v : ℕ) → (u ≡ v → ⊥) → First u v ⊎ First v u
  either u v n = go (same? (r u) (r v)) (less? u v) (less? (r u) (r v))
    where
      go : Same (r u) (r v) → Less u v → Less (r u) (r v) → First u v ⊎ First v u
      go (same e _) (less h _) c = inl (inr (e, h))
      go (same e _) (more h _) c = inr (inr (omega arith, omega arith))
      go (other d _) b (less h _) = inr (inl h)
      go (other d _) b (more h _) = inl (inl (omega arith))

  pub by_remainder : Order (largest r)
  by_remainder = record {
    self = λ u. false_of (largest r u u) (λ e. never u (first_is u u e));
    chain = λ u v w a b. is_first u w (along u v w (first_is u v a) (first_is v w b));
    total = λ u v n e. is_first v u (go u v e (either u v n));
  }
    where
      go : (u v : ℕ) → largest r u v ≡ false → First u v ⊎ First v u → First v u
      go u v e (inl h) = absurd (clash (is_first u v h) e)
      go u v e (inr h) = h
