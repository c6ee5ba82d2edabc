-- Differences of amounts as signed numbers of 64 bits: all figures of a statement are far within them.
use mathlib.Core.Path.{◌≡◌, refl, sym, ap, ◌∙◌}
use mathlib.Core.Bool.{cond}
use Prim.Native.Nat.{ℕ, zero, suc, ◌+◌, ◌-◌, ◌≤◌}
use native.Mathlib.Omega.{arith}
use lib.IntN.{ℤ, pos, negsuc, nat_abs, neg_ℤ, sub_ℕ, ◌+ℤ◌, ◌-ℤ◌}
use lib.Signed.{mag}
use borrow.Author.Rules.{sfits_of}
use mir.Syntax.{w64}
use mir.Val.{SFits, to_z, of_z}
use mir.Facts.{to_z-of_z}
use Rattle.format.specs.declared.Line.{Line}
use Rattle.rules.proofs.Basics.{Less, less, more, less?, ltb_false}
use Rattle.lines.specs.Lines.{line_from}

sub_abs : (a b : ℕ) → nat_abs (sub_ℕ a b) ≤ a + b
sub_abs a b = go (less? a b)
  where
    go : Less a b → nat_abs (sub_ℕ a b) ≤ a + b
    go (less h e) = rw e (omega arith)
    go (more h e) = rw e (omega arith)

add_abs : (x y : ℤ) → nat_abs (x +ℤ y) ≤ nat_abs x + nat_abs y
add_abs (pos a) (pos b) = omega arith
add_abs (pos a) (negsuc b) = sub_abs a (suc b)
add_abs (negsuc a) (pos b) = let z = sub_abs b (suc a) in omega arith
add_abs (negsuc a) (negsuc b) = omega arith

neg_abs : (n : ℕ) → nat_abs (neg_ℤ (pos n)) ≡ n
neg_abs zero = refl
neg_abs (suc n) = refl

mag_abs : (z : ℤ) → mag z ≤ nat_abs z
mag_abs (pos n) = omega arith
mag_abs (negsuc n) = omega arith

-- A number whose magnitude is small fits.
fits_abs : (z : ℤ) → nat_abs z ≤ 1_000_000_000_000_000 → SFits w64 z
fits_abs z h = let k = mag_abs z in sfits_of {z = z} (omega arith)

-- Raw.
pub minus_is : (a b : ℕ) → pos a -ℤ pos b ≡ sub_ℕ a b
minus_is a zero = ap pos (z ∙ sym w) ∙ sym (ap (λ t. cond t (negsuc (0 - suc a)) (pos (a - 0))) (ltb_false a 0 (omega arith)))
  where
    z : a + 0 ≡ a
    z = omega arith

    w : a - 0 ≡ a
    w = omega arith
minus_is a (suc b) = refl

pub raw_fits : (a b : ℕ) → a ≤ 17_592_186_040_320 → b ≤ 2_199_023_255_040 → SFits w64 (pos a -ℤ pos b)
raw_fits a b h k = let z = sub_abs a b in rw (minus_is a b) (fits_abs (sub_ℕ a b) (omega arith))

-- Raw as it is read back from its bits.
module _ (a b : ℕ) (r : ℤ) (e : r ≡ sub_ℕ a b) (h : a ≤ 17_592_186_040_320) (k : b ≤ 2_199_023_255_040) where
  pub raw_read : to_z w64 (of_z w64 r) ≡ r
  raw_read = to_z-of_z {w = w64} (rw (e, ← minus_is a b) (raw_fits a b h k))

  pub raw_small : nat_abs (to_z w64 (of_z w64 r)) ≤ 19_791_209_295_360
  raw_small = let z = sub_abs a b in let y : nat_abs r ≤ 19_791_209_295_360 = rw e (omega arith) in rw raw_read y

-- Balance.
module _ (r : ℤ) (a b : ℕ) (hr : nat_abs r ≤ 19_791_209_295_360) (ha : a ≤ 17_592_186_040_320) (hb : b ≤ 140_737_488_322_561) where
  less_abs : nat_abs (r -ℤ pos a) ≤ 37_383_395_335_680
  less_abs = let z = add_abs r (neg_ℤ (pos a)) in let n = neg_abs a in omega arith

  pub less_fits : SFits w64 (r -ℤ pos a)
  less_fits = let z = less_abs in fits_abs (r -ℤ pos a) (omega arith)

  pub balance_fits : SFits w64 (r -ℤ pos a +ℤ pos b)
  balance_fits = let z = add_abs (r -ℤ pos a) (pos b) in let y = less_abs in fits_abs (r -ℤ pos a +ℤ pos b) (omega arith)

-- A line, its signed fields as they are read back from their bits.
pub line_is : (n p h g q : ℕ) (r z : ℤ) → p ≤ 17_592_186_040_320 → h ≤ 2_199_023_255_040 → g ≤ 17_592_186_040_320 → q ≤ 140_737_488_322_561
    → r ≡ sub_ℕ p h → z ≡ (to_z w64 (of_z w64 r) -ℤ pos g +ℤ pos q)
    → ◌≡◌ {A = Line} (record { counter = n; raw = to_z w64 (of_z w64 r); gift = g; part = q; balance = to_z w64 (of_z w64 z) }) (line_from n p h g q)
line_is n p h g q r z kp kh kg kq er ez =
    let x : to_z w64 (of_z w64 r) ≡ r = raw_read p h r er kp kh in
    let f : SFits w64 z = rw ez (balance_fits (to_z w64 (of_z w64 r)) g q (raw_small p h r er kp kh) kg kq) in
    let y : to_z w64 (of_z w64 z) ≡ (sub_ℕ p h -ℤ pos g +ℤ pos q) = to_z-of_z f ∙ ez ∙ ap (λ t. t -ℤ pos g +ℤ pos q) (x ∙ er) in
    λ i. record { counter = n; raw = (x ∙ er) i; gift = g; part = q; balance = y i }
