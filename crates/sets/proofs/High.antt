-- Sets of users in the second byte of a number: how they are made, and or'ed together.
use Rattle.std.proofs.Common.{◌≡◌, sym, ◌∙◌, Bool, true, false, ℕ, ◌+◌, ◌*◌, ◌^◌, ◌%◌, ◌<◌, arith, mul_comm, mul_left_comm, add-zero, add-one, pow-add, bit_or, eqb, shl_exact}
use lib.Bits.{or_shifted_r, or_block}
use mir.Val.{bool_byte}
use Rattle.rules.specs.Tests.{number, sum_below}
use Rattle.images.specs.Meaning.{bits}
use Rattle.rules.proofs.Basics.{eqb_true, eqb_self, bool_path}
use Rattle.rules.proofs.Sums.{number_le}
use Rattle.eight.proofs.Eight.{bool_byte_lem}

-- The bit of a test, at a place that a number of 32 bits has.
pub raised_exact : (a : Bool) (k : ℕ) → k < 16 → bool_byte a * 2 ^ k % 4294967296 ≡ number a * 2 ^ k
raised_exact a k h = rw (bool_byte_lem a).0 (shl_exact 1 k 32 (number_less a) (omega arith))
  where
    number_less : (b : Bool) → number b < 2 ^ 1
    number_less b = let n = number_le b in omega arith

-- The users below u for whom p holds, in the second byte: fewer than the next bit, one more by its bit, and all eight.
abbrev first_bits : ℕ → (ℕ → Bool) → ℕ
first_bits u p = sum_below u (λ w. number (p w) * 2 ^ w)

pub one_user_more : (p : ℕ → Bool) (u : ℕ) {s : ℕ} → s ≡ 256 * first_bits u p → s < 2 ^ (8 + u) → bit_or s (number (p u) * 2 ^ (8 + u)) ≡ 256 * first_bits (u + 1) p
unfolding sum_below
one_user_more p u {s} e h =
    let k : number (p u) * 2 ^ (8 + u) ≡ 256 * (number (p u) * 2 ^ u) = rw pow-add (mul_left_comm (number (p u)) 256 (2 ^ u)) in
    let n : first_bits (u + 1) p ≡ first_bits u p + number (p u) * 2 ^ u = rw add-one in
    or_shifted_r (number (p u)) (8 + u) s h ∙ omega arith

pub below_next : (b : Bool) (u : ℕ) {s : ℕ} → s < 2 ^ (8 + u) → bit_or s (number b * 2 ^ (8 + u)) < 2 ^ (8 + (u + 1))
below_next b u {s} h = rw (or_shifted_r (number b) (8 + u) s h) (go b)
  where
    go : (t : Bool) → number t * 2 ^ (8 + u) + s < 2 ^ (8 + (u + 1))
    go t =
        let a : 8 + (u + 1) ≡ (8 + u) + 1 = omega arith in
        let e : 2 ^ (8 + (u + 1)) ≡ 2 ^ (8 + u) * 2 = rw a (pow-add 2 (8 + u) 1) in
        elim t as (λ t'. number t' * 2 ^ (8 + u) + s < 2 ^ (8 + (u + 1))) [ true ↦ omega arith | false ↦ omega arith ]

pub all_users : (p : ℕ → Bool) → 256 * first_bits 8 p ≡ 256 * bits p
unfolding sum_below
all_users p = omega arith

-- Two numbers by their two bytes; by the second alone.
pub or_bytes : (x y r s : ℕ) → r < 256 → s < 256 → bit_or (256 * x + r) (256 * y + s) ≡ 256 * bit_or x y + bit_or r s
or_bytes x y r s hr hs = rw (mul_comm 256 x, mul_comm 256 y, mul_comm 256 (bit_or x y)) (or_block 8 x y r s hr hs)

pub or_seconds : (x y : ℕ) → bit_or (256 * x) (256 * y) ≡ 256 * bit_or x y
or_seconds x y = rw (sym (add-zero (256 * x)), sym (add-zero (256 * y))) (or_bytes x y 0 0 (omega arith) (omega arith)) ∙ add-zero (256 * bit_or x y)

pub eqb_seconds : (x y : ℕ) → eqb (256 * x) (256 * y) ≡ eqb x y
eqb_seconds x y = bool_path _ _ (λ e. let z = eqb_true (256 * x) (256 * y) e in let t : x ≡ y = omega arith in rw t (eqb_self y)) (λ e. rw (eqb_true x y e) (eqb_self (256 * y)))
