-- Sets of users as bytes: one set lies within another just when a test of the eight users says so.
use Rattle.std.proofs.Common.{◌≡◌, refl, sym, ap, ap₂, ◌∙◌, Bool, true, false, not, cond, ◌||◌, [], ◌∷◌, ℕ, ◌+◌, ◌*◌, ◌<◌, arith, bit_or, ltb, eqb}
use mathlib.Core.Bool.{beq, or-false}
use lib.Bits.{or_zero_r}
use Rattle.rules.specs.Tests.{number, all_of, every8}
use Rattle.rules.specs.Ledger.{ever_in, nobody}
use Rattle.images.specs.Meaning.{read_bits, bits}
use Rattle.rules.proofs.Basics.{clash, Same, same, other, same?, ltb_true, ltb_false, false_of}
use Rattle.rules.proofs.Accepted.{every_8}
use Rattle.rules.proofs.Sound.{of_every8}
use Rattle.images.proofs.Codec.{bits_back, bits_round, bits_byte, or_bits}

-- The bit of a user in the byte of a set.
pub bits_at : (p : ℕ → Bool) (u : ℕ) → u < 8 → read_bits (bits p) u ≡ p u
bits_at p u k =
    let q : ℕ → Bool = λ w. cond (ltb w 8) (p w) false in
    let e : read_bits (bits p) ≡ q = bits_back q (λ w j. ap (λ t. cond t (p w) false) (ltb_false w 8 j)) in
    ap (λ f. f u) e ∙ ap (λ t. cond t (p u) false) (ltb_true u 8 k)

pub every8_same : (p q : ℕ → Bool) → ((u : ℕ) → u < 8 → p u ≡ q u) → every8 p ≡ every8 q
unfolding every8
every8_same p q h = λ i. all_of
    (h 0 (omega arith) i ∷ h 1 (omega arith) i ∷ h 2 (omega arith) i ∷ h 3 (omega arith) i
    ∷ h 4 (omega arith) i ∷ h 5 (omega arith) i ∷ h 6 (omega arith) i ∷ h 7 (omega arith) i ∷ [])

beq_true : (a b : Bool) → a ≡ b → beq a b ≡ true
beq_true true b e = rw (← e)
beq_true false b e = rw (← e)

true_beq : (a b : Bool) → beq a b ≡ true → a ≡ b
true_beq true true e = refl
true_beq true false e = absurd (clash e refl)
true_beq false true e = absurd (clash e refl)
true_beq false false e = refl

-- Two sets are equal as bytes just when each user is in both or in neither.
bits_eqb : (p q : ℕ → Bool) → eqb (bits p) (bits q) ≡ every8 (λ u. beq (p u) (q u))
bits_eqb p q = go (same? (bits p) (bits q))
  where
    at : bits p ≡ bits q → (u : ℕ) → u < 8 → beq (p u) (q u) ≡ true
    at e u k = beq_true (p u) (q u) (sym (bits_at p u k) ∙ ap (λ n. read_bits n u) e ∙ bits_at q u k)

    differ : (bits p ≡ bits q → ⊥) → every8 (λ u. beq (p u) (q u)) ≡ true → ⊥
    differ n e =
        let f : (u : ℕ) → u < 8 → p u ≡ q u = λ u k. true_beq (p u) (q u) (every_8 _ e u k) in
        n
        (λ i. number (f 0 (omega arith) i) + 2 * number (f 1 (omega arith) i) + 4 * number (f 2 (omega arith) i) + 8 * number (f 3 (omega arith) i)
        + 16 * number (f 4 (omega arith) i) + 32 * number (f 5 (omega arith) i) + 64 * number (f 6 (omega arith) i) + 128 * number (f 7 (omega arith) i))

    go : Same (bits p) (bits q) → eqb (bits p) (bits q) ≡ every8 (λ u. beq (p u) (q u))
    go (same e t) = t ∙ sym (of_every8 _ (at e))
    go (other n t) = t ∙ sym (false_of _ (differ n))

or_beq : (a b : Bool) → beq (a || b) b ≡ (not a || b)
or_beq true true = refl
or_beq true false = refl
or_beq false true = refl
or_beq false false = refl

-- Byte a lies within byte b.
pub within_is : (a b : ℕ) → a < 256 → b < 256 → eqb (bit_or a b) b ≡ every8 (λ u. not (read_bits a u) || read_bits b u)
within_is a b ha hb =
    ap₂ eqb (sym (or_bits a b ha hb)) (sym (bits_round b hb))
    ∙ bits_eqb (λ u. read_bits a u || read_bits b u) (read_bits b)
    ∙ every8_same _ _ (λ u k. or_beq (read_bits a u) (read_bits b u))

-- Not positive is zero.
pub not_positive : (n : ℕ) → not (ltb 0 n) ≡ eqb n 0
not_positive n = go (same? n 0)
  where
    go : Same n 0 → not (ltb 0 n) ≡ eqb n 0
    go (same p _) = rw p
    go (other p e) = rw (e, ltb_true 0 n (omega arith))

-- The users of a byte are among those for whom q holds; those for whom p holds are among the users of a byte; p's are among q's.
pub byte_within : (a : ℕ) (q : ℕ → Bool) → a < 256 → eqb (bit_or a (bits q)) (bits q) ≡ every8 (λ u. not (read_bits a u) || q u)
byte_within a q h = within_is a (bits q) h (bits_byte q) ∙ every8_same _ _ (λ u k. ap (λ t. not (read_bits a u) || t) (bits_at q u k))

pub within_byte : (p : ℕ → Bool) (b : ℕ) → b < 256 → eqb (bit_or (bits p) b) b ≡ every8 (λ u. not (p u) || read_bits b u)
within_byte p b h = within_is (bits p) b (bits_byte p) h ∙ every8_same _ _ (λ u k. ap (λ t. not t || read_bits b u) (bits_at p u k))

pub within_sets : (p q : ℕ → Bool) → eqb (bit_or (bits p) (bits q)) (bits q) ≡ every8 (λ u. not (p u) || q u)
within_sets p q = byte_within (bits p) q (bits_byte p) ∙ every8_same _ _ (λ u k. ap (λ t. not t || q u) (bits_at p u k))

-- Nobody was ever a member just when that set is empty.
pub nobody_is : (f : ℕ → ℕ) → eqb (bits (ever_in f)) 0 ≡ nobody f
nobody_is f =
    ap (λ n. eqb n 0) (sym (or_zero_r (bits (ever_in f)))) ∙ within_sets (ever_in f) (λ u. false)
    ∙ every8_same _ _ (λ u k. or-false (not (ever_in f u)))
