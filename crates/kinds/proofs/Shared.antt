-- Laws of what the kinds share: tests on sets of users are the paper's, and the payer's acknowledgement is one bit or none.
use Rattle.std.proofs.Common.{◌≡◌, sym, ap, ◌∙◌, Bool, true, false, not, ◌||◌, ℕ, ◌^◌, ◌<◌, bit_or, ltb, eqb}
use mathlib.Core.Path.{fun_ext}
use lib.Pow.{pow-lt}
use Rattle.rules.specs.Ledger.{member_in}
use Rattle.rules.specs.Step.{payer_ack}
use Rattle.rules.specs.Refusal.{stranger_in}
use Rattle.images.specs.Meaning.{read_bits, bits}
use Rattle.rules.proofs.Basics.{Same, same, other, same?}
use Rattle.images.proofs.Codec.{one_bit, bits_round}
use Rattle.sets.proofs.Masks.{every8_same, not_positive, within_sets}

-- Holders of positive shares within the members.
pub strangers_are : (f s : ℕ → ℕ) (t : Bool) (held members : ℕ) → held ≡ bits (λ u. ltb 0 (s u)) → members ≡ bits (member_in f) → t ≡ eqb (bit_or held members) members → not t ≡ stranger_in f s
strangers_are f s t held members eh em et =
    ap not
    (et ∙ (λ i. eqb (bit_or (eh i) (em i)) (em i)) ∙ within_sets (λ u. ltb 0 (s u)) (member_in f)
    ∙ every8_same _ _ (λ u k. ap (λ x. x || member_in f u) (not_positive (s u))))

-- The payer's bit.
module _ (a : ℕ) (s : ℕ → ℕ) where
  kept : ltb 0 (s a) ≡ true → (w : ℕ) → Same w a → payer_ack a s w ≡ eqb w a
  kept h w (same p q) = rw (q, p) h
  kept h w (other p q) = rw q

  lost : ltb 0 (s a) ≡ false → (w : ℕ) → Same w a → payer_ack a s w ≡ false
  lost h w (same p q) = rw (q, p) h
  lost h w (other p q) = rw q

  pub payer_acks : a < 8 → ltb 0 (s a) ≡ true → 2 ^ a ≡ bits (payer_ack a s)
  payer_acks k h =
      let e : payer_ack a s ≡ read_bits (2 ^ a) = fun_ext (λ w. kept h w (same? w a) ∙ sym (one_bit a k w)) in
      sym (ap bits e ∙ bits_round (2 ^ a) (pow-lt {j = 8} k))

  pub payer_waits : ltb 0 (s a) ≡ false → 0 ≡ bits (payer_ack a s)
  payer_waits h =
      let e : payer_ack a s ≡ (λ w. false) = fun_ext (λ w. lost h w (same? w a)) in
      sym (ap bits e)
