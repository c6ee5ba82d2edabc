-- Sets of users in the second byte of a number: what a test on such numbers tells of the sets, and of the first byte.
use Rattle.std.proofs.Common.{◌≡◌, refl, sym, ap, ◌∙◌, Bool, true, false, not, ◌&&◌, ◌||◌, ℕ, zero, suc, ◌+◌, ◌*◌, ◌^◌, ◌<◌, mul_comm, add-zero, arith, bit_or, ltb, leb, eqb, ◌⊎◌, inl, inr}
use mathlib.Core.Path.{fun_ext}
use lib.Bits.{or_shifted, or_lt, or_add_and, and_le_r}
use lib.Pow.{pow-lt}
use Rattle.rules.specs.Tests.{number, sum8, every8}
use Rattle.rules.specs.Ledger.{ever_in}
use Rattle.images.specs.Meaning.{read_bits, bits}
use Rattle.rules.proofs.Basics.{Same, same, other, same?, eqb_true, eqb_self, ltb_true, and_left, and_right, bool_path, or_cases, or_left, or_right}
use Rattle.rules.proofs.Accepted.{every_8, ltb_lt}
use Rattle.rules.proofs.Sound.{of_every8, of_imp, imp, eqb_other, le_leb}
use Rattle.images.proofs.Codec.{one_bit, bits_round, bits_union}
use Rattle.sets.proofs.High.{or_bytes, or_seconds, eqb_seconds}
use Rattle.sets.proofs.Masks.{within_is, within_sets}

or_one : (x : ℕ) → bit_or (256 * x) 1 ≡ 256 * x + 1
or_one x = rw (mul_comm 256 x) (or_shifted x 8 1 (omega arith))

-- A first byte or'ed with 1 is 1 just when it is 0 or 1.
one_holds : (d : ℕ) → eqb (bit_or d 1) 1 ≡ ltb d 2
one_holds d = bool_path _ _ to (from d)
  where
    to : eqb (bit_or d 1) 1 ≡ true → ltb d 2 ≡ true
    to e =
        let z : bit_or d 1 ≡ 1 = eqb_true (bit_or d 1) 1 e in
        let s = or_add_and d 1 in
        let l = and_le_r d 1 in
        ltb_true d 2 (omega arith)

    from : (n : ℕ) → ltb n 2 ≡ true → eqb (bit_or n 1) 1 ≡ true
    from zero e = refl
    from (suc zero) e = refl
    from (suc (suc n)) e = let k = ltb_lt (suc (suc n)) 2 e in absurd (omega arith)

-- "deleted (0 or 1)" and a set within another, at one test.
pub marks_within_lem : (d a h : ℕ) → d < 256 → eqb (bit_or (d + 256 * a) (bit_or (256 * h) 1)) (bit_or (256 * h) 1) ≡ (ltb d 2 && eqb (bit_or a h) h)
marks_within_lem d a h k =
    let w : d + 256 * a ≡ 256 * a + d = omega arith in
    let e : bit_or (d + 256 * a) (256 * h + 1) ≡ 256 * bit_or a h + bit_or d 1 = ap (λ n. bit_or n (256 * h + 1)) w ∙ or_bytes a h d 1 k (omega arith) in
    ap (λ n. eqb (bit_or (d + 256 * a) n) n) (or_one h) ∙ ap (λ n. eqb n (256 * h + 1)) e ∙ bool_path _ _ to from
  where
    low : bit_or d 1 < 256
    low = or_lt 8 d 1 k (omega arith)

    to : eqb (256 * bit_or a h + bit_or d 1) (256 * h + 1) ≡ true → (ltb d 2 && eqb (bit_or a h) h) ≡ true
    to e =
        let z = eqb_true (256 * bit_or a h + bit_or d 1) (256 * h + 1) e in
        let l = low in
        let x : bit_or a h ≡ h = omega arith in
        let y : bit_or d 1 ≡ 1 = omega arith in
        let t : ltb d 2 ≡ true = sym (one_holds d) ∙ ap (λ n. eqb n 1) y in
        rw (t, x) (eqb_self h)

    from : (ltb d 2 && eqb (bit_or a h) h) ≡ true → eqb (256 * bit_or a h + bit_or d 1) (256 * h + 1) ≡ true
    from e =
        let x : bit_or a h ≡ h = eqb_true (bit_or a h) h (and_right (ltb d 2) (eqb (bit_or a h) h) e) in
        let y : bit_or d 1 ≡ 1 = eqb_true (bit_or d 1) 1 (one_holds d ∙ and_left (ltb d 2) (eqb (bit_or a h) h) e) in
        rw (x, y) (eqb_self (256 * h + 1))

-- Two sets within a third.
pub both_within : (h p k : ℕ) → h < 256 → p < 256 → k < 256 → eqb (bit_or (bit_or (256 * h) (256 * p)) (256 * k)) (256 * k) ≡ (eqb (bit_or p k) k && eqb (bit_or h k) k)
both_within h p k kh kp kk =
    ap (λ n. eqb (bit_or n (256 * k)) (256 * k)) (or_seconds h p) ∙ ap (λ n. eqb n (256 * k)) (or_seconds (bit_or h p) k) ∙ eqb_seconds (bit_or (bit_or h p) k) k
    ∙ within_is (bit_or h p) k (or_lt 8 h p kh kp) kk ∙ bool_path _ _ to from
  where
    to : every8 (λ u. not (read_bits (bit_or h p) u) || read_bits k u) ≡ true → (eqb (bit_or p k) k && eqb (bit_or h k) k) ≡ true
    to e =
        let z : (u : ℕ) → u < 8 → (read_bits h u || read_bits p u) ≡ true → read_bits k u ≡ true = λ u j t. imp _ _ (every_8 _ e u j) (bits_union h p u ∙ t) in
        rw (within_is p k kp kk, within_is h k kh kk, of_every8 (λ u. not (read_bits p u) || read_bits k u) (λ u j. of_imp _ _ (λ t. z u j (or_right (read_bits h u) (read_bits p u) t))), of_every8 (λ u. not (read_bits h u) || read_bits k u) (λ u j. of_imp _ _ (λ t. z u j (or_left (read_bits h u) (read_bits p u) t))))

    from : (eqb (bit_or p k) k && eqb (bit_or h k) k) ≡ true → every8 (λ u. not (read_bits (bit_or h p) u) || read_bits k u) ≡ true
    from e =
        let x : (u : ℕ) → u < 8 → read_bits p u ≡ true → read_bits k u ≡ true = λ u j. imp _ _ (every_8 _ (sym (within_is p k kp kk) ∙ and_left (eqb (bit_or p k) k) (eqb (bit_or h k) k) e) u j) in
        let y : (u : ℕ) → u < 8 → read_bits h u ≡ true → read_bits k u ≡ true = λ u j. imp _ _ (every_8 _ (sym (within_is h k kh kk) ∙ and_right (eqb (bit_or p k) k) (eqb (bit_or h k) k) e) u j) in
        of_every8 _ (λ u j. of_imp _ _ (λ t. either (or_cases (read_bits h u) (read_bits p u) (sym (bits_union h p u) ∙ t)) (y u j) (x u j)))
      where
        either : {a b c : Bool} → (a ≡ true) ⊎ (b ≡ true) → (a ≡ true → c ≡ true) → (b ≡ true → c ≡ true) → c ≡ true
        either (inl e) f g = f e
        either (inr e) f g = g e

-- 1 is in no set.
pub one_outside : (h k : ℕ) → eqb (bit_or (bit_or (256 * h) 1) (256 * k)) (256 * k) ≡ false
one_outside h k =
    let e : bit_or (256 * h + 1) (256 * k) ≡ 256 * bit_or h k + 1 = ap (bit_or (256 * h + 1)) (sym (add-zero (256 * k))) ∙ or_bytes h k 1 0 (omega arith) (omega arith) in
    ap (λ n. eqb (bit_or n (256 * k)) (256 * k)) (or_one h) ∙ ap (λ n. eqb n (256 * k)) e ∙ eqb_other (256 * bit_or h k + 1) (256 * k) (λ z. omega arith)

-- The byte of one user is the set of that user.
pub lone_bits : (p : ℕ) → p < 8 → 2 ^ p ≡ bits (λ u. eqb u p)
lone_bits p k =
    let e : read_bits (2 ^ p) ≡ (λ u. eqb u p) = fun_ext (one_bit p k) in
    sym (bits_round (2 ^ p) (pow-lt {j = 8} k)) ∙ ap bits e

pub lone_low : (p : ℕ) → p < 8 → 2 ^ p < 256
lone_low p k = pow-lt {j = 8} k

-- One user is among those ever members.
pub lone_within : (f : ℕ → ℕ) (p : ℕ) → p < 8 → eqb (bit_or (2 ^ p) (bits (ever_in f))) (bits (ever_in f)) ≡ ltb 0 (f p)
lone_within f p k =
    ap (λ n. eqb (bit_or n (bits (ever_in f))) (bits (ever_in f))) (lone_bits p k) ∙ within_sets (λ u. eqb u p) (ever_in f)
    ∙ bool_path _ _ (λ e. imp _ _ (every_8 _ e p k) (eqb_self p))
    (λ e. of_every8 _ (λ u j. of_imp _ _ (λ t. ap (λ n. ltb 0 (f n)) (eqb_true u p t) ∙ e)))

-- Someone has a share just when the total is not zero.
pub held_some : (s : ℕ → ℕ) → not (eqb (256 * bits (λ u. ltb 0 (s u))) 0) ≡ leb 1 (sum8 s)
held_some s = go (same? (sum8 s) 0)
  where
    zero_of : (n : ℕ) → number (ltb 0 n) ≡ 0 → n ≡ 0
    zero_of zero e = refl
    zero_of (suc n) e = absurd (one_zero (ap number (sym (ltb_true 0 (suc n) (omega arith))) ∙ e))
      where
        one_zero : ◌≡◌ {A = ℕ} 1 0 → ⊥
        one_zero z = omega arith

    of_zero : (n : ℕ) → n ≡ 0 → number (ltb 0 n) ≡ 0
    of_zero n e = rw e

    go : Same (sum8 s) 0 → not (eqb (256 * bits (λ u. ltb 0 (s u))) 0) ≡ leb 1 (sum8 s)
    go (same e _) =
        let b0 = of_zero (s 0) (omega arith) in
        let b1 = of_zero (s 1) (omega arith) in
        let b2 = of_zero (s 2) (omega arith) in
        let b3 = of_zero (s 3) (omega arith) in
        let b4 = of_zero (s 4) (omega arith) in
        let b5 = of_zero (s 5) (omega arith) in
        let b6 = of_zero (s 6) (omega arith) in
        let b7 = of_zero (s 7) (omega arith) in
        let z : 256 * bits (λ u. ltb 0 (s u)) ≡ 0 = omega arith in
        ap (λ n. not (eqb n 0)) z ∙ sym (ap (leb 1) e)
    go (other n _) = ap not (eqb_other (256 * bits (λ u. ltb 0 (s u))) 0 some) ∙ sym (le_leb 1 (sum8 s) (omega arith))
      where
        some : 256 * bits (λ u. ltb 0 (s u)) ≡ 0 → ⊥
        some z =
            let z0 = zero_of (s 0) (omega arith) in
            let z1 = zero_of (s 1) (omega arith) in
            let z2 = zero_of (s 2) (omega arith) in
            let z3 = zero_of (s 3) (omega arith) in
            let z4 = zero_of (s 4) (omega arith) in
            let z5 = zero_of (s 5) (omega arith) in
            let z6 = zero_of (s 6) (omega arith) in
            let z7 = zero_of (s 7) (omega arith) in
            n (omega arith)
