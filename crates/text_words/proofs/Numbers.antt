-- Decimal digits: what the kit's number printing writes is the number's text.
use Rattle.std.proofs.Common.{◌≡◌, refl, ap, ap₂, ◌∙◌, true, false, cond, [], ◌∷◌, ◌++◌, ℕ, zero, suc, ◌+◌, ◌-◌, ◌*◌, ◌/◌, ◌%◌, ◌^◌, ◌≤◌, ◌<◌, ℤ, pos, negsuc, nat_abs, arith}
use native.Mathlib.Nat.{pow-suc, pow-le-pow_right}
use lib.Signed.{lt_z}
use Rattle.io.specs.Digits.{last_digits, hex_digit_ascii, IsDigitCount}
use Rattle.rules.proofs.Basics.{clash, ltb_true, ltb_false}
use Rattle.rules.proofs.Accepted.{ltb_lt}
use Rattle.text.specs.Text.{digits_of, decimal, signed}

-- The last digit.
last_digit : (n : ℕ) → hex_digit_ascii (n % 10) ≡ 48 + n % 10
last_digit n = ap (λ t. cond t (48 + n % 10) (87 + n % 10)) (ltb_true (n % 10) 10 (omega arith))

fewest_is : (most k n : ℕ) → n < most → IsDigitCount 10 1 n k → last_digits 10 k n ≡ digits_of most n
unfolding digits_of
fewest_is zero k n h f = absurd (omega arith)
fewest_is (suc most) zero n h f = absurd (let z : 1 ≤ 0 = f.0 in omega arith)
fewest_is (suc most) (suc zero) n h f =
    let k : n < 10 = f.1 in
    let z : 48 + n % 10 ≡ 48 + n = omega arith in
    rw (ltb_true n 10 k) (ap (λ t. t ∷ []) (last_digit n ∙ z))
fewest_is (suc most) (suc (suc k)) n h f =
    let e : suc (suc k) - 1 ≡ suc k = omega arith in
    let d : suc k - 1 ≡ k = omega arith in
    let one : 10 ^ 0 ≤ 10 ^ k = pow-le-pow_right {n = 10} (omega arith) {i = 0} {j = k} (omega arith) in
    let p : 10 ^ suc k ≡ 10 ^ k * 10 = pow-suc 10 k in
    let q : 10 ^ suc (suc k) ≡ 10 ^ suc k * 10 = pow-suc 10 (suc k) in
    let low : 10 ^ suc k ≤ n = rw e at (f.2 (omega arith)) in
    let high : n < 10 ^ suc (suc k) = f.1 in
    let shorter : last_digits 10 (suc k) (n / 10) ≡ digits_of most (n / 10) =
    fewest_is most (suc k) (n / 10) (omega arith) (omega arith, omega arith, λ j. rw d (omega arith)) in
    rw (ltb_false n 10 (omega arith)) (ap₂ (λ s t. s ++ (t ∷ [])) shorter (last_digit n))

pub decimal_is : (n k : ℕ) → IsDigitCount 10 1 n k → last_digits 10 k n ≡ decimal n
unfolding decimal
decimal_is n k f = fewest_is (suc n) k n (omega arith) f

-- The text of a negative number, and of another.
pub signed_below : (z : ℤ) → lt_z z (pos 0) ≡ true → 45 ∷ decimal (nat_abs z) ≡ signed z
unfolding signed
signed_below (pos n) t = let k = ltb_lt n 0 t in absurd (omega arith)
signed_below (negsuc n) t = refl

pub signed_from_zero : (z : ℤ) → lt_z z (pos 0) ≡ false → decimal (nat_abs z) ≡ signed z
unfolding signed
signed_from_zero (pos n) t = refl
signed_from_zero (negsuc n) t = absurd (clash refl t)
