-- Records and what they mean: there and back.
use mathlib.Core.Path.{◌≡◌, refl, sym, ap, ap₂, ◌∙◌, fun_ext}
use mathlib.Core.Bool.{Bool, true, false, cond, ◌&&◌, ◌||◌}
use mathlib.Core.Option.{Option, none, some}
use Prim.Native.Nat.{ℕ, zero, suc, ◌+◌, ◌*◌, ◌/◌, ◌%◌, ◌^◌, max, ◌≤◌, ◌<◌}
use native.Mathlib.Omega.{arith}
use native.Mathlib.Nat.{zero-lt-suc, mod-lt, mod-eq_of_lt, mod-add-div, div-one, div-eq_of_lt, div-div-eq-div-mul, one-mul}
use lib.Dec.{ltb, eqb}
use lib.Bits.{bit_or, or_step, or_shr, or_lt}
use lib.Pow.{pow-lt}
use lib.ListN.{length, get_or, get_or-eq_default}
use Rattle.format.specs.Layout.{Version, v1, v2, v3, current, group_size_in, expense_size_in}
use Rattle.format.specs.Bytes.{expense_of, group_of, rule_told_in, day_told_in}
use Rattle.format.specs.declared.ExpenseRecord.{ExpenseRecord}
use Rattle.format.proofs.Laws.{length_bytes, length_group_bytes}
use Rattle.format.proofs.Round.{eight, same8, same_e, told_in, read_back, read_group_lem}
use Rattle.rules.proofs.Basics.{ltb_false, same?, Same, same, other, eqb_true, and_left}
use Rattle.rules.proofs.Accepted.{test, every_8, ltb_lt}
use Rattle.rules.specs.Tests.{number, eight_at, eight_of}
use Rattle.rules.specs.Ledger.{Expense}
use Rattle.rules.specs.Sound.{sound_in}
use Rattle.images.specs.Meaning.{read_bits, bits, present_in, meaning_in, record_of, counters_of, group_record_of, rule_in, day_in, sound_record_in}
use Rattle.images.specs.Image.{group_bytes, read_group, read_rule, expense_bytes, read_expense}
use Rattle.images.proofs.Range.{Plain, PlainOption}
use Rattle.rules.proofs.Sums.{number_le}
use Rattle.rules.proofs.Sound.{eqb_other, Payer}

-- A function of the eight users is known by its values at the eight and beyond.
pub by8 : {A : Type 0} (d : A) (f g : ℕ → A) → ((u : ℕ) → 8 ≤ u → f u ≡ g u) → f 0 ≡ g 0 → f 1 ≡ g 1 → f 2 ≡ g 2 → f 3 ≡ g 3 → f 4 ≡ g 4 → f 5 ≡ g 5 → f 6 ≡ g 6 → f 7 ≡ g 7 → (u : ℕ) → f u ≡ g u
by8 d f g z a0 a1 a2 a3 a4 a5 a6 a7 zero = a0
by8 d f g z a0 a1 a2 a3 a4 a5 a6 a7 (suc zero) = a1
by8 d f g z a0 a1 a2 a3 a4 a5 a6 a7 (suc (suc zero)) = a2
by8 d f g z a0 a1 a2 a3 a4 a5 a6 a7 (suc (suc (suc zero))) = a3
by8 d f g z a0 a1 a2 a3 a4 a5 a6 a7 (suc (suc (suc (suc zero)))) = a4
by8 d f g z a0 a1 a2 a3 a4 a5 a6 a7 (suc (suc (suc (suc (suc zero))))) = a5
by8 d f g z a0 a1 a2 a3 a4 a5 a6 a7 (suc (suc (suc (suc (suc (suc zero)))))) = a6
by8 d f g z a0 a1 a2 a3 a4 a5 a6 a7 (suc (suc (suc (suc (suc (suc (suc zero))))))) = a7
by8 d f g z a0 a1 a2 a3 a4 a5 a6 a7 (suc (suc (suc (suc (suc (suc (suc (suc u)))))))) = z (suc (suc (suc (suc (suc (suc (suc (suc u)))))))) (omega arith)

-- A user's element of a list of eight; the whole list, where there is nothing beyond.
pub eight_at_lem : (f : ℕ → ℕ) (u : ℕ) → u < 8 → eight_at (eight_of f) u ≡ f u
eight_at_lem f zero k = refl
eight_at_lem f (suc zero) k = refl
eight_at_lem f (suc (suc zero)) k = refl
eight_at_lem f (suc (suc (suc zero))) k = refl
eight_at_lem f (suc (suc (suc (suc zero)))) k = refl
eight_at_lem f (suc (suc (suc (suc (suc zero))))) k = refl
eight_at_lem f (suc (suc (suc (suc (suc (suc zero)))))) k = refl
eight_at_lem f (suc (suc (suc (suc (suc (suc (suc zero))))))) k = refl
eight_at_lem f (suc (suc (suc (suc (suc (suc (suc (suc u)))))))) k = absurd (omega arith)

pub eight_back : (f : ℕ → ℕ) → ((u : ℕ) → 8 ≤ u → f u ≡ 0) → eight_at (eight_of f) ≡ f
eight_back f z = fun_ext (by8 0 (eight_at (eight_of f)) f (λ u k. get_or-eq_default (eight_of f) 0 k ∙ sym (z u k)) refl refl refl refl refl refl refl refl)

-- Groups.
pub group_wide : (v : Version) (f : ℕ → ℕ) (k : ℕ) → length (group_bytes v f k) ≡ group_size_in v
unfolding group_bytes
group_wide v f k = length_group_bytes v (group_record_of f k)

pub group_told : (v : Version) (f : ℕ → ℕ) (k : ℕ) → group_of (group_bytes v f k) ≡ group_record_of f (rule_told_in v k)
unfolding group_bytes
group_told v f k = read_group_lem (group_record_of f k) refl v

module _ (f : ℕ → ℕ) (k : ℕ) (z : (u : ℕ) → 8 ≤ u → f u ≡ 0) where
  pub group_back : (v : Version) → read_group (group_bytes v f k) ≡ f
  unfolding read_group
  group_back v = ap counters_of (group_told v f k) ∙ eight_back f z

  -- The rule is what the version makes of it: where it can't be told, reading gives back what it gives.
  told_rule : (v : Version) (h : ℕ → ℕ) → rule_in v h (rule_told_in v k) ≡ rule_in v h k
  told_rule v1 h = refl
  told_rule v2 h = refl
  told_rule v3 h = refl

  pub rule_back : (v : Version) → read_rule v (group_bytes v f k) ≡ rule_in v f k
  unfolding read_rule
  rule_back v = ap (λ g. rule_in v (counters_of g) g.rule) (group_told v f k) ∙ ap (λ h. rule_in v h (rule_told_in v k)) (eight_back f z) ∙ told_rule v f

-- Eight bits.

-- The byte of a set.
pub bits_byte : (p : ℕ → Bool) → bits p < 256
bits_byte p =
    let n0 = number_le (p 0) in
    let n1 = number_le (p 1) in
    let n2 = number_le (p 2) in
    let n3 = number_le (p 3) in
    let n4 = number_le (p 4) in
    let n5 = number_le (p 5) in
    let n6 = number_le (p 6) in
    let n7 = number_le (p 7) in
    omega arith

number_is : (b : Bool) (n : ℕ) → n ≡ number b → eqb n 1 ≡ b
number_is true n e = rw e
number_is false n e = rw e

pub bits_back : (p : ℕ → Bool) → ((u : ℕ) → 8 ≤ u → p u ≡ false) → read_bits (bits p) ≡ p
bits_back p z =
    let n0 = number_le (p 0) in
    let n1 = number_le (p 1) in
    let n2 = number_le (p 2) in
    let n3 = number_le (p 3) in
    let n4 = number_le (p 4) in
    let n5 = number_le (p 5) in
    let n6 = number_le (p 6) in
    let n7 = number_le (p 7) in
    fun_ext (by8 false (read_bits (bits p)) p (λ u k. rw (ltb_false u 8 k) (sym (z u k)))
    (number_is (p 0) (bits p / 1 % 2) (omega arith)) (number_is (p 1) (bits p / 2 % 2) (omega arith)) (number_is (p 2) (bits p / 4 % 2) (omega arith)) (number_is (p 3) (bits p / 8 % 2) (omega arith))
    (number_is (p 4) (bits p / 16 % 2) (omega arith)) (number_is (p 5) (bits p / 32 % 2) (omega arith)) (number_is (p 6) (bits p / 64 % 2) (omega arith)) (number_is (p 7) (bits p / 128 % 2) (omega arith)))

number_of : (n : ℕ) → n < 2 → number (eqb n 1) ≡ n
number_of zero h = refl
number_of (suc zero) h = refl
number_of (suc (suc n)) h = absurd (omega arith)

-- A number is its lowest bit and twice its half; so a byte is its eight bits.
low_bit : (n k : ℕ) → n / k ≡ number (eqb (n / k % 2) 1) + 2 * (n / (k * 2))
low_bit n k = sym (mod-add-div (n / k) 2) ∙ ap₂ (λ r x. r + 2 * x) (sym (number_of (n / k % 2) (mod-lt (n / k) (zero-lt-suc 1)))) (div-div-eq-div-mul n k 2)

halves : (n x₁ x₂ x₃ x₄ x₅ x₆ x₇ x₈ r₀ r₁ r₂ r₃ r₄ r₅ r₆ r₇ : ℕ) → n ≡ r₀ + 2 * x₁ → x₁ ≡ r₁ + 2 * x₂ → x₂ ≡ r₂ + 2 * x₃ → x₃ ≡ r₃ + 2 * x₄ → x₄ ≡ r₄ + 2 * x₅ → x₅ ≡ r₅ + 2 * x₆
    → x₆ ≡ r₆ + 2 * x₇ → x₇ ≡ r₇ + 2 * x₈ → x₈ ≡ 0 → r₀ + 2 * r₁ + 4 * r₂ + 8 * r₃ + 16 * r₄ + 32 * r₅ + 64 * r₆ + 128 * r₇ ≡ n
halves n x₁ x₂ x₃ x₄ x₅ x₆ x₇ x₈ r₀ r₁ r₂ r₃ r₄ r₅ r₆ r₇ h₀ h₁ h₂ h₃ h₄ h₅ h₆ h₇ h₈ = omega arith

pub bits_round : (n : ℕ) → n < 256 → bits (read_bits n) ≡ n
bits_round n h =
    halves n (n / 2) (n / 4) (n / 8) (n / 16) (n / 32) (n / 64) (n / 128) (n / 256) _ _ _ _ _ _ _ _ (sym (div-one n) ∙ low_bit n 1) (low_bit n 2) (low_bit n 4) (low_bit n 8) (low_bit n 16)
    (low_bit n 32) (low_bit n 64) (low_bit n 128) (div-eq_of_lt h)

-- The union of two bytes has the bits of both.
or_low : (a b : ℕ) → bit_or a b % 2 ≡ max (a % 2) (b % 2)
or_low a b =
    let q : ℕ = bit_or (a / 2) (b / 2) in
    let s : bit_or a b ≡ q * 2 + max (a % 2) (b % 2) = or_step a b in
    omega arith

small : (x y : ℕ) → x < 2 → y < 2 → eqb (max x y) 1 ≡ (eqb x 1 || eqb y 1)
small zero zero h k = refl
small zero (suc zero) h k = refl
small zero (suc (suc y)) h k = absurd (omega arith)
small (suc zero) zero h k = refl
small (suc zero) (suc zero) h k = refl
small (suc zero) (suc (suc y)) h k = absurd (omega arith)
small (suc (suc x)) y h k = absurd (omega arith)

bit_union : (a b u : ℕ) → eqb (bit_or a b / 2 ^ u % 2) 1 ≡ (eqb (a / 2 ^ u % 2) 1 || eqb (b / 2 ^ u % 2) 1)
bit_union a b u = rw (or_shr a b u, or_low (a / 2 ^ u) (b / 2 ^ u)) (small (a / 2 ^ u % 2) (b / 2 ^ u % 2) (omega arith) (omega arith))

pub bits_union : (a b : ℕ) (u : ℕ) → read_bits (bit_or a b) u ≡ (read_bits a u || read_bits b u)
bits_union a b u = go (ltb u 8)
  where
    go : (t : Bool) → cond t (eqb (bit_or a b / 2 ^ u % 2) 1) false ≡ (cond t (eqb (a / 2 ^ u % 2) 1) false || cond t (eqb (b / 2 ^ u % 2) 1) false)
    go true = bit_union a b u
    go false = refl

pub or_bits : (a b : ℕ) → a < 256 → b < 256 → bits (λ u. read_bits a u || read_bits b u) ≡ bit_or a b
or_bits a b h k =
    let e : (λ u. read_bits a u || read_bits b u) ≡ read_bits (bit_or a b) = fun_ext (λ u. sym (bits_union a b u)) in
    ap bits e ∙ bits_round (bit_or a b) (or_lt 8 a b h k)

-- The byte of one user.
pub power : (u : ℕ) → u < 8 → 1 * 2 ^ u % 256 ≡ 2 ^ u
power u h =
    let k : 2 ^ u < 256 = pow-lt {j = 8} h in
    rw (one-mul (2 ^ u)) (mod-eq_of_lt k)

pub one_bit : (u : ℕ) → u < 8 → (w : ℕ) → read_bits (2 ^ u) w ≡ eqb w u
one_bit u h w = go u h w
  where
    go : (u : ℕ) → u < 8 → (w : ℕ) → read_bits (2 ^ u) w ≡ eqb w u
    go zero h = by8 false (read_bits 1) (λ w. eqb w 0) (λ w k. rw (ltb_false w 8 k) (sym (eqb_other w 0 (omega arith)))) refl refl refl refl refl refl refl refl
    go (suc zero) h = by8 false (read_bits 2) (λ w. eqb w 1) (λ w k. rw (ltb_false w 8 k) (sym (eqb_other w 1 (omega arith)))) refl refl refl refl refl refl refl refl
    go (suc (suc zero)) h = by8 false (read_bits 4) (λ w. eqb w 2) (λ w k. rw (ltb_false w 8 k) (sym (eqb_other w 2 (omega arith)))) refl refl refl refl refl refl refl refl
    go (suc (suc (suc zero))) h = by8 false (read_bits 8) (λ w. eqb w 3) (λ w k. rw (ltb_false w 8 k) (sym (eqb_other w 3 (omega arith)))) refl refl refl refl refl refl refl refl
    go (suc (suc (suc (suc zero)))) h = by8 false (read_bits 16) (λ w. eqb w 4) (λ w k. rw (ltb_false w 8 k) (sym (eqb_other w 4 (omega arith)))) refl refl refl refl refl refl refl refl
    go (suc (suc (suc (suc (suc zero))))) h = by8 false (read_bits 32) (λ w. eqb w 5) (λ w k. rw (ltb_false w 8 k) (sym (eqb_other w 5 (omega arith)))) refl refl refl refl refl refl refl refl
    go (suc (suc (suc (suc (suc (suc zero)))))) h = by8 false (read_bits 64) (λ w. eqb w 6) (λ w k. rw (ltb_false w 8 k) (sym (eqb_other w 6 (omega arith)))) refl refl refl refl refl refl refl refl
    go (suc (suc (suc (suc (suc (suc (suc zero))))))) h = by8 false (read_bits 128) (λ w. eqb w 7) (λ w k. rw (ltb_false w 8 k) (sym (eqb_other w 7 (omega arith)))) refl refl refl refl refl refl refl refl
    go (suc (suc (suc (suc (suc (suc (suc (suc u)))))))) h = absurd (omega arith)

pub add_bit : (a u : ℕ) → a < 256 → u < 8 → bits (λ w. read_bits a w || eqb w u) ≡ bit_or a (2 ^ u)
add_bit a u h k =
    let p : 2 ^ u < 256 = pow-lt {j = 8} k in
    let e : ◌≡◌ {A = ℕ → Bool} (λ w. read_bits a w || eqb w u) (λ w. read_bits a w || read_bits (2 ^ u) w) = fun_ext (λ w. ap (λ t. read_bits a w || t) (sym (one_bit u k w))) in
    ap bits e ∙ or_bits a (2 ^ u) h p

-- An expense.
pub expense_wide : (v : Version) (o : Option Expense) → length (expense_bytes v o) ≡ expense_size_in v
unfolding expense_bytes
expense_wide v o = length_bytes v (record_of o)

pub record_eight : (o : Option Expense) → length (record_of o).shares ≡ 8
unfolding record_of
record_eight none = refl
record_eight (some e) = refl

pub expense_told : (v : Version) (o : Option Expense) → expense_of (expense_bytes v o) ≡ told_in v (record_of o)
unfolding expense_bytes
expense_told v o = read_back v (record_of o) (record_eight o)

pub expense_read : (o : Option Expense) → expense_of (expense_bytes current o) ≡ record_of o
expense_read o = expense_told current o

-- A day is what the version makes of it, and reading it gives that back.
told_day : (v : Version) (d : ℕ) → day_in v (day_told_in v d) ≡ day_in v d
told_day v1 d = refl
told_day v2 d = refl
told_day v3 d = refl

pub present_back : (v : Version) (e : Expense) → Plain v e → present_in v (told_in v (record_of (some e))) ≡ e
unfolding record_of
present_back v e p =
    let d : eqb (number e.deleted) 1 ≡ e.deleted = number_is e.deleted (number e.deleted) refl in
    let a : read_bits (bits e.acknowledged) ≡ e.acknowledged = bits_back e.acknowledged p.acked8 in
    let s : eight_at (eight_of e.shares) ≡ e.shares = eight_back e.shares p.shares8 in
    let n : day_in v (day_told_in v e.day) ≡ e.day = told_day v e.day ∙ p.dated in
    λ i. record { payer = e.payer; group = e.group; deleted = d i; acknowledged = a i; version = e.version; shares = s i; day = n i }

pub meaning_back : (v : Version) (o : Option Expense) → PlainOption v o → Payer o → meaning_in v (told_in v (record_of o)) ≡ o
unfolding meaning_in record_of
meaning_back v none p q = refl
meaning_back v (some e) p q = rw (eqb_other e.payer 255 (omega arith)) (ap some (present_back v e p))

pub expense_back : (v : Version) (o : Option Expense) → PlainOption v o → Payer o → read_expense v (expense_bytes v o) ≡ o
unfolding read_expense
expense_back v o p q = ap (meaning_in v) (expense_told v o) ∙ meaning_back v o p q

-- A sound record is the record of what it means, as far as the version tells.
day_again : (v : Version) (d : ℕ) → day_told_in v (day_in v d) ≡ day_told_in v d
day_again v1 d = refl
day_again v2 d = refl
day_again v3 d = refl

module _ (v : Version) (e : ExpenseRecord) (len : length e.shares ≡ 8) (acks : e.acknowledged < 256) where
  present_round : e.deleted < 2 → told_in v (record_of (some (present_in v e))) ≡ told_in v e
  unfolding record_of
  present_round d = same_e refl refl (number_of e.deleted d) (bits_round e.acknowledged acks) refl (eight e.shares len) (day_again v e.day)

  pub sound_round : (h : ℕ) (f : ℕ → ℕ) (c : ℕ) → sound_record_in v h f c e ≡ true → told_in v (record_of (meaning_in v e)) ≡ told_in v e
  unfolding sound_record_in meaning_in record_of
  sound_round h f c t = go (same? e.payer 255)
    where
      go : Same e.payer 255 → told_in v (record_of (meaning_in v e)) ≡ told_in v e
      go (same p q) =
          let b = test _ (rw q at t) in
          let s = every_8 _ (b 4) in
          let z : (u : ℕ) → u < 8 → 0 ≡ get_or e.shares u 0 = λ u k. sym (eqb_true (get_or e.shares u 0) 0 (s u k)) in
          rw q (same_e (sym p) (sym (eqb_true e.group 0 (b 0))) (sym (eqb_true e.deleted 0 (b 1))) (sym (eqb_true e.acknowledged 0 (b 2))) (sym (eqb_true e.version 0 (b 3)))
          (same8 (z 0 (omega arith)) (z 1 (omega arith)) (z 2 (omega arith)) (z 3 (omega arith)) (z 4 (omega arith)) (z 5 (omega arith)) (z 6 (omega arith)) (z 7 (omega arith)) ∙ eight e.shares len)
          (ap (day_told_in v) (sym (eqb_true e.day 0 (b 5)))))
      go (other p q) =
          let b : (ltb e.deleted 2 && sound_in h f c (present_in v e)) ≡ true = rw q at t in
          rw q (present_round (ltb_lt e.deleted 2 (and_left _ (sound_in h f c (present_in v e)) b)))
