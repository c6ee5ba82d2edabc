-- Balances sum to zero where a member is left, and to minus the gifts where none is: what each expense adds to paid and held is the same, and
-- the parts sum to the gifts (Parts).
use mathlib.Core.Path.{◌≡◌, refl, sym, ap, ◌∙◌}
use mathlib.Core.Bool.{Bool, true, false, ◌&&◌}
use mathlib.Core.Option.{Option, none, some}
use Prim.Native.Nat.{ℕ, zero, suc, ◌+◌, ◌-◌, ◌<◌}
use native.Mathlib.Omega.{arith}
use lib.Dec.{eqb}
use lib.IntN.{ℤ, pos, negsuc, nat_abs, sub_ℕ, neg_ℤ, ◌+ℤ◌}
use Rattle.format.specs.Layout.{equal_rule}
use Rattle.rules.proofs.Basics.{less?, Less, less, more}
use Rattle.rules.proofs.Sums.{sum_same}
use Rattle.rules.proofs.Parts as P
use Rattle.rules.proofs.Sound.{Payer, Payers}
use Rattle.rules.specs.Tests.{sum8, sum_below, only}
use Rattle.rules.specs.Ledger.{Expense, Ledger, total, member}
use Rattle.rules.specs.Parts.{part_equally, part_in}
use Rattle.rules.specs.Balance.{valid, paid_in, held_in, paid, held, gift, gifts, members, weight, part, raw, balance, line_of, lines_of, balances_in, sumℤ}

-- An integer as the difference of two natural numbers.
pub data Diff (a b : ℕ) : ℤ → Type 0 where
  is_pos : (n : ℕ) → a ≡ n + b → Diff a b (pos n)
  is_neg : (n : ℕ) → b ≡ suc n + a → Diff a b (negsuc n)

pub diff_sub : (a b : ℕ) → Diff a b (sub_ℕ a b)
diff_sub a b = go (less? a b)
  where
    go : Less a b → Diff a b (sub_ℕ a b)
    go (less h e) = rw e (is_neg (b - suc a) (omega arith))
    go (more h e) = rw e (is_pos (a - b) (omega arith))

pub diff_shift : {a b : ℕ} (c d : ℕ) {z : ℤ} → Diff a b z → a + d ≡ c + b → Diff c d z
diff_shift c d (is_pos n h) e = is_pos n (omega arith)
diff_shift c d (is_neg n h) e = is_neg n (omega arith)

pub diff_add : {a b c d : ℕ} {y z : ℤ} → Diff a b y → Diff c d z → Diff (a + c) (b + d) (y +ℤ z)
diff_add (is_pos m h) (is_pos n k) = is_pos (m + n) (omega arith)
diff_add {a} {b} {c} {d} (is_pos m h) (is_neg n k) = diff_shift (a + c) (b + d) (diff_sub m (suc n)) (omega arith)
diff_add {a} {b} {c} {d} (is_neg m h) (is_pos n k) = diff_shift (a + c) (b + d) (diff_sub n (suc m)) (omega arith)
diff_add (is_neg m h) (is_neg n k) = is_neg (suc (m + n)) (omega arith)

pub diff_zero : {a b : ℕ} {z : ℤ} → Diff a b z → a ≡ b → z ≡ pos 0
diff_zero (is_pos n h) e = ap pos (omega arith)
diff_zero (is_neg n h) e = absurd (omega arith)

pub zero_diff : {a b : ℕ} {z : ℤ} → Diff a b z → z ≡ pos 0 → a ≡ b
zero_diff (is_pos n h) e = let k = ap nat_abs e in omega arith
zero_diff (is_neg n h) e = let k = ap nat_abs e in absurd (omega arith)

pub diff_same : {a b : ℕ} {y z : ℤ} → Diff a b y → Diff a b z → y ≡ z
diff_same (is_pos m h) (is_pos n k) = ap pos (omega arith)
diff_same (is_pos m h) (is_neg n k) = absurd (omega arith)
diff_same (is_neg m h) (is_pos n k) = absurd (omega arith)
diff_same (is_neg m h) (is_neg n k) = ap negsuc (omega arith)

pub diff_minus : (n : ℕ) → Diff 0 n (neg_ℤ (pos n))
diff_minus zero = is_pos 0 refl
diff_minus (suc n) = is_neg n (omega arith)

pub diff_pos : (n : ℕ) → Diff n 0 (pos n)
diff_pos n = is_pos n (omega arith)

diff_neg : {a b : ℕ} {z : ℤ} (n : ℕ) → Diff a b z → b ≡ n + a → z ≡ neg_ℤ (pos n)
diff_neg zero (is_pos k h) e = ap pos (omega arith)
diff_neg zero (is_neg k h) e = absurd (omega arith)
diff_neg (suc n) (is_pos k h) e = absurd (omega arith)
diff_neg (suc n) (is_neg k h) e = ap negsuc (omega arith)

diff_balance : (l : Ledger) (g u : ℕ) → Diff (paid l g u + part l g u) (held l g u + gift l g u) (balance l g u)
unfolding balance raw
diff_balance l g u =
    diff_shift (paid l g u + part l g u) (held l g u + gift l g u)
    (diff_add (diff_add (diff_sub (paid l g u) (held l g u)) (diff_minus (gift l g u))) (diff_pos (part l g u)))
    (omega arith)

-- The sum of the balances that the eight lines show.
diff_lines : (l : Ledger) (g : ℕ) → Diff (sum8 (λ u. paid l g u + part l g u)) (sum8 (λ u. held l g u + gift l g u)) (sumℤ (balances_in (lines_of l g)))
unfolding lines_of line_of sumℤ
diff_lines l g =
    let d = diff_balance l g in
    diff_shift (sum8 (λ u. paid l g u + part l g u)) (sum8 (λ u. held l g u + gift l g u))
    (diff_add (d 0) (diff_add (d 1) (diff_add (d 2) (diff_add (d 3) (diff_add (d 4) (diff_add (d 5) (diff_add (d 6) (diff_add (d 7) (diff_pos 0)))))))))
    (omega arith)

-- Sums.
sum_swap : (n : ℕ) (f : ℕ → ℕ → ℕ) → sum8 (λ u. sum_below n (f u)) ≡ sum_below n (λ c. sum8 (λ u. f u c))
unfolding sum_below
sum_swap zero f = refl
sum_swap (suc n) f = let ih = sum_swap n f in omega arith

once : (p n : ℕ) → p < 8 → sum8 (λ u. only (eqb p u) n) ≡ n
once zero n k = omega arith
once (suc zero) n k = omega arith
once (suc (suc zero)) n k = omega arith
once (suc (suc (suc zero))) n k = omega arith
once (suc (suc (suc (suc zero)))) n k = omega arith
once (suc (suc (suc (suc (suc zero))))) n k = omega arith
once (suc (suc (suc (suc (suc (suc zero)))))) n k = omega arith
once (suc (suc (suc (suc (suc (suc (suc zero))))))) n k = omega arith
once (suc (suc (suc (suc (suc (suc (suc (suc p)))))))) n k = absurd (omega arith)

even_out : (k g : ℕ) (o : Option Expense) → Payer o → sum8 (λ u. paid_in k g u o) ≡ sum8 (λ u. held_in k g u o)
even_out k g none h = refl
even_out k g (some e) h = go (valid k g e)
  where
    go : (b : Bool) → sum8 (λ u. only (b && eqb e.payer u) (total e)) ≡ sum8 (λ u. only b (e.shares u))
    go true = once e.payer (total e) h
    go false = refl

pub raw_zero : (l : Ledger) (g : ℕ) → Payers l → sum8 (paid l g) ≡ sum8 (held l g)
unfolding paid held
raw_zero l g h =
    sum_swap 512 (λ u c. paid_in (l.rule g) g u (l.expense c))
    ∙ sum_same 512 _ _ (λ c k. even_out (l.rule g) g (l.expense c) (h c k))
    ∙ sym (sum_swap 512 (λ u c. held_in (l.rule g) g u (l.expense c)))

-- In a group of rule 1 the gifts are divided equally.
pub part_equally_lem : (l : Ledger) (g u : ℕ) → l.rule g ≡ equal_rule → part l g u ≡ part_equally (member l g) (gifts l g) u
unfolding part part_in
part_equally_lem l g u k = rw k

-- The parts sum to the gifts.
pub parts_all : (l : Ledger) (g : ℕ) → 0 < members l g → sum8 (part l g) ≡ gifts l g
unfolding part members
parts_all l g h = P.parts_all (member l g) (gifts l g) (weight l g) (l.rule g) h

pub parts_none : (l : Ledger) (g : ℕ) → members l g ≡ 0 → sum8 (part l g) ≡ 0
unfolding part members
parts_none l g h = P.parts_none (member l g) (gifts l g) (weight l g) (l.rule g) h

pub gifts_sum : (l : Ledger) (g : ℕ) → sum8 (gift l g) ≡ gifts l g
unfolding gifts
gifts_sum l g = refl

pub balances_member : (l : Ledger) (g : ℕ) → Payers l → 0 < members l g → sumℤ (balances_in (lines_of l g)) ≡ pos 0
balances_member l g h k =
    let r = raw_zero l g h in
    let p = parts_all l g k in
    let q = gifts_sum l g in
    diff_zero (diff_lines l g) (omega arith)

pub balances_none : (l : Ledger) (g : ℕ) → Payers l → members l g ≡ 0 → sumℤ (balances_in (lines_of l g)) ≡ neg_ℤ (pos (gifts l g))
balances_none l g h k =
    let r = raw_zero l g h in
    let p = parts_none l g k in
    let q = gifts_sum l g in
    diff_neg (gifts l g) (diff_lines l g) (omega arith)
