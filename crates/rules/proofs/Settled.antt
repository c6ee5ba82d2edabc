-- The payments in order clear balances that sum to zero (specs/Cleared). It rests on Rows, and on Balance for integers as differences.
use mathlib.Core.Path.{◌≡◌, refl, ◌∙◌}
use mathlib.Core.List.{List, [], ◌∷◌, map}
use Prim.Native.Nat.{ℕ, zero, suc, ◌+◌, ◌<◌, ◌≤◌}
use native.Mathlib.Omega.{arith}
use native.Mathlib.Decide.{dec_lt}
use lib.ListN.{get_or, length-map, get_or-map}
use lib.IntN.{ℤ, pos, negsuc, ◌-ℤ◌, +ℤ_idl, +ℤ_idr}
use Rattle.rules.specs.Tests.{sum}
use Rattle.rules.specs.Balance.{sumℤ}
use Rattle.rules.specs.Payments.{owes, owed, pay_in_order, settled}
use Rattle.rules.specs.Cleared.{entry, column, row_at, balance_at, count, unbalanced, Cleared}
use Rattle.rules.proofs.Balance.{Diff, is_pos, is_neg, diff_add, zero_diff}
use Rattle.rules.proofs.Rows.{in_order_height, in_order_width, rows_clear, columns_clear, entry_owes, entry_owed, no_payments, few_payments}

-- A balance is what it is owed less what it owes; so where balances sum to zero as much is owed as is owing.
diff_one : (z : ℤ) → Diff (owed z) (owes z) z
unfolding owes owed
diff_one (pos n) = is_pos n (omega arith)
diff_one (negsuc n) = is_neg n (omega arith)

diff_all : (b : List ℤ) → Diff (sum (map owed b)) (sum (map owes b)) (sumℤ b)
unfolding sum sumℤ
diff_all [] = is_pos 0 refl
diff_all (z ∷ b) = diff_add (diff_one z) (diff_all b)

pub owes_is_owed : (b : List ℤ) → sumℤ b ≡ pos 0 → sum (map owes b) ≡ sum (map owed b)
owes_is_owed b e = let h = zero_diff (diff_all b) e in omega arith

-- One balance.
pub owes_at : (b : List ℤ) (i : ℕ) → get_or (map owes b) i 0 ≡ owes (balance_at b i)
unfolding owes
owes_at b i = get_or-map owes b i (pos 0)

owed_at : (b : List ℤ) (i : ℕ) → get_or (map owed b) i 0 ≡ owed (balance_at b i)
unfolding owed
owed_at b i = get_or-map owed b i (pos 0)

cleared : (z : ℤ) → pos (owed z) -ℤ pos (owes z) ≡ z
unfolding owes owed
cleared (pos n) = +ℤ_idr (pos n)
cleared (negsuc n) = +ℤ_idl (negsuc n)

-- What is at most a debt is nothing for a creditor or at zero, what is at most a claim nothing for a debtor or at zero, and nobody has both.
no_debt : (z : ℤ) (e n : ℕ) → e ≤ owes z → z ≡ pos n → e ≡ 0
unfolding owes
no_debt z e n h p = let k : e ≤ owes (pos n) = rw p at h in omega arith

no_claim : (z : ℤ) (e n : ℕ) → e ≤ owed z → z ≡ negsuc n → e ≡ 0
unfolding owed
no_claim z e n h p = let k : e ≤ owed (negsuc n) = rw p at h in omega arith

at_zero : (z : ℤ) (e : ℕ) → e ≤ owed z → z ≡ pos 0 → e ≡ 0
unfolding owed
at_zero z e h p = let k : e ≤ owed (pos 0) = rw p at h in omega arith

not_both : (z : ℤ) (e : ℕ) → e ≤ owes z → e ≤ owed z → e ≡ 0
unfolding owes owed
not_both (pos n) e p q = omega arith
not_both (negsuc n) e p q = omega arith

-- Counted: who is not at zero owes or is owed.
pub counts : (b : List ℤ) → count (map owes b) + count (map owed b) ≡ unbalanced b
unfolding count owes owed
counts [] = refl
counts (pos n ∷ b) = let h = counts b in omega arith
counts (negsuc n ∷ b) = let h = counts b in omega arith

pub sum_count : (xs : List ℕ) → 0 < count xs → 0 < sum xs
unfolding count sum
sum_count [] h = h
sum_count (zero ∷ xs) h = let k = sum_count xs (omega arith) in omega arith
sum_count (suc x ∷ xs) h = omega arith

no_sum : (xs : List ℕ) → count xs ≡ 0 → sum xs ≡ 0
unfolding count sum
no_sum [] h = refl
no_sum (zero ∷ xs) h = let k : sum xs ≡ 0 = no_sum xs (omega arith) in omega arith
no_sum (suc x ∷ xs) h = omega arith

some_debt : (xs cs : List ℕ) → sum xs ≡ sum cs → 0 < count xs + count cs → 0 < sum xs
some_debt xs cs h k =
    elim (dec_lt 0 (count xs)) [
      | yes q ↦ sum_count xs q
      | no q ↦ let r = sum_count cs (omega arith) in omega arith
    ]

-- The whole.
pub settled_clears : (b : List ℤ) → sumℤ b ≡ pos 0 → Cleared b (settled b)
unfolding settled
settled_clears b e =
    let h = owes_is_owed b e in
    let n = counts b in
    let paid : (i : ℕ) → sum (row_at (pay_in_order (map owes b) (map owed b)) i) ≡ owes (balance_at b i) = λ i. rows_clear (map owes b) (map owed b) i (omega arith) ∙ owes_at b i in
    let received : (j : ℕ) → sum (column (pay_in_order (map owes b) (map owed b)) j) ≡ owed (balance_at b j) = λ j. columns_clear (map owes b) (map owed b) j (omega arith) ∙ owed_at b j in
    let low : (i j : ℕ) → entry (pay_in_order (map owes b) (map owed b)) i j ≤ owes (balance_at b i) = λ i j. rw (owes_at b i) at (entry_owes (map owes b) (map owed b) i j) in
    let high : (i j : ℕ) → entry (pay_in_order (map owes b) (map owed b)) i j ≤ owed (balance_at b j) = λ i j. rw (owed_at b j) at (entry_owed (map owes b) (map owed b) i j) in
    record {
      height = in_order_height (map owes b) (map owed b) ∙ length-map b owes;
      width = λ i l. in_order_width (map owes b) (map owed b) i (rw (length-map b owes) l) ∙ length-map b owed;
      paid = paid;
      received = received;
      exact = λ i. rw (paid i, received i) (cleared (balance_at b i));
      payer = λ i j n p. no_debt (balance_at b i) (entry (pay_in_order (map owes b) (map owed b)) i j) n (low i j) p;
      receiver = λ i j n p. no_claim (balance_at b j) (entry (pay_in_order (map owes b) (map owed b)) i j) n (high i j) p;
      nothing = λ i j p. at_zero (balance_at b j) (entry (pay_in_order (map owes b) (map owed b)) i j) (high i j) p;
      self = λ i. not_both (balance_at b i) (entry (pay_in_order (map owes b) (map owed b)) i i) (low i i) (high i i);
      few = λ z. let p = few_payments (map owes b) (map owed b) h (some_debt (map owes b) (map owed b) h (omega arith)) in omega arith;
      none = λ z. no_payments (map owes b) (map owed b) (no_sum (map owes b) (omega arith));
    }
