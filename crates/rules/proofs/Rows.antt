-- What the payments in order do (specs/Payments), for any debts and claims: rows, columns, and how many payments there are. Settled has the balances.
use mathlib.Core.Path.{◌≡◌, refl, sym, ◌∙◌, ap, ap₂}
use mathlib.Core.List.{List, [], ◌∷◌}
use Prim.Native.Nat.{ℕ, zero, suc, ◌+◌, ◌-◌, ◌<◌, ◌≤◌, min}
use native.Mathlib.Nat.{sub-zero, zero-sub, zero-min}
use native.Mathlib.Omega.{arith}
use native.Mathlib.Decide.{dec_lt}
use lib.ListN.{length, get_or}
use Rattle.rules.specs.Tests.{sum}
use Rattle.rules.specs.Payments.{zeros, row, unpaid, pay_in_order}
use Rattle.rules.specs.Cleared.{row_at, entry, column, one, count, payment_count}

-- One row: its sum, and what is unpaid after it.
row_sum : (x : ℕ) (cs : List ℕ) → sum (row x cs) ≡ min x (sum cs)
unfolding sum row
row_sum x [] = omega arith
row_sum x (c ∷ cs) = let h = row_sum (x - c) cs in omega arith

unpaid_sum : (x : ℕ) (cs : List ℕ) → sum (unpaid x cs) ≡ sum cs - x
unfolding sum unpaid
unpaid_sum x [] = omega arith
unpaid_sum x (c ∷ cs) = let h = unpaid_sum (x - c) cs in omega arith

-- What a creditor gets from a row and what is unpaid after it is what he was owed before.
row_unpaid : (x : ℕ) (cs : List ℕ) (j : ℕ) → get_or (row x cs) j 0 + get_or (unpaid x cs) j 0 ≡ get_or cs j 0
unfolding row unpaid
row_unpaid x [] j = omega arith
row_unpaid x (c ∷ cs) zero = omega arith
row_unpaid x (c ∷ cs) (suc j) = row_unpaid (x - c) cs j

row_low : (x : ℕ) (cs : List ℕ) (j : ℕ) → get_or (row x cs) j 0 ≤ x
unfolding row
row_low x [] j = omega arith
row_low x (c ∷ cs) zero = omega arith
row_low x (c ∷ cs) (suc j) = let h = row_low (x - c) cs j in omega arith

row_length : (x : ℕ) (cs : List ℕ) → length (row x cs) ≡ length cs
unfolding row
row_length x [] = refl
row_length x (c ∷ cs) = ap suc (row_length (x - c) cs)

pub unpaid_length : (x : ℕ) (cs : List ℕ) → length (unpaid x cs) ≡ length cs
unfolding unpaid
unpaid_length x [] = refl
unpaid_length x (c ∷ cs) = ap suc (unpaid_length (x - c) cs)

-- Who owes nothing pays nothing.
pub row_zeros : (cs : List ℕ) → row 0 cs ≡ zeros cs
unfolding row
row_zeros [] = refl
row_zeros (c ∷ cs) = ap₂ ◌∷◌ (zero-min c) (ap (λ k. row k cs) (zero-sub c) ∙ row_zeros cs)

pub unpaid_all : (cs : List ℕ) → unpaid 0 cs ≡ cs
unfolding unpaid
unpaid_all [] = refl
unpaid_all (c ∷ cs) = ap₂ ◌∷◌ (sub-zero c) (ap (λ k. unpaid k cs) (zero-sub c) ∙ unpaid_all cs)

zeros_count : (cs : List ℕ) → count (zeros cs) ≡ 0
unfolding count
zeros_count [] = refl
zeros_count (c ∷ cs) = let h = zeros_count cs in omega arith

-- How many payments a row has.
row_none : (cs : List ℕ) → count (row 0 cs) ≡ 0
row_none cs = ap count (row_zeros cs) ∙ zeros_count cs

-- What is paid, what is left of the claim and what is left of the debt: together at most as many as claim and debt.
one_payment : (x c : ℕ) → one (min x c) + one (c - x) + one (x - c) ≤ one c + one x
one_payment x c =
    elim (dec_lt x c) [
      | yes h ↦ smaller (one (min x c)) (one (c - x)) (one (x - c)) (one c) (one x) (omega arith) (omega arith) (omega arith) (omega arith)
      | no h ↦ larger (one (min x c)) (one (c - x)) (one (x - c)) (one c) (one x) (omega arith) (omega arith) (omega arith)
    ]
  where
    smaller : (p q r s u : ℕ) → p ≡ u → r ≡ 0 → q ≡ 1 → s ≡ 1 → p + q + r ≤ s + u
    smaller p q r s u a b c d = omega arith

    larger : (p q r s u : ℕ) → p ≡ s → q ≡ 0 → r ≤ u → p + q + r ≤ s + u
    larger p q r s u a b c = omega arith

-- A payment settles a claim or ends the debt: at most one claim is both paid and left over.
row_count : (x : ℕ) (cs : List ℕ) → count (row x cs) + count (unpaid x cs) ≤ count cs + one x
unfolding count row unpaid
row_count x [] = omega arith
row_count x (c ∷ cs) =
    add (one (min x c)) (one (c - x)) (one (x - c)) (one c) (one x) (count (row (x - c) cs)) (count (unpaid (x - c) cs)) (count cs) (one_payment x c) (row_count (x - c) cs)
  where
    add : (p q r s u a b c : ℕ) → p + q + r ≤ s + u → a + b ≤ c + r → (p + a) + (q + b) ≤ (s + c) + u
    add p q r s u a b c h k = omega arith

-- A debt that reaches over all claims leaves none of them partly paid.
row_count_all : (x : ℕ) (cs : List ℕ) → sum cs ≤ x → count (row x cs) ≤ count cs
unfolding count row sum
row_count_all x [] h = omega arith
row_count_all x (c ∷ cs) h = let k : count (row (x - c) cs) ≤ count cs = row_count_all (x - c) cs (omega arith) in omega arith

-- All rows: how many, and how long.
pub in_order_height : (xs cs : List ℕ) → length (pay_in_order xs cs) ≡ length xs
unfolding pay_in_order
in_order_height [] cs = refl
in_order_height (x ∷ xs) cs = ap suc (in_order_height xs (unpaid x cs))

pub in_order_width : (xs cs : List ℕ) (i : ℕ) → i < length xs → length (row_at (pay_in_order xs cs) i) ≡ length cs
unfolding pay_in_order
in_order_width [] cs i h = absurd (omega arith)
in_order_width (x ∷ xs) cs zero h = row_length x cs
in_order_width (x ∷ xs) cs (suc i) h = in_order_width xs (unpaid x cs) i (omega arith) ∙ unpaid_length x cs

-- Row i sums to what debtor i owes, column j to what creditor j is owed.
pub rows_clear : (xs cs : List ℕ) (i : ℕ) → sum xs ≤ sum cs → sum (row_at (pay_in_order xs cs) i) ≡ get_or xs i 0
unfolding pay_in_order sum
rows_clear [] cs i h = refl
rows_clear (x ∷ xs) cs zero h = row_sum x cs ∙ omega arith
rows_clear (x ∷ xs) cs (suc i) h = rows_clear xs (unpaid x cs) i (let k = unpaid_sum x cs in omega arith)

none_at : (cs : List ℕ) (j : ℕ) → sum cs ≡ 0 → get_or cs j 0 ≡ 0
unfolding sum
none_at [] j h = refl
none_at (c ∷ cs) zero h = omega arith
none_at (c ∷ cs) (suc j) h = none_at cs j (omega arith)

pub columns_clear : (xs cs : List ℕ) (j : ℕ) → sum cs ≤ sum xs → sum (column (pay_in_order xs cs) j) ≡ get_or cs j 0
unfolding pay_in_order sum
columns_clear [] cs j h = sym (none_at cs j (omega arith))
columns_clear (x ∷ xs) cs j h =
    let k = unpaid_sum x cs in
    let i : sum (column (pay_in_order xs (unpaid x cs)) j) ≡ get_or (unpaid x cs) j 0 = columns_clear xs (unpaid x cs) j (omega arith) in
    let l = row_unpaid x cs j in
    omega arith

-- An entry is at most the debt of its row and the claim of its column.
pub entry_owes : (xs cs : List ℕ) (i j : ℕ) → entry (pay_in_order xs cs) i j ≤ get_or xs i 0
unfolding pay_in_order
entry_owes [] cs i j = omega arith
entry_owes (x ∷ xs) cs zero j = row_low x cs j
entry_owes (x ∷ xs) cs (suc i) j = entry_owes xs (unpaid x cs) i j

pub entry_owed : (xs cs : List ℕ) (i j : ℕ) → entry (pay_in_order xs cs) i j ≤ get_or cs j 0
unfolding pay_in_order
entry_owed [] cs i j = omega arith
entry_owed (x ∷ xs) cs zero j = let h = row_unpaid x cs j in omega arith
entry_owed (x ∷ xs) cs (suc i) j =
    let h = row_unpaid x cs j in
    let k = entry_owed xs (unpaid x cs) i j in
    omega arith

-- Without debts there is no payment; else there are fewer than debts and claims together.
pub no_payments : (xs cs : List ℕ) → sum xs ≡ 0 → payment_count (pay_in_order xs cs) ≡ 0
unfolding payment_count pay_in_order sum
no_payments [] cs h = refl
no_payments (x ∷ xs) cs h =
    let e : x ≡ 0 = omega arith in
    let a : count (row x cs) ≡ 0 = rw e (row_none cs) in
    let b : payment_count (pay_in_order xs (unpaid x cs)) ≡ 0 = no_payments xs (unpaid x cs) (omega arith) in
    omega arith

pub few_payments : (xs cs : List ℕ) → sum xs ≡ sum cs → 0 < sum xs → suc (payment_count (pay_in_order xs cs)) ≤ count xs + count cs
unfolding payment_count pay_in_order sum count
few_payments [] cs h p = absurd (omega arith)
few_payments (x ∷ xs) cs h p =
    elim (dec_lt 0 (sum xs)) [
      | yes q ↦
          let k = unpaid_sum x cs in
          more (count (row x cs)) (count (unpaid x cs)) (payment_count (pay_in_order xs (unpaid x cs))) (count xs) (count cs) (one x)
          (row_count x cs) (few_payments xs (unpaid x cs) (omega arith) q)
      | no q ↦
          last (count (row x cs)) (payment_count (pay_in_order xs (unpaid x cs))) (count xs) (count cs) (one x)
          (row_count_all x cs (omega arith)) (no_payments xs (unpaid x cs) (omega arith)) (omega arith)
    ]
  where
    more : (r l t x c s : ℕ) → r + l ≤ c + s → suc t ≤ x + l → suc (r + t) ≤ (s + x) + c
    more r l t x c s h k = omega arith

    last : (r t x c s : ℕ) → r ≤ c → t ≡ 0 → s ≡ 1 → suc (r + t) ≤ (s + x) + c
    last r t x c s h k e = omega arith
