-- Document 02, A1: what a table of payments, payer by receiver, has to do for a list of balances. It rests on Payments for what a balance owes and is owed.
use Rattle.std.specs.Prelude.{◌≡◌, List, [], ◌∷◌, map, ℕ, zero, suc, ◌+◌, ◌-◌, ◌≤◌, ◌<◌, min, ℤ, pos, negsuc, nat_abs, ◌-ℤ◌, length, get_or, take, drop}
use Rattle.rules.specs.Tests.{sum}
use Rattle.rules.specs.Payments.{owes, owed}

-- A table out of numbers written row by row: n rows of w.
unfoldable pub table_of : (n w : ℕ) → List ℕ → List (List ℕ)
table_of zero w ns = []
table_of (suc n) w ns = take w ns ∷ table_of n w (drop w ns)

-- What i pays, what i pays j, and what j is paid by each.
abbrev pub row_at : List (List ℕ) → (payer : ℕ) → List ℕ
row_at t i = get_or t i []

abbrev pub entry : List (List ℕ) → (payer receiver : ℕ) → ℕ
entry t i j = get_or (row_at t i) j 0

abbrev pub column : List (List ℕ) → (receiver : ℕ) → List ℕ
column t j = map (λ r. get_or r j 0) t

-- User i's balance, zero beyond the last.
abbrev pub balance_at : List ℤ → ℕ → ℤ
balance_at b i = get_or b i (pos 0)

-- How many numbers are not zero, of a list and of a table; how many balances.
abbrev pub one : ℕ → ℕ
one n = min n 1

unfoldable pub count : List ℕ → ℕ
count [] = 0
count (n ∷ ns) = one n + count ns

unfoldable pub payment_count : List (List ℕ) → ℕ
payment_count [] = 0
payment_count (r ∷ t) = count r + payment_count t

abbrev pub unbalanced : List ℤ → ℕ
unbalanced b = count (map nat_abs b)

pub record Cleared (b : List ℤ) (t : List (List ℕ)) : Type 0 where
  -- as many rows, and as many numbers in each, as there are balances
  pub height : length t ≡ length b
  pub width : (i : ℕ) → i < length b → length (row_at t i) ≡ length b
  -- "Rows and columns must clear each balance exactly": a row is what its payer owes, a column what its receiver is owed
  pub paid : (i : ℕ) → sum (row_at t i) ≡ owes (balance_at b i)
  pub received : (j : ℕ) → sum (column t j) ≡ owed (balance_at b j)
  pub exact : (i : ℕ) → pos (sum (column t i)) -ℤ pos (sum (row_at t i)) ≡ balance_at b i
  -- only debtors pay, only creditors are paid, so nobody pays himself
  pub payer : (i j n : ℕ) → balance_at b i ≡ pos n → entry t i j ≡ 0
  pub receiver : (i j n : ℕ) → balance_at b j ≡ negsuc n → entry t i j ≡ 0
  pub nothing : (i j : ℕ) → balance_at b j ≡ pos 0 → entry t i j ≡ 0
  pub self : (i : ℕ) → entry t i i ≡ 0
  -- "at most k − 1 payments when k ≥ 1 balances are non-zero, none when k is 0"
  pub few : 0 < unbalanced b → payment_count t ≤ unbalanced b - 1
  pub none : unbalanced b ≡ 0 → payment_count t ≡ 0
