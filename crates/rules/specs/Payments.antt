-- Document 02, A1: who pays whom, from a list of balances. First the paper's sentence as it stands, then the form that code follows: the two
-- give one table wherever the balances sum to zero (proofs/Sentence). Cleared says what such a table does.
use Rattle.std.specs.Prelude.{cond, List, [], ◌∷◌, ◌++◌, map, ℕ, zero, suc, ◌+◌, ◌-◌, min, eqb, ℤ, pos, negsuc, length, get_or, set}
use Rattle.rules.specs.Tests.{sum}

-- What a balance owes, and what it is owed.
unfoldable pub owes : ℤ → ℕ
owes (pos n) = 0
owes (negsuc n) = suc n

unfoldable pub owed : ℤ → ℕ
owed (pos n) = n
owed (negsuc n) = 0

-- "the lowest-numbered": the first number with a sum above zero; the length where there is none.
unfoldable pub lowest : List ℕ → ℕ
lowest [] = 0
lowest (zero ∷ xs) = suc (lowest xs)
lowest (suc x ∷ xs) = 0

-- m taken off one sum.
abbrev pub less_at : List ℕ → (number m : ℕ) → List ℕ
less_at xs i m = set xs i (get_or xs i 0 - m)

-- A table, payer by receiver, in which nobody pays; and one in which d pays c so much more.
abbrev pub zeros : List ℕ → List ℕ
zeros cs = map (λ (_ : ℕ). 0) cs

unfoldable pub nobody_pays : (debts claims : List ℕ) → List (List ℕ)
nobody_pays xs cs = map (λ (_ : ℕ). zeros cs) xs

abbrev pub pays : (payer receiver cents : ℕ) → List (List ℕ) → List (List ℕ)
pays d c m t = set t d (set (get_or t d []) c (get_or (get_or t d []) c 0 + m))

-- "the lowest-numbered debtor pays the lowest-numbered creditor the smaller of the two sums, until nobody owes", in at most so many turns.
unfoldable pub pay_in_turn : (turns : ℕ) → (debts claims : List ℕ) → List (List ℕ)
pay_in_turn zero xs cs = nobody_pays xs cs
pay_in_turn (suc n) xs cs =
    let d : ℕ = lowest xs in
    let c : ℕ = lowest cs in
    let m : ℕ = min (get_or xs d 0) (get_or cs c 0) in
    cond (eqb (sum xs) 0) (nobody_pays xs cs) (pays d c m (pay_in_turn n (less_at xs d m) (less_at cs c m)))

-- Each turn clears a balance and the last one two, so that n − 1 turns are enough for n balances that sum to zero.
unfoldable pub payments : List ℤ → List (List ℕ)
payments b = pay_in_turn (length b - 1) (map owes b) (map owed b)

-- The same with no search: each debtor in order goes once along the creditors in order. What a debtor who owes x pays to creditors who are owed cs,
-- and what they are owed after that; a difference is cut off at 0.
unfoldable pub row : (debt : ℕ) → (claims : List ℕ) → List ℕ
row x [] = []
row x (c ∷ cs) = min x c ∷ row (x - c) cs

unfoldable pub unpaid : (debt : ℕ) → (claims : List ℕ) → List ℕ
unpaid x [] = []
unpaid x (c ∷ cs) = (c - x) ∷ unpaid (x - c) cs

unfoldable pub pay_in_order : (debts claims : List ℕ) → List (List ℕ)
pay_in_order [] cs = []
pay_in_order (x ∷ xs) cs = row x cs ∷ pay_in_order xs (unpaid x cs)

unfoldable pub settled : List ℤ → List (List ℕ)
settled b = pay_in_order (map owes b) (map owed b)

-- "written row by row"
unfoldable pub row_by_row : List (List ℕ) → List ℕ
row_by_row [] = []
row_by_row (r ∷ t) = r ++ row_by_row t
