-- Document 02, A8: the balances of all groups together.
use Rattle.std.specs.Prelude.{cond, List, [], ◌∷◌, ◌++◌, ℕ, zero, suc, ℤ, pos}
use Rattle.format.specs.Layout.{group_count}
use Rattle.rules.specs.Ledger.{Ledger, group_absent}
use Rattle.rules.specs.Balance.{balance}

-- "the balances of all sixteen crews and eight users, zeros for absent crews"
unfoldable pub balance_or_zero : Ledger → (group user : ℕ) → ℤ
balance_or_zero l g u = cond (group_absent l g) (pos 0) (balance l g u)

abbrev pub balances_of : Ledger → ℕ → List ℤ
balances_of l g =
    balance_or_zero l g 0 ∷ balance_or_zero l g 1 ∷ balance_or_zero l g 2 ∷ balance_or_zero l g 3 ∷ balance_or_zero l g 4 ∷ balance_or_zero l g 5 ∷ balance_or_zero l g 6 ∷ balance_or_zero l g 7 ∷ []

-- "crew by crew": those of the first n.
unfoldable pub balances_to : ℕ → Ledger → List ℤ
balances_to zero l = []
balances_to (suc n) l = balances_to n l ++ balances_of l n

abbrev pub all_balances : Ledger → List ℤ
all_balances l = balances_to group_count l
