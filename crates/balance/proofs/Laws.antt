-- What the sums of a group by its rule tell of each user.
use Rattle.std.proofs.Common.{◌≡◌, ℕ, eqb}
use Rattle.format.specs.Layout.{expense_count, use_rule}
use Rattle.rules.specs.Tests.{only, sum_below, eight_of}
use Rattle.rules.specs.Ledger.{Ledger}
use Rattle.rules.specs.Balance.{used_in, paid, held, weight, valid_expenses}
use Rattle.balance.specs.Sums.{paid_to, held_to, uses_to, valid_to, sums_of}

-- The sums by a group's own rule are those of the rules, and its uses the weights where the rule asks for them.
pub sums_are : (l : Ledger) (rule g : ℕ) → rule ≡ l.rule g
    → sums_of l rule g ≡ record { paid = eight_of (paid l g); held = eight_of (held l g); uses = eight_of (uses_to expense_count l rule g); expenses = valid_expenses l g }
unfolding sums_of paid_to held_to valid_to paid held valid_expenses
sums_are l rule g q =
    λ i. record { paid = eight_of (paid_to expense_count l (q i) g); held = eight_of (held_to expense_count l (q i) g); uses = eight_of (uses_to expense_count l rule g); expenses = valid_to expense_count l (q i) g }

pub uses_are : (l : Ledger) (rule g u : ℕ) → rule ≡ l.rule g → rule ≡ use_rule → uses_to expense_count l rule g u ≡ weight l g u
unfolding uses_to weight
uses_are l rule g u q asks = λ i. sum_below expense_count (λ c. only (eqb (asks i) use_rule) (used_in (q i) g u (l.expense c)))
