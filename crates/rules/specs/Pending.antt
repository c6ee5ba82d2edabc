-- Document 02, A2: "Leaving with a share still pending", with A4's small shares.
use Rattle.std.specs.Prelude.{Bool, false, not, ◌&&◌, ◌||◌, ℕ, ltb, eqb}
use Rattle.std.proofs.Math.Option.{Option, none, some}
use Rattle.format.specs.Layout.{expense_count}
use Rattle.rules.specs.Tests.{some_below}
use Rattle.rules.specs.Ledger.{Expense, Ledger}
use Rattle.rules.specs.Balance.{counts_acknowledged, valid}

-- One number's expense is pending for user u in group g: "an acknowledged positive share in a cost of that crew that is neither deleted nor valid".
abbrev pub pending_in : (rule group user : ℕ) → Option Expense → Bool
pending_in k g u none = false
pending_in k g u (some e) = counts_acknowledged k (e.shares u) (e.acknowledged u) && ltb 0 (e.shares u) && eqb e.group g && not (e.deleted || valid k g e)

-- One of all expenses is.
unfoldable pub pending : Ledger → ℕ → ℕ → Bool
pending l g u = some_below expense_count (λ c. pending_in (l.rule g) g u (l.expense c))
