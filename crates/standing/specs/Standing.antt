-- One user's standing in a group by its rule: what leaving looks at.
use Rattle.std.proofs.Math.Option.{Option}
use Rattle.std.specs.Prelude.{◌||◌, ℕ, ◌+◌, ◌≤◌}
use Rattle.format.specs.Layout.{expense_count}
use Rattle.rules.specs.Tests.{sum_below, some_below}
use Rattle.rules.specs.Ledger.{Expense, Ledger}
use Rattle.rules.specs.Balance.{paid_in, held_in}
use Rattle.rules.specs.Pending.{pending_in}
use Rattle.standing.specs.declared.Standing.{Standing}

-- Over the first n expenses, over all of them, and with one number's expense more.
unfoldable pub standing_to : ℕ → Ledger → (rule group user : ℕ) → Standing
standing_to n l k g u = record {
  paid = sum_below n (λ c. paid_in k g u (l.expense c));
  held = sum_below n (λ c. held_in k g u (l.expense c));
  pending = some_below n (λ c. pending_in k g u (l.expense c));
}

unfoldable pub standing_of : Ledger → (rule group user : ℕ) → Standing
standing_of l k g u = standing_to expense_count l k g u

abbrev pub more : (rule group user : ℕ) → Option Expense → Standing → Standing
more k g u o s = record { paid = s.paid + paid_in k g u o; held = s.held + held_in k g u o; pending = s.pending || pending_in k g u o }

-- There is room for one expense more.
abbrev pub Room : Standing → Type 0
Room s = (s.paid ≤ 17_592_186_040_320) × (s.held ≤ 2_199_023_255_040)
