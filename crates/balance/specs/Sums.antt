-- The sums of one group by its rule, for all users at once: what each paid and holds in its valid expenses, in how many of these he has a share, and how many
-- these are.
use Rattle.std.specs.Prelude.{◌≡◌, List, ℕ, ◌+◌, eqb}
use Rattle.std.proofs.Math.Option.{Option}
use Rattle.format.specs.Layout.{expense_count, use_rule}
use Rattle.rules.specs.Tests.{only, sum_below, eight_at, eight_of}
use Rattle.rules.specs.Ledger.{Expense, Ledger}
use Rattle.rules.specs.Balance.{paid_in, held_in, used_in, valid_in}
use Rattle.amounts.specs.Amounts.{UpTo}
use Rattle.balance.specs.declared.Sums.{Sums}

-- What one number's expense adds to the uses of user u: they are counted where the rule asks for them.
abbrev pub uses_in : (rule group user : ℕ) → Option Expense → ℕ
uses_in k g u o = only (eqb k use_rule) (used_in k g u o)

-- Three arrays and a count, as one.
abbrev pub together : (paid held uses : List ℕ) (expenses : ℕ) → Sums
together p h n k = record { paid = p; held = h; uses = n; expenses = k }

-- There is room in the three arrays for one expense more.
abbrev pub Room : (paid held uses : List ℕ) → Type 0
Room p h n = UpTo 17_592_186_040_320 p × UpTo 2_199_023_255_040 h × UpTo 512 n

-- What the expense of a number, or none, makes of the sums.
abbrev pub Added : (rule group : ℕ) → Option Expense → (before after : Sums) → Type 0
Added k g o s t =
    (t.paid ≡ eight_of (λ u. eight_at s.paid u + paid_in k g u o)) × (t.held ≡ eight_of (λ u. eight_at s.held u + held_in k g u o))
    × (t.uses ≡ eight_of (λ u. eight_at s.uses u + uses_in k g u o)) × (t.expenses ≡ s.expenses + valid_in k g o)

-- Over the first n expenses.
unfoldable pub paid_to : ℕ → Ledger → (rule group user : ℕ) → ℕ
paid_to n l k g u = sum_below n (λ c. paid_in k g u (l.expense c))

unfoldable pub held_to : ℕ → Ledger → (rule group user : ℕ) → ℕ
held_to n l k g u = sum_below n (λ c. held_in k g u (l.expense c))

unfoldable pub uses_to : ℕ → Ledger → (rule group user : ℕ) → ℕ
uses_to n l k g u = sum_below n (λ c. uses_in k g u (l.expense c))

unfoldable pub valid_to : ℕ → Ledger → (rule group : ℕ) → ℕ
valid_to n l k g = sum_below n (λ c. valid_in k g (l.expense c))

-- The four as code has them, on the way.
abbrev pub SumsTo : Ledger → (rule group n : ℕ) → Sums → Type 0
SumsTo l k g n s = (s.paid ≡ eight_of (paid_to n l k g)) × (s.held ≡ eight_of (held_to n l k g)) × (s.uses ≡ eight_of (uses_to n l k g)) × (s.expenses ≡ valid_to n l k g)

-- Over all of them.
unfoldable pub sums_of : Ledger → (rule group : ℕ) → Sums
sums_of l k g = record {
  paid = eight_of (paid_to expense_count l k g);
  held = eight_of (held_to expense_count l k g);
  uses = eight_of (uses_to expense_count l k g);
  expenses = valid_to expense_count l k g;
}
