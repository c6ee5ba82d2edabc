-- The sums of all groups, as code has them: for each group and payer a row of what each user holds in what that payer paid, in halves of sixteen bits; and for
-- each group its uses and how many expenses are valid.
use Rattle.std.specs.Prelude.{◌≡◌, ◌&&◌, List, [], ℕ, ◌+◌, ◌*◌, ◌/◌, ◌%◌, ◌≤◌, ◌<◌, eqb, length, get_or, replicate}
use Rattle.std.proofs.Math.Option.{Option, none, some}
use Rattle.format.specs.Layout.{user_count, group_count}
use Rattle.rules.specs.Tests.{only, sum8, sum_below, eight_at, eight_of}
use Rattle.rules.specs.Ledger.{Expense, Ledger}
use Rattle.rules.specs.Balance.{valid, held_in, valid_in}
use Rattle.balance.specs.declared.Sums.{Sums}
use Rattle.balance.specs.Sums.{uses_in, uses_to, valid_to}
use Rattle.halves.specs.Halves.{whole_of}
use Rattle.gather.specs.declared.Rows.{Rows}

-- What a user holds in the valid expenses that a payer paid: of one number's expense, and over the first n.
abbrev pub owed_in : (rule group payer user : ℕ) → Option Expense → ℕ
owed_in k g p u none = 0
owed_in k g p u (some e) = only (valid k g e && eqb e.payer p) (e.shares u)

unfoldable pub owed_to : ℕ → Ledger → (rule group payer user : ℕ) → ℕ
owed_to n l k g p u = sum_below n (λ c. owed_in k g p u (l.expense c))

-- What one expense makes of its payer's row and of its group's uses, and by how much the count of valid ones rises.
abbrev pub Halved : (rule group : ℕ) → Option Expense → (low high uses low' high' uses' : List ℕ) → (rise : ℕ) → Type 0
Halved k g o a b n a' b' n' r =
    (a' ≡ eight_of (λ u. eight_at a u + held_in k g u o % 65_536)) × (b' ≡ eight_of (λ u. eight_at b u + held_in k g u o / 65_536)) × (n' ≡ eight_of (λ u. eight_at n u + uses_in k g u o)) × (r ≡ valid_in k g o)

-- The row of a group and a payer after n expenses. The low halves are far from full.
abbrev pub RowTo : Ledger → (n group payer : ℕ) → (low high : List ℕ) → Type 0
RowTo l n g p a b =
    (length a ≡ user_count) × (length b ≡ user_count) × ((u : ℕ) → u < user_count → (whole_of a b u ≡ owed_to n l (l.rule g) g p u) × (eight_at a u ≤ 65_535 * n))

-- Where a group's and a payer's row stands.
abbrev pub place : (group payer : ℕ) → ℕ
place g p = 8 * g + p

-- All rows, uses and counts, each by its group's rule.
abbrev pub RowsTo : Ledger → (n : ℕ) → Rows → Type 0
RowsTo l n r =
    (length r.low ≡ 128) × (length r.high ≡ 128) × (length r.uses ≡ group_count) × (length r.counts ≡ group_count)
    × ((g p : ℕ) → g < group_count → p < user_count → RowTo l n g p (get_or r.low (place g p) []) (get_or r.high (place g p) []))
    × ((g : ℕ) → g < group_count → (get_or r.uses g [] ≡ eight_of (uses_to n l (l.rule g) g)) × (get_or r.counts g 0 ≡ valid_to n l (l.rule g) g))

-- The rows of no expense.
abbrev pub no_rows : Rows
no_rows = record {
  low = replicate 128 (replicate 8 0);
  high = replicate 128 (replicate 8 0);
  uses = replicate group_count (replicate 8 0);
  counts = replicate group_count 0;
}

-- A group's sums out of its rows: what each paid is his row's total, what each holds the total of his column.
abbrev pub whole_at : Rows → (group payer user : ℕ) → ℕ
whole_at r g p u = whole_of (get_or r.low (place g p) []) (get_or r.high (place g p) []) u

unfoldable pub sums_from : Rows → ℕ → Sums
sums_from r g = record {
  paid = eight_of (λ p. sum8 (whole_at r g p));
  held = eight_of (λ u. sum_below user_count (λ p. whole_at r g p u));
  uses = get_or r.uses g [];
  expenses = get_or r.counts g 0;
}
