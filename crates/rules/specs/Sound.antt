-- Document 01, 'The image': when a present cost is sound, and when a crew's rule fits it (document 02, A3).
use Rattle.std.specs.Prelude.{Bool, true, not, cond, ◌||◌, [], ◌∷◌, ℕ, ◌/◌, ltb, leb, eqb}
use Rattle.std.proofs.Math.Option.{Option, none, some}
use Rattle.format.specs.Layout.{user_count, group_count, expense_count, expenses_each, no_group, most_total, equal_rule, use_rule, last_day, undated}
use Rattle.rules.specs.Tests.{all_of, every8, every_below}
use Rattle.rules.specs.Ledger.{Expense, Ledger, ever_in, nobody, total}

-- "A present crew whose rule isn't 1 or 2, or an absent one whose rule isn't 0": not so of a group with counters f and rule k.
abbrev pub a_rule : ℕ → Bool
a_rule k = eqb k equal_rule || eqb k use_rule

abbrev pub rule_fits : (ℕ → ℕ) → ℕ → Bool
rule_fits f k = cond (nobody f) (eqb k 0) (a_rule k)

unfoldable pub rules_fit : Ledger → Bool
rules_fit l = every_below group_count (λ g. rule_fits (l.counter g) (l.rule g))

-- "up to 31 December 2099, day 36,524; 65,535 means undated. Any other value makes the cost unsound." (Document 02, A6.)
abbrev pub day_fits : ℕ → Bool
day_fits d = leb d last_day || eqb d undated

-- Expense c, given its payer's home and the counters f of its group. In the paper's order, behind the fields' own ranges.
abbrev pub sound_in : (home : ℕ) → (ℕ → ℕ) → (c : ℕ) → Expense → Bool
sound_in h f c e =
    all_of
    -- "Bad field values are unsound too."
    (ltb e.payer user_count
    ∷ (ltb e.group group_count || eqb e.group no_group)
    -- "the payer's home is c div 64"
    ∷ eqb h (c / expenses_each)
    -- "shares total 1 to 1,000,000,000"
    ∷ leb 1 (total e)
    ∷ leb (total e) most_total
    -- "only users with a positive share have a bit"
    ∷ every8 (λ u. not (e.acknowledged u) || ltb 0 (e.shares u))
    -- "with no crew, no bit but the payer's"
    ∷ (not (eqb e.group no_group) || every8 (λ u. not (e.acknowledged u) || eqb u e.payer))
    -- "with a crew, the payer and everyone with a positive share has a counter above zero there"
    ∷ (eqb e.group no_group || ever_in f e.payer)
    ∷ (eqb e.group no_group || every8 (λ u. eqb (e.shares u) 0 || ever_in f u))
    ∷ day_fits e.day
    ∷ [])

-- An expense of a ledger, and a whole ledger.
unfoldable pub sound_expense : (ℕ → ℕ) → Ledger → ℕ → Option Expense → Bool
sound_expense home l c none = true
sound_expense home l c (some e) = sound_in (home e.payer) (l.counter e.group) c e

unfoldable pub sound : (ℕ → ℕ) → Ledger → Bool
sound home l = every_below expense_count (λ c. sound_expense home l c (l.expense c))
