-- Document 01, 'Join of another image into one's own', on ledgers: record by record.
use Rattle.std.specs.Prelude.{Bool, true, not, cond, ◌||◌, [], ◌∷◌, ℕ, max, ltb, eqb}
use Rattle.std.specs.Bool.{beq}
use Rattle.std.proofs.Math.Option.{Option, none, some}
use Rattle.format.specs.Layout.{group_count, expense_count}
use Rattle.rules.specs.Tests.{all_of, every8, every_below, first}
use Rattle.rules.specs.Ledger.{Expense, with_acks, Ledger, either_rule}

-- "keeps the higher version, unites acknowledgements of equal versions"
abbrev pub united : Expense → Expense → ℕ → Bool
united e f u = e.acknowledged u || f.acknowledged u

abbrev pub merged : Expense → Expense → Expense
merged e f = cond (ltb e.version f.version) f (cond (ltb f.version e.version) e (with_acks e (united e f)))

-- "A cost on one side only is taken over."
abbrev pub merge_expense : Option Expense → Option Expense → Option Expense
merge_expense none o = o
merge_expense (some e) none = some e
merge_expense (some e) (some f) = some (merged e f)

-- "takes the larger membership counter"; "a crew on one side only is taken over with its rule"
abbrev pub merge_ledger : Ledger → Ledger → Ledger
merge_ledger a b = record {
  counter = λ g u. max (a.counter g u) (b.counter g u);
  rule = λ g. either_rule (a.rule g) (b.rule g);
  expense = λ c. merge_expense (a.expense c) (b.expense c);
}

-- 31: "A crew present on both sides with different rules". (Zero is the rule of an absent one, and of no other.)
abbrev pub rules_agree : ℕ → ℕ → Bool
rules_agree k j = eqb k 0 || (eqb j 0 || eqb k j)

-- 31: "a cost with equal versions differs in more than acknowledgements"; "joins compare the day with the rest of a cost"
abbrev pub alike : Expense → Expense → Bool
alike e f = all_of (eqb e.payer f.payer ∷ eqb e.group f.group ∷ beq e.deleted f.deleted ∷ every8 (λ u. eqb (e.shares u) (f.shares u)) ∷ eqb e.day f.day ∷ [])

abbrev pub agree : Option Expense → Option Expense → Bool
agree none o = true
agree (some e) none = true
agree (some e) (some f) = not (eqb e.version f.version) || alike e f

-- The answer where both images have passed the check and have one home table.
unfoldable pub merge_answer : Ledger → Ledger → ℕ
merge_answer l m =
    first
    ((not (every_below group_count (λ g. rules_agree (l.rule g) (m.rule g))), 31)
    ∷ (not (every_below expense_count (λ c. agree (l.expense c) (m.expense c))), 31)
    ∷ [])
