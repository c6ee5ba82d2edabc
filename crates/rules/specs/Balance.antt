-- Document 01, 'Balances', with document 02's A3 and A4, and the lines and totals of a statement.
use Rattle.std.specs.Prelude.{Bool, not, ◌&&◌, ◌||◌, List, [], ◌∷◌, map, ℕ, ◌-◌, ltb, leb, eqb, ℤ, pos, ◌+ℤ◌, ◌-ℤ◌}
use Rattle.std.proofs.Math.Option.{Option, none, some}
use Rattle.std.proofs.Math.IntN.{sub_ℕ}
use Rattle.format.specs.Layout.{expense_count, use_rule, small_share}
use Rattle.format.specs.declared.Line.{Line}
use Rattle.format.specs.declared.Totals.{Totals}
use Rattle.rules.specs.Tests.{sum8, every8, sum_below, number, only}
use Rattle.rules.specs.Ledger.{Expense, Ledger, member, total}
use Rattle.rules.specs.Parts.{members_in, part_in}

-- A share with its stored bit. "In crews of rule 2 a share of 500 cents or fewer counts as acknowledged when validity and A2's test are worked out; 501 must be
-- acknowledged. No bit is set by this" (document 02, A4).
unfoldable pub counts_acknowledged : (rule share : ℕ) (acknowledged : Bool) → Bool
counts_acknowledged k s a = (eqb k use_rule && leb s small_share) || a

-- "A cost is valid in a crew when it is in it, not deleted, and every positive share is acknowledged", or counts so by the crew's rule.
abbrev pub valid : (rule group : ℕ) → Expense → Bool
valid k g e = eqb e.group g && not e.deleted && every8 (λ u. eqb (e.shares u) 0 || counts_acknowledged k (e.shares u) (e.acknowledged u))

-- What one number's expense adds: to the amounts that u paid, to the shares that u holds, to the count of valid expenses and of those that u uses.
abbrev pub paid_in : (rule group user : ℕ) → Option Expense → ℕ
paid_in k g u none = 0
paid_in k g u (some e) = only (valid k g e && eqb e.payer u) (total e)

abbrev pub held_in : (rule group user : ℕ) → Option Expense → ℕ
held_in k g u none = 0
held_in k g u (some e) = only (valid k g e) (e.shares u)

abbrev pub valid_in : (rule group : ℕ) → Option Expense → ℕ
valid_in k g none = 0
valid_in k g (some e) = number (valid k g e)

abbrev pub used_in : (rule group user : ℕ) → Option Expense → ℕ
used_in k g u none = 0
used_in k g u (some e) = number (valid k g e && ltb 0 (e.shares u))

-- "Raw is the sum of valid amounts paid less valid shares held."
unfoldable pub paid : Ledger → ℕ → ℕ → ℕ
paid l g u = sum_below expense_count (λ c. paid_in (l.rule g) g u (l.expense c))

unfoldable pub held : Ledger → ℕ → ℕ → ℕ
held l g u = sum_below expense_count (λ c. held_in (l.rule g) g u (l.expense c))

unfoldable pub raw : Ledger → ℕ → ℕ → ℤ
raw l g u = sub_ℕ (paid l g u) (held l g u)

-- "Gift is raw for a non-member with raw above zero, else 0." (The difference of naturals is 0 where raw is not above zero.)
unfoldable pub gift : Ledger → ℕ → ℕ → ℕ
gift l g u = only (not (member l g u)) (paid l g u - held l g u)

unfoldable pub gifts : Ledger → ℕ → ℕ
gifts l g = sum8 (gift l g)

unfoldable pub members : Ledger → ℕ → ℕ
members l g = members_in (member l g)

-- "a member's weight is the count of the crew's valid costs in which he has a positive share" (document 02, A3)
unfoldable pub weight : Ledger → ℕ → ℕ → ℕ
weight l g u = sum_below expense_count (λ c. used_in (l.rule g) g u (l.expense c))

-- The part of the gifts (Parts), by the group's rule.
unfoldable pub part : Ledger → ℕ → ℕ → ℕ
part l g u = part_in (member l g) (gifts l g) (weight l g) (l.rule g) u

-- "Balance is raw − gift + part."
unfoldable pub balance : Ledger → ℕ → ℕ → ℤ
balance l g u = raw l g u -ℤ pos (gift l g u) +ℤ pos (part l g u)

-- The valid expenses of a group.
unfoldable pub valid_expenses : Ledger → ℕ → ℕ
valid_expenses l g = sum_below expense_count (λ c. valid_in (l.rule g) g (l.expense c))

-- "one for each user (counter, raw, gift, part, balance)"
unfoldable pub line_of : Ledger → ℕ → ℕ → Line
line_of l g u = record { counter = l.counter g u; raw = raw l g u; gift = gift l g u; part = part l g u; balance = balance l g u }

unfoldable pub lines_of : Ledger → ℕ → List Line
lines_of l g = line_of l g 0 ∷ line_of l g 1 ∷ line_of l g 2 ∷ line_of l g 3 ∷ line_of l g 4 ∷ line_of l g 5 ∷ line_of l g 6 ∷ line_of l g 7 ∷ []

-- The balances that lines show, and their sum.
abbrev pub balances_in : List Line → List ℤ
balances_in lines = map (λ x. x.balance) lines

unfoldable pub sumℤ : List ℤ → ℤ
sumℤ [] = pos 0
sumℤ (z ∷ zs) = z +ℤ sumℤ zs

-- "members, valid costs and total gifts"
unfoldable pub totals_of : Ledger → ℕ → Totals
totals_of l g = record { answer = 0; members = members l g; expenses = valid_expenses l g; gifts = gifts l g }
