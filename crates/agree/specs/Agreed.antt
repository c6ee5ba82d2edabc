-- One group's rule and one expense of two images agree: nothing of them stands in the way of a merge.
use Rattle.std.specs.Prelude.{ℕ, Bool}
use Rattle.format.specs.Bytes.{Bytes, expense_of, group_of, group_part, expense_part}
use Rattle.rules.specs.Merge.{rules_agree, agree}
use Rattle.images.specs.Meaning.{meaning}

-- The rule of group g in two images agrees.
unfoldable pub rules_agree_at : Bytes → Bytes → ℕ → Bool
rules_agree_at b d g = rules_agree (group_of (group_part b g)).rule (group_of (group_part d g)).rule

-- Expense c of two images agrees.
unfoldable pub agree_at : Bytes → Bytes → ℕ → Bool
agree_at b d c = agree (meaning (expense_of (expense_part b c))) (meaning (expense_of (expense_part d c)))
