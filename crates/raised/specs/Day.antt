-- What stands in the place of the day that an older version does not tell.
use Rattle.std.specs.Prelude.{cond, ℕ, eqb}
use Rattle.format.specs.Layout.{no_expense, undated}

-- "65,535 means undated and stands in costs raised from older images; an absent cost has zero"
unfoldable pub day_raised : (payer : ℕ) → ℕ
day_raised p = cond (eqb p no_expense) 0 undated
