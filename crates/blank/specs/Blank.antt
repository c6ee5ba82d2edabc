-- What an image is made to hold: no group and no expense; expenses marked as absent.
use Rattle.std.specs.Prelude.{◌++◌, ℕ, zero, suc, take, set}
use Rattle.format.specs.Layout.{groups_at, expense_place, no_expense}
use Rattle.format.specs.Bytes.{Bytes}
use Rattle.rules.specs.Ledger.{empty}
use Rattle.images.specs.Image.{groups, expenses}

-- The header of b, then no group and no expense.
unfoldable pub blanked : Bytes → Bytes
blanked b = take groups_at b ++ (groups empty ++ expenses empty)

-- b with no payer in expenses 0 to n − 1.
unfoldable pub absent_below : ℕ → Bytes → Bytes
absent_below zero b = b
absent_below (suc n) b = set (absent_below n b) (expense_place n) no_expense
