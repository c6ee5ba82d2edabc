-- The expenses of an older version, each with what stands in the place of its day.
use Rattle.std.specs.Prelude.{◌++◌, ℕ}
use Rattle.format.specs.Bytes.{Bytes, le16, expense_of}
use Rattle.fields.specs.Fields.{among}
use Rattle.raised.specs.Day.{day_raised}

-- Expense c of those that stand one behind the other.
unfoldable pub dated_part : Bytes → ℕ → Bytes
dated_part s c = among 40 s c ++ le16 (day_raised (expense_of (among 40 s c)).payer)
