-- A record of which one field is new.
use Rattle.std.specs.Prelude.{ℕ}
use Rattle.format.specs.declared.ExpenseRecord.{ExpenseRecord}

abbrev pub record_with_acknowledged : ExpenseRecord → ℕ → ExpenseRecord
record_with_acknowledged e w = record { payer = e.payer; group = e.group; deleted = e.deleted; acknowledged = w; version = e.version; shares = e.shares; day = e.day }
