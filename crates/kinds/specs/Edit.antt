-- An expense's record as edits leave it.
use Rattle.std.specs.Prelude.{List, ℕ, suc}
use Rattle.format.specs.declared.ExpenseRecord.{ExpenseRecord}

-- With other fields, version and payer kept.
abbrev pub edit : ExpenseRecord → (group deleted acknowledged : ℕ) (shares : List ℕ) (day : ℕ) → ExpenseRecord
edit e g d a s day = record { payer = e.payer; group = g; deleted = d; acknowledged = a; version = e.version; shares = s; day = day }

-- "Kinds 5 to 8 and 10 raise the version by 1."
abbrev pub raised_record : ExpenseRecord → ExpenseRecord
raised_record e = record { payer = e.payer; group = e.group; deleted = e.deleted; acknowledged = e.acknowledged; version = suc e.version; shares = e.shares; day = e.day }
