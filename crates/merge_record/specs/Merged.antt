-- Two records of one group, or of one expense, merged.
use Rattle.std.specs.Prelude.{max, cond, eqb, ltb}
use Rattle.std.specs.Int.Bits.{bit_or}
use Rattle.format.specs.Layout.{no_expense}
use Rattle.format.specs.declared.ExpenseRecord.{ExpenseRecord}
use Rattle.format.specs.declared.GroupRecord.{GroupRecord}
use Rattle.rules.specs.Ledger.{either_rule}
use Rattle.images.specs.Meaning.{counters_of, group_record_of}
use Rattle.store.specs.Changed.{record_with_acknowledged}

abbrev pub larger_group : GroupRecord → GroupRecord → GroupRecord
larger_group a b = group_record_of (λ u. max (counters_of a u) (counters_of b u)) (either_rule a.rule b.rule)

-- What is absent on the other side stays as it is.
unfoldable pub merged_record : ExpenseRecord → ExpenseRecord → ExpenseRecord
merged_record e f =
    cond (eqb f.payer no_expense) e
    (cond (eqb e.payer no_expense) f
    (cond (ltb e.version f.version) f
    (cond (ltb f.version e.version) e (record_with_acknowledged e (bit_or e.acknowledged f.acknowledged)))))
