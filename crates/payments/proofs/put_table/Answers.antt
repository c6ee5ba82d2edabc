use Rattle.std.proofs.Common.{◌∙◌, arith}
use Rattle.payments.proofs.Table.{rows_long, flattened, flattened_rows}
use Rattle.payments.proofs.put_table.Goals as goal

-- What is copied is the table whole, or a table written out entry by entry, which h says to be the same numbers.
pub returns : goal.returns
returns c =
    let t = c.args.table in
    let h = flattened_rows t (omega arith) (λ i k. rows_long t _ i (omega arith) c.well_formed.1.0.1.1) in
    c.copy_from_slice.ensures.after ∙ (c.as_flattened.ensures.value ∙ search flattened)
