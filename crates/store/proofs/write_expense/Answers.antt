use Rattle.format.specs.Layout.{current, expense_size}
use Rattle.format.proofs.Laws.{put_part, length_bytes}
use Rattle.store.proofs.write_expense.Goals as goal

pub returns : goal.returns
returns c = rw c.put_record.ensures (put_part _ expense_size _ _ (length_bytes current c.args.e))
