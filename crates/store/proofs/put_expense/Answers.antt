use Rattle.store.proofs.Behind.{expense_behind}
use Rattle.store.proofs.put_expense.Goals as goal

pub returns : goal.returns
returns c = expense_behind c.args.e c.args.part.now c.put.ensures c.put_u32.ensures c.put_shares.ensures c.put_u16.ensures
