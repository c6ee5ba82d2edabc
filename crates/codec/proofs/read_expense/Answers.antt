use Rattle.format.specs.Bytes.{expense_of}
use Rattle.codec.proofs.read_expense.Goals as goal

pub returns : goal.returns
unfolding expense_of
returns c = cc
