use Rattle.amounts.proofs.Amounts.{total_more}
use Rattle.std.proofs.Common.{arith}
use Rattle.amounts.proofs.add_total.Goals as goal

pub overflow_add-paid : goal.overflow_add-paid
overflow_add-paid c = let z = c.requires.0.1 c.args.payer in omega arith

pub returns-then-by-lt-USERS : goal.returns-then-by-lt-USERS
returns-then-by-lt-USERS c = total_more c.args.paid.now c.args.payer c.args.total c.requires.0.0 (omega arith)
