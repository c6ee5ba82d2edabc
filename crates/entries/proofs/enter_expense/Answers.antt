use Rattle.std.proofs.Common.{◌∙◌, arith}
use Rattle.kinds.proofs.Seen.{refuses}
use Rattle.entries.proofs.Kind4.{ruled_is, enters}
use Rattle.entries.proofs.enter_expense.Goals as goal

pub returns-in_err-may_enter : goal.returns-in_err-may_enter
returns-in_err-may_enter c =
    let both = refuses _ _ _ _ c.from_residual.ensures.1 (c.in_err-may_enter.ensures ∙ ruled_is c.args.image.now c.requires.2 c.args.actor c.args.expense c.args.shares c.args.day c.requires.1 (omega arith) _ c.expense_at-e.ensures _ c.replica_of.ensures) in
    record { code = both.0; bytes = both.1 }

pub returns : goal.returns
returns c =
    let both = enters c.args.image.now c.requires.2 c.args.actor c.args.expense c.args.shares c.args.day c.requires.1 (omega arith) _ c.expense_at-e.ensures _ c.replica_of.ensures c.in_ok-may_enter.ensures _ _ c.payer_bit.ensures c.write_expense.ensures in
    record { code = both.0; bytes = both.1 }
