use Rattle.std.proofs.Common.{◌∙◌}
use Rattle.kinds.proofs.Seen.{refuses}
use Rattle.edits.proofs.Kind9.{ruled_is, acknowledges}
use Rattle.edits.proofs.acknowledge.Goals as goal

pub returns-in_err-may_acknowledge : goal.returns-in_err-may_acknowledge
returns-in_err-may_acknowledge c =
    let both = refuses _ _ _ _ c.from_residual.ensures.1 (c.in_err-may_acknowledge.ensures ∙ ruled_is c.args.image.now c.requires.2 c.args.actor c.args.expense c.requires.0 c.requires.1 _ c.expense_at-e.ensures _ c.counters_of-g.ensures) in
    record { code = both.0; bytes = both.1 }

pub returns : goal.returns
returns c =
    let both = acknowledges c.args.image.now c.requires.2 c.args.actor c.args.expense c.requires.0 c.requires.1 _ c.expense_at-e.ensures _ c.counters_of-g.ensures c.in_ok-may_acknowledge.ensures _ _ c.with_bit.ensures c.write_expense.ensures in
    record { code = both.0; bytes = both.1 }
