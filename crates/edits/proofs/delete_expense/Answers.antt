use Rattle.std.proofs.Common.{◌∙◌}
use Rattle.rules.specs.Tests.{eight_at}
use Rattle.kinds.proofs.Seen.{refuses}
use Rattle.edits.proofs.Kind8.{ruled_is, deletes, not_last}
use Rattle.edits.proofs.delete_expense.Goals as goal

pub returns-in_err-may_delete : goal.returns-in_err-may_delete
returns-in_err-may_delete c =
    let both = refuses _ _ _ _ c.from_residual.ensures.1 (c.in_err-may_delete.ensures ∙ ruled_is c.args.image.now c.requires.2 c.args.actor c.args.expense c.requires.1 _ c.expense_at-e.ensures _ c.counters_of-g.ensures) in
    record { code = both.0; bytes = both.1 }

pub raised-requires : goal.raised-requires
raised-requires c = not_last _ (eight_at c.counters_of-g.result.counters) _ c.in_ok-may_delete.ensures

pub returns : goal.returns
returns c =
    let both = deletes c.args.image.now c.requires.2 c.args.actor c.args.expense c.requires.1 _ c.expense_at-e.ensures _ c.counters_of-g.ensures c.in_ok-may_delete.ensures _ c.raised.ensures _ c.write_expense.ensures in
    record { code = both.0; bytes = both.1 }
