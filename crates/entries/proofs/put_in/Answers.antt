use Rattle.std.proofs.Common.{◌∙◌}
use Rattle.kinds.proofs.Seen.{refuses}
use Rattle.entries.proofs.Kind5.{ruled_is, puts, not_last}
use Rattle.entries.proofs.put_in.Goals as goal

pub returns-in_err-may_put_in : goal.returns-in_err-may_put_in
returns-in_err-may_put_in c =
    let both = refuses _ _ _ _ c.from_residual.ensures.1 (c.in_err-may_put_in.ensures ∙ ruled_is c.args.image.now c.requires.3 c.args.actor c.args.group c.args.expense c.requires.2 _ c.expense_at-e.ensures _ c.counters_of-g.ensures) in
    record { code = both.0; bytes = both.1 }

pub raised-requires : goal.raised-requires
raised-requires c = not_last _ _ _ c.in_ok-may_put_in.ensures

pub returns : goal.returns
returns c =
    let both = puts c.args.image.now c.requires.3 c.args.actor c.args.group c.args.expense c.requires.2 _ c.expense_at-e.ensures _ c.counters_of-g.ensures c.in_ok-may_put_in.ensures _ c.raised.ensures _ c.write_expense.ensures in
    record { code = both.0; bytes = both.1 }
