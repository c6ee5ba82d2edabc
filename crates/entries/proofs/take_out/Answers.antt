use Rattle.std.proofs.Common.{◌∙◌}
use Rattle.kinds.proofs.Seen.{refuses}
use Rattle.entries.proofs.Kind6.{ruled_is, takes, not_last}
use Rattle.entries.proofs.take_out.Goals as goal

pub returns-in_err-may_take_out : goal.returns-in_err-may_take_out
returns-in_err-may_take_out c =
    let both = refuses _ _ _ _ c.from_residual.ensures.1 (c.in_err-may_take_out.ensures ∙ ruled_is c.args.image.now c.requires.3 c.args.actor c.args.group c.args.expense c.requires.2 _ c.expense_at-e.ensures _ c.counters_of-g.ensures) in
    record { code = both.0; bytes = both.1 }

pub raised-requires : goal.raised-requires
raised-requires c = not_last _ _ _ _ c.in_ok-may_take_out.ensures

pub returns : goal.returns
returns c =
    let both = takes c.args.image.now c.requires.3 c.args.actor c.args.group c.args.expense c.requires.2 _ c.expense_at-e.ensures _ c.counters_of-g.ensures c.in_ok-may_take_out.ensures _ c.payer_bit-kept.ensures _ c.raised.ensures _ c.write_expense.ensures in
    record { code = both.0; bytes = both.1 }
