use Rattle.std.proofs.Common.{◌∙◌}
use Rattle.rules.specs.Tests.{eight_at}
use Rattle.kinds.proofs.Seen.{refuses}
use Rattle.edits.proofs.Kind10.{ruled_is, absorbs, not_last, sum_fits}
use Rattle.edits.proofs.absorb_share.Goals as goal

pub returns-in_err-may_absorb : goal.returns-in_err-may_absorb
returns-in_err-may_absorb c =
    let both = refuses _ _ _ _ c.from_residual.ensures.1 (c.in_err-may_absorb.ensures ∙ ruled_is c.args.image.now c.requires.3 c.args.actor c.args.other c.args.expense c.requires.0 c.requires.1 c.requires.2 _ c.expense_at-e.ensures _ c.counters_of-g.ensures) in
    record { code = both.0; bytes = both.1 }

pub moved_shares-shares-requires : goal.moved_shares-shares-requires
moved_shares-shares-requires c = (c.requires.0, c.requires.1, sum_fits c.args.image.now c.requires.3 c.args.actor c.args.other c.args.expense c.requires.0 c.requires.1 c.requires.2 _ c.expense_at-e.ensures _ c.counters_of-g.ensures c.in_ok-may_absorb.ensures)

pub raised-requires : goal.raised-requires
raised-requires c = not_last _ (eight_at c.counters_of-g.result.counters) _ _ c.in_ok-may_absorb.ensures

pub returns : goal.returns
returns c =
    let both = absorbs c.args.image.now c.requires.3 c.args.actor c.args.other c.args.expense c.requires.0 c.requires.1 c.requires.2 _ c.expense_at-e.ensures _ c.counters_of-g.ensures c.in_ok-may_absorb.ensures _ c.moved_shares-shares.ensures _ c.raised.ensures _ c.write_expense.ensures in
    record { code = both.0; bytes = both.1 }
