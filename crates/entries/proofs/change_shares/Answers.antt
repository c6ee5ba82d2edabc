use Rattle.std.proofs.Common.{◌∙◌, arith}
use Rattle.rules.specs.Tests.{eight_at}
use Rattle.kinds.proofs.Seen.{refuses}
use Rattle.entries.proofs.Kind7.{ruled_is, changes, not_last}
use Rattle.entries.proofs.change_shares.Goals as goal

pub returns-in_err-may_change : goal.returns-in_err-may_change
returns-in_err-may_change c =
    let both = refuses _ _ _ _ c.from_residual.ensures.1 (c.in_err-may_change.ensures ∙ ruled_is c.args.image.now c.requires.2 c.args.actor c.args.expense c.args.shares c.args.day c.requires.1 (omega arith) _ c.expense_at-e.ensures _ c.counters_of-g.ensures) in
    record { code = both.0; bytes = both.1 }

pub raised-requires : goal.raised-requires
raised-requires c = not_last _ (eight_at c.counters_of-g.result.counters) _ (eight_at c.args.shares) c.in_ok-may_change.ensures

pub returns : goal.returns
returns c =
    let both = changes c.args.image.now c.requires.2 c.args.actor c.args.expense c.args.shares c.args.day c.requires.1 (omega arith) _ c.expense_at-e.ensures _ c.counters_of-g.ensures c.in_ok-may_change.ensures _ c.payer_bit-own.ensures _ c.raised.ensures _ c.write_expense.ensures in
    record { code = both.0; bytes = both.1 }
