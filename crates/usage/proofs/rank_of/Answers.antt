use Rattle.std.proofs.Common.{◌≡◌, ◌∙◌, ◌<◌, ◌^◌, sum, rules, arith}
use Rattle.usage.proofs.Keys.{ahead_sum}
use Rattle.usage.proofs.rank_of.Goals as goal

pub sum-requires-clause-fits : goal.sum-requires-clause-fits
sum-requires-clause-fits c =
    let e = ahead_sum c.args.k c.args.mine _ c.all_ahead.ensures in
    let z : sum c.all_ahead.result < 2 ^ 64 = omega arith in search rules

pub returns : goal.returns
returns c =
    let e = ahead_sum c.args.k c.args.mine _ c.all_ahead.ensures in
    let r : c.sum.result ≡ sum c.all_ahead.result = search rules in r ∙ e.0
