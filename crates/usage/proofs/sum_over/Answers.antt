use Rattle.std.proofs.Common.{◌≡◌, ◌∙◌, ◌<◌, ◌^◌, sum, rules, arith}
use Rattle.usage.proofs.Laws.{figures_sum}
use Rattle.usage.proofs.sum_over.Goals as goal

pub sum-requires-clause-fits : goal.sum-requires-clause-fits
sum-requires-clause-fits c =
    let e = figures_sum c.args.f c.args.a _ c.figures_of.ensures c.requires in
    let z : sum c.figures_of.result < 2 ^ 64 = omega arith in search rules

pub returns : goal.returns
returns c =
    let e = figures_sum c.args.f c.args.a _ c.figures_of.ensures c.requires in
    let r : c.sum.result ≡ sum c.figures_of.result = search rules in r ∙ e.0
