use Rattle.std.proofs.Common.{◌≡◌, ◌∙◌, ◌<◌, ◌^◌, ap, sum, arith, rules}
use Rattle.rules.specs.Tests.{eight_at, sum8}
use Rattle.amounts.proofs.Amounts.{sum_eight, sum8_bound}
use Rattle.amounts.proofs.total.Goals as goal

-- What is added up is the list that `iter` goes over, and `s` is all that is said of it: its eight numbers are the argument's.
pub sum-requires-clause-fits : goal.sum-requires-clause-fits
sum-requires-clause-fits c =
    let l = c.iter.result.rest.now in
    let e = sum_eight l (search rules) in
    let s : sum8 (eight_at l) ≡ sum8 (eight_at c.args.a) = ap (λ x. sum8 (eight_at x)) c.iter.ensures.rest in
    let b = sum8_bound (eight_at c.args.a) _ c.requires in
    let z : sum l < 2 ^ 64 = omega arith in search rules

pub returns : goal.returns
returns c =
    let l = c.iter.result.rest.now in
    let e = sum_eight l (search rules) in
    let s : sum8 (eight_at l) ≡ sum8 (eight_at c.args.a) = ap (λ x. sum8 (eight_at x)) c.iter.ensures.rest in
    let b = sum8_bound (eight_at c.args.a) _ c.requires in
    let r : c.sum.result ≡ sum l = search rules in (r ∙ e ∙ s, omega arith)
