use Rattle.std.proofs.Common.{◌≡◌, ◌∙◌, ◌<◌, ◌^◌, sum, rules, arith}
use Rattle.parts.proofs.Parts.{members_sum}
use Rattle.parts.proofs.members_in.Goals as goal

pub sum-members-requires-clause-fits : goal.sum-members-requires-clause-fits
sum-members-requires-clause-fits c =
    let e = members_sum c.args.f _ c.ones_of.ensures in
    let z : sum c.ones_of.result < 2 ^ 8 = omega arith in search rules

pub returns : goal.returns
returns c =
    let e = members_sum c.args.f _ c.ones_of.ensures in
    let r : c.sum-members.result ≡ sum c.ones_of.result = search rules in r ∙ e.0
