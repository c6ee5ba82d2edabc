use Rattle.std.proofs.Common.{rules, ltb, false, ap, ◌∙◌}
use Rattle.format.specs.Layout.{replica_count}
use Rattle.rules.specs.Tests.{every8, all_of, eight_at}
use Rattle.eight.proofs.Eight.{eight_made}
use Rattle.header.proofs.homes_fit.Goals as goal

pub returns : goal.returns
unfolding every8
returns c =
    let t = λ (u : _). ltb (eight_at c.args.homes u) replica_count in
    let e = eight_made false t c.map.result c.map.ensures.items.long (λ u k. let w = c.map.ensures.items.at u 0 false k in search rules) in
    c.all.ensures ∙ ap all_of e
