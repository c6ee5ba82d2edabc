use Rattle.rules.specs.Tests.{number, eight_at}
use Rattle.rules.specs.Ledger.{member_in}
use Rattle.eight.proofs.Eight.{eight_made}
use Rattle.parts.proofs.ones_of.Goals as goal

pub returns : goal.returns
returns c =
    let m = c.map.ensures.items in
    eight_made 0 (λ u. number (member_in (eight_at c.args.f) u)) c.map.result m.long (λ u k. (m.at u 0 0 k).2.met.0)
