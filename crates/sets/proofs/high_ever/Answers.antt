use Rattle.std.proofs.Common.{rules}
use Rattle.rules.specs.Tests.{eight_at}
use Rattle.rules.specs.Ledger.{ever_in}
use Rattle.sets.proofs.high_ever.Goals as goal

pub returns : goal.returns
returns c = c.high_mask.ensures.set (ever_in (eight_at c.args.f)) 0 (λ u r k answered. search rules)
