use Rattle.std.proofs.Common.{ltb, rules}
use Rattle.rules.specs.Tests.{eight_at}
use Rattle.sets.proofs.positive.Goals as goal

pub returns : goal.returns
returns c = c.mask.ensures (λ u. ltb 0 (eight_at c.args.s u)) 0 (λ u r k answered. search rules)
