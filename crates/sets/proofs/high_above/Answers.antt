use Rattle.std.proofs.Common.{ltb, rules}
use Rattle.rules.specs.Tests.{eight_at}
use Rattle.sets.proofs.high_above.Goals as goal

pub returns : goal.returns
returns c = c.high_mask.ensures.set (λ u. ltb c.args.limit (eight_at c.args.s u)) 0 (λ u r k answered. search rules)
