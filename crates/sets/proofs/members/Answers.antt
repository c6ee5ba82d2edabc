use Rattle.std.proofs.Common.{rules}
use Rattle.rules.specs.Tests.{eight_at}
use Rattle.rules.specs.Ledger.{member_in}
use Rattle.sets.proofs.members.Goals as goal

pub returns : goal.returns
returns c = c.mask.ensures (member_in (eight_at c.args.f)) 0 (λ u r k answered. search rules)
