use Rattle.rules.specs.Tests.{eight_at}
use Rattle.kinds.proofs.Shared.{strangers_are}
use Rattle.kinds.proofs.strangers.Goals as goal

pub returns : goal.returns
returns c = strangers_are (eight_at c.args.f) (eight_at c.args.s) _ _ _ c.positive.ensures c.members.ensures c.within.ensures
