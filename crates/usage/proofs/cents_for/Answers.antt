use Rattle.usage.specs.Usage.{cents_by}
use Rattle.usage.proofs.cents_for.Goals as goal

pub cents_at-requires : goal.cents_at-requires
cents_at-requires c = c.requires.1 c.args.u

pub returns : goal.returns
unfolding cents_by
returns c = c.cents_at.ensures
