use Rattle.parts.specs.Parts.{gift_at}
use Rattle.parts.proofs.gift_at.Goals as goal

pub returns : goal.returns
unfolding gift_at
returns c = c.gift_of.ensures
