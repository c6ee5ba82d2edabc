use Rattle.parts.specs.Parts.{equal_at}
use Rattle.parts.proofs.equal_at.Goals as goal

pub returns : goal.returns
unfolding equal_at
returns c = c.equal_part.ensures
