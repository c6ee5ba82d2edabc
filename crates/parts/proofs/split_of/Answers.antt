use Rattle.parts.proofs.Parts.{split_none}
use Rattle.parts.proofs.split_of.Goals as goal

pub returns-then-members-eq0 : goal.returns-then-members-eq0
returns-then-members-eq0 c = split_none c.args.gifts c.args.members c.if-members-eq0.true
