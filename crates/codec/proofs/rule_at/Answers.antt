use Rattle.format.specs.Bytes.{group_of}
use Rattle.format.proofs.Laws.{add_sub}
use Rattle.std.proofs.Common.{◌∙◌}
use Rattle.codec.proofs.rule_at.Goals as goal

pub returns : goal.returns
unfolding group_of
returns c = c.read_u16.ensures ∙ rw add_sub
