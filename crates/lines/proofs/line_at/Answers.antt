use Rattle.lines.specs.Lines.{line_at}
use Rattle.lines.proofs.line_at.Goals as goal

pub line_of-requires : goal.line_of-requires
line_of-requires c = c.requires.1 c.args.u

pub returns : goal.returns
unfolding line_at
returns c = c.line_of.ensures
