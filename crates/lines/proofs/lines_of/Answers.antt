use Rattle.std.proofs.Common.{arith}
use Rattle.std.proofs.lemmas.Grind.{common_steps}
use Rattle.lines.specs.Lines.{lines_from}
use Rattle.lines.proofs.lines_of.Goals as goal

pub returns : goal.returns
unfolding lines_from
returns c = grind (arith, common_steps)
