use Rattle.std.proofs.Common.{◌∙◌, arith}
use Rattle.eight.proofs.Eight.{zeros}
use Rattle.eight.proofs.shares_zero.Goals as goal

pub returns : goal.returns
returns c = c.eq.ensures ∙ zeros c.args.s (omega arith)
