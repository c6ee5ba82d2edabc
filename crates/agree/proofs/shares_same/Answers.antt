use Rattle.std.proofs.Common.{◌∙◌, arith}
use Rattle.agree.proofs.Agreed.{same_eight}
use Rattle.agree.proofs.shares_same.Goals as goal

pub returns : goal.returns
returns c = c.eq.ensures ∙ same_eight c.args.s c.args.t (omega arith) (omega arith)
