use Rattle.std.proofs.Common.{sum, ap, ◌∙◌, take_all, arith}
use Rattle.eight.proofs.Eight.{sum_of_eight}
use Rattle.eight.proofs.total_of.Goals as goal

pub returns : goal.returns
returns c =
    let e = ap sum (take_all c.loop-share.share-index c.args.s (omega arith)) in
    (c.loop-share.invariant.0 ∙ e ∙ sum_of_eight c.args.s (omega arith), omega arith)
