use Rattle.std.proofs.Common.{arith}
use Rattle.fields.proofs.Words.{words_are}
use Rattle.fields.proofs.share_words.Goals as goal

pub returns : goal.returns
returns c =
    let pair = c.share_pairs.ensures in words_are c.args.part.now _ _ _ _ (pair 0 (omega arith)) (pair 1 (omega arith)) (pair 2 (omega arith)) (pair 3 (omega arith))
