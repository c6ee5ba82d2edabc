use Rattle.std.proofs.Common.{arith}
use Rattle.fields.proofs.Words.{total_is}
use Rattle.fields.proofs.total_in.Goals as goal

pub overflow_add-result : goal.overflow_add-result
overflow_add-result c = omega (arith, c.halves.ensures.1, c.halves-2.ensures.1)

pub overflow_add-result-2 : goal.overflow_add-result-2
overflow_add-result-2 c = omega (arith, c.halves.ensures.1, c.halves-2.ensures.1, c.halves-3.ensures.1)

pub overflow_add-result-3 : goal.overflow_add-result-3
overflow_add-result-3 c = omega (arith, c.halves.ensures.1, c.halves-2.ensures.1, c.halves-3.ensures.1, c.halves-4.ensures.1)

pub returns : goal.returns
returns c =
    let pair = c.share_pairs.ensures in
    total_is c.args.part.now _ _ _ _ _ _ _ _ (pair 0 (omega arith)) (pair 1 (omega arith)) (pair 2 (omega arith)) (pair 3 (omega arith)) c.halves.ensures c.halves-2.ensures c.halves-3.ensures c.halves-4.ensures
