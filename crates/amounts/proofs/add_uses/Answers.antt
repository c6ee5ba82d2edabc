use Rattle.std.proofs.Common.{◌∙◌, ltb, arith}
use Rattle.rules.specs.Tests.{eight_at}
use Rattle.rules.proofs.Sums.{number_le}
use Rattle.amounts.proofs.Amounts.{from_test, added_next}
use Rattle.amounts.proofs.add_uses.Goals as goal

pub overflow_add-uses : goal.overflow_add-uses
overflow_add-uses c =
    let l = c.loop-u in
    let z = c.requires.1 l.u in
    let e = l.invariant.2 l.u (omega arith) in
    let n = c.from.ensures ∙ from_test _ in
    let m = number_le (ltb 0 (eight_at c.args.s l.u)) in
    omega arith

pub loop-u-preserved : goal.loop-u-preserved
loop-u-preserved c = let l = c.loop-u in added_next l.u _ _ l.uses _ (omega arith) l.invariant (c.from.ensures ∙ from_test _)
