use Rattle.std.proofs.Common.{arith}
use Rattle.lookup.proofs.There.{there_within, there_long, there_part, no_part}
use Rattle.lookup.proofs.lookup.Goals as goal

pub returns-in_default : goal.returns-in_default
returns-in_default c = no_part _ _ c.in_default.ensures

pub overflow_add-result : goal.overflow_add-result
overflow_add-result c = omega (arith, there_within c.args.image.now c.args.expense _ c.in-Some.ensures)

pub slice_bounds-result-end-2 : goal.slice_bounds-result-end-2
slice_bounds-result-end-2 c = omega (arith, there_within c.args.image.now c.args.expense _ c.in-Some.ensures, there_long c.args.image.now c.args.expense _ c.in-Some.ensures)

pub returns : goal.returns
returns c = there_part c.args.image.now c.args.expense _ c.in-Some.ensures
