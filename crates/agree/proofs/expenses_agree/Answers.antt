use Rattle.std.proofs.Common.{arith, ◌≡◌, sym, ◌∙◌}
use Rattle.format.specs.Layout.{expense_count}
use Rattle.rules.proofs.Below.{all_none, all_more, all_false}
use Rattle.agree.proofs.Agreed.{agree_is}
use Rattle.agree.proofs.expenses_agree.Goals as goal

pub loop-c-init : goal.loop-c-init
loop-c-init c = all_none _

pub returns-then-not-parts_agree : goal.returns-then-not-parts_agree
returns-then-not-parts_agree c = sym (all_false _ c.loop-c.c expense_count (omega arith) (agree_is c.args.own.now c.args.other.now c.loop-c.c _ _ _ c.expense_part.ensures c.expense_part-in-loop-c.ensures c.parts_agree.ensures ∙ c.if-not-parts_agree.true))

pub loop-c-preserved : goal.loop-c-preserved
loop-c-preserved c = all_more _ _ c.loop-c.invariant (agree_is c.args.own.now c.args.other.now c.loop-c.c _ _ _ c.expense_part.ensures c.expense_part-in-loop-c.ensures c.parts_agree.ensures ∙ c.if-not-parts_agree.false)

pub returns : goal.returns
returns c = let z : c.loop-c.c ≡ expense_count = omega arith in sym (rw z at c.loop-c.invariant)
