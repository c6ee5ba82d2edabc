use Rattle.std.proofs.Common.{◌≡◌, refl, add-one, arith}
use Rattle.format.specs.Layout.{expense_count}
use Rattle.blank.specs.Blank.{absent_below}
use Rattle.blank.proofs.mark_absent.Goals as goal

pub loop-c-init : goal.loop-c-init
unfolding absent_below
loop-c-init c = refl

pub loop-c-preserved : goal.loop-c-preserved
unfolding absent_below
loop-c-preserved c = rw (add-one, ← c.loop-c.invariant) c.put_payer.ensures

pub returns : goal.returns
returns c = let z : c.loop-c.c ≡ expense_count = omega arith in rw z at c.loop-c.invariant
