use Rattle.std.proofs.Common.{◌+◌, arith, rules}
use Rattle.calendar.specs.Calendar.{between}
use Rattle.images.specs.Image.{decode}
use Rattle.balance.specs.Sums.{together, valid_to, SumsTo}
use Rattle.balance.specs.Dated.{from_to}
use Rattle.balance.proofs.Dated.{one_more}
use Rattle.balance.proofs.Fewer.{room_all, valid_to_lem}
use Rattle.balance.proofs.add_four.Goals as goal

pub add_expense-added-requires : goal.add_expense-added-requires
add_expense-added-requires c =
    let a = c.args in
    let l = c.loop-c in
    (room_all a.image.now c.fits-image a.rule a.g (between a.days.first a.days.last) l.c _ (omega arith) l.invariant, search rules)

pub overflow_add-added : goal.overflow_add-added
overflow_add-added c =
    let a = c.args in
    let l = c.loop-c in
    let r = c.add_expense-added in
    let d = from_to a.days.first a.days.last (decode a.image.now) in
    let x : SumsTo d a.rule a.g (l.c + 1) (together r.new.paid r.new.held r.new.uses (valid_to a.from d a.rule a.g + (l.added + r.result))) =
    one_more a.image.now a.rule a.g (between a.days.first a.days.last) l.c (omega arith) _ _ _ _ _ _ _ _ _ l.invariant (rw c.expense_part.ensures at r.ensures) (omega arith)
    in
    let y = x.3 in
    let z = valid_to_lem a.image.now c.fits-image a.rule a.g (between a.days.first a.days.last) (l.c + 1) (omega arith) in
    omega arith

pub loop-c-preserved : goal.loop-c-preserved
loop-c-preserved c =
    let a = c.args in
    let l = c.loop-c in
    one_more a.image.now a.rule a.g (between a.days.first a.days.last) l.c (omega arith) _ _ _ _ _ _ _ _ _ l.invariant (rw c.expense_part.ensures at c.add_expense-added.ensures) (omega arith)
