use Rattle.std.proofs.Common.{◌≡◌, ap, ◌∙◌, subst, ◌+◌, ◌*◌, arith}
use Rattle.format.specs.Layout.{expense_count}
use Rattle.calendar.specs.Calendar.{between}
use Rattle.rules.specs.Month.{of_days}
use Rattle.images.specs.Image.{decode}
use Rattle.balance.proofs.Turns.{sums_none, sums_all, skip_four}
use Rattle.balance.specs.Dated.{from_to}
use Rattle.balance.specs.Sums.{together, SumsTo}
use Rattle.balance.proofs.Dated.{not_in_dated}
use Rattle.balance.proofs.Fewer.{valid_to_lem}
use Rattle.balance.proofs.sums_of.Goals as goal
use Rattle.balance.proofs.sums_of.Goals.{then-four_in, else-four_in}

pub loop-row-init : goal.loop-row-init
loop-row-init c = let a = c.args in sums_none (from_to a.first a.last (decode a.image.now)) a.rule a.g

pub overflow_add-expenses : goal.overflow_add-expenses
overflow_add-expenses c =
    let a = c.args in
    let l = c.loop-row in
    let x = l.invariant.3 in
    let y = c.add_four-expenses.ensures.3 in
    let z = valid_to_lem a.image.now c.fits-image a.rule a.g (between a.first a.last) (4 * l.row + 4) (omega arith) in
    omega arith

pub loop-row-preserved : goal.loop-row-preserved
loop-row-preserved c =
    let a = c.args in
    let l = c.loop-row in
    let d = from_to a.first a.last (decode a.image.now) in
    let i = c.if-four_in in
    let z : 4 * l.row + 4 ≡ 4 * (l.row + 1) = omega arith in
    subst (λ n. SumsTo d a.rule a.g n (together i.paid i.held i.uses i.expenses)) z (elim i.branch [
      | then-four_in w ↦
          let r = w.add_four-expenses in
          (w.paid-is ∙ r.ensures.0, w.held-is ∙ r.ensures.1, w.uses-is ∙ r.ensures.2, w.expenses-is ∙ ap (λ k. k + r.result) l.invariant.3 ∙ r.ensures.3)
      | else-four_in w ↦
          let p = between a.first a.last in
          let s = together l.paid l.held l.uses l.expenses in
          let x = skip_four a.image.now a.rule a.g (of_days p (decode a.image.now)) (not_in_dated a.image.now a.rule a.g p) (4 * l.row) (omega arith) _ c.four_in.ensures w.if-four_in.false s l.invariant in
          (w.paid-is ∙ x.0, w.held-is ∙ x.1, w.uses-is ∙ x.2, w.expenses-is ∙ x.3)
    ])

pub returns : goal.returns
returns c =
    let a = c.args in
    let l = c.loop-row in
    let z : 4 * l.row ≡ expense_count = omega arith in
    sums_all (from_to a.first a.last (decode a.image.now)) a.rule a.g (4 * l.row) _ z l.invariant
