use Rattle.std.proofs.Common.{ap, ◌∙◌, refl, inl, inr}
use Rattle.format.specs.Bytes.{expense_of}
use Rattle.calendar.specs.Calendar.{between}
use Rattle.rules.specs.Tests.{sum8, eight_at}
use Rattle.images.specs.Meaning.{meaning}
use Rattle.validity.proofs.Counts.{backed_is}
use Rattle.balance.specs.Sums.{together}
use Rattle.balance.proofs.Added.{EachEight, not_standing, not_backed, added, uses_added}
use Rattle.balance.proofs.Dated.{nothing_dated, of_other_days, of_these_days}
use Rattle.balance.proofs.add_expense.Goals as goal
use Rattle.balance.proofs.add_expense.Goals.{then-rule-eq-USE_RULE, else-rule-eq-USE_RULE}

pub returns-then-not-stands_in : goal.returns-then-not-stands_in
returns-then-not-stands_in c =
    let a = c.args in
    let e = expense_of a.part.now in
    let r = c.requires.0 in
    let x = together a.paid.now a.held.now a.uses.now 0 in
    let k : EachEight x = (r.0.0, r.1.0, r.2.0) in
    nothing_dated a.rule a.g (between a.days.first a.days.last) (meaning e) x k (not_standing a.rule a.g e x _ c.stands_in.ensures k c.if-not-stands_in.true)

pub returns-then-not-is_dated : goal.returns-then-not-is_dated
returns-then-not-is_dated c =
    let a = c.args in
    let r = c.requires.0 in
    of_other_days (between a.days.first a.days.last) (expense_of a.part.now) _ c.is_dated.ensures a.rule a.g (together a.paid.now a.held.now a.uses.now 0) (r.0.0, r.1.0, r.2.0) c.if-not-is_dated.true

pub returns-then-not-all_acknowledged : goal.returns-then-not-all_acknowledged
unfolding expense_of
returns-then-not-all_acknowledged c =
    let a = c.args in
    let e = expense_of a.part.now in
    let r = c.requires.0 in
    let x = together a.paid.now a.held.now a.uses.now 0 in
    let k : EachEight x = (r.0.0, r.1.0, r.2.0) in
    let b = backed_is a.rule e _ _ _ c.read_shares-s.ensures c.acknowledged_in-acknowledged.ensures c.all_acknowledged.ensures in
    nothing_dated a.rule a.g (between a.days.first a.days.last) (meaning e) x k
    (not_backed a.rule a.g e x _ c.stands_in.ensures c.if-not-stands_in.false _ b k c.if-not-all_acknowledged.true)

pub returns : goal.returns
unfolding expense_of
returns c =
    let a = c.args in
    let e = expense_of a.part.now in
    let x = together a.paid.now a.held.now a.uses.now 0 in
    let y = together c.add_total.new.paid c.add_shares.new.held c.if-rule-eq-USE_RULE.uses 1 in
    let s = c.read_shares-s in
    let b = backed_is a.rule e _ _ _ s.ensures c.acknowledged_in-acknowledged.ensures c.all_acknowledged.ensures in
    let n = uses_added a.rule a.uses.now _ s.result c.requires.0.2.0 (elim c.if-rule-eq-USE_RULE.branch [
      | then-rule-eq-USE_RULE w ↦ inl (w.if-rule-eq-USE_RULE.true, w.uses-is ∙ w.add_uses.ensures)
      | else-rule-eq-USE_RULE w ↦ inr (w.if-rule-eq-USE_RULE.false, w.uses-is)
    ]) in
    of_these_days (between a.days.first a.days.last) e _ c.is_dated.ensures a.rule a.g x y c.if-not-is_dated.false
    (added a.rule a.g e x _ c.stands_in.ensures c.if-not-stands_in.false _ b c.if-not-all_acknowledged.false c.total_of-total.result c.payer_in-payer.result s.result y
    (c.total_of-total.ensures.0 ∙ ap (λ l. sum8 (eight_at l)) s.ensures) c.payer_in-payer.ensures s.ensures c.add_total.ensures c.add_shares.ensures n refl)
