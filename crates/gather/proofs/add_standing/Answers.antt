use Rattle.std.proofs.Common.{◌∙◌, inl, inr}
use Rattle.format.specs.Bytes.{expense_of}
use Rattle.validity.proofs.Counts.{backed_is}
use Rattle.balance.proofs.Added.{uses_added}
use Rattle.gather.proofs.Added.{not_backed, added}
use Rattle.gather.proofs.add_standing.Goals as goal
use Rattle.gather.proofs.add_standing.Goals.{then-rule-eq-USE_RULE, else-rule-eq-USE_RULE}

pub returns-then-not-all_acknowledged : goal.returns-then-not-all_acknowledged
unfolding expense_of
returns-then-not-all_acknowledged c =
    let a = c.args in
    let e = expense_of a.part.now in
    let k = backed_is a.rule e _ _ _ c.read_shares-s.ensures c.acknowledged_in-acknowledged.ensures c.all_acknowledged.ensures in
    not_backed a.rule e c.requires.4 a.low.now a.high.now a.uses.now _ k c.requires.0.0 c.requires.1.0 c.requires.2.0 (c.if-not-all_acknowledged.true)

pub returns : goal.returns
unfolding expense_of
returns c =
    let a = c.args in
    let e = expense_of a.part.now in
    let r = c.read_shares-s in
    let k = backed_is a.rule e _ _ _ r.ensures c.acknowledged_in-acknowledged.ensures c.all_acknowledged.ensures in
    let n = uses_added a.rule a.uses.now _ r.result c.requires.2.0 (elim c.if-rule-eq-USE_RULE.branch [ then-rule-eq-USE_RULE w ↦ inl (w.if-rule-eq-USE_RULE.true, w.uses-is ∙ w.add_uses.ensures) | else-rule-eq-USE_RULE w ↦ inr (w.if-rule-eq-USE_RULE.false, w.uses-is) ]) in
    added a.rule e c.requires.4 a.low.now a.high.now a.uses.now _ k (c.if-not-all_acknowledged.false) _ _ _ _ r.ensures c.add_low.ensures c.add_high.ensures n
