use Rattle.rules.specs.Tests.{eight_at}
use Rattle.validity.proofs.Above.{small_use, small_equal, counted_by_lem}
use Rattle.validity.proofs.all_acknowledged.Goals as goal

pub returns-then-rule-eq-USE_RULE : goal.returns-then-rule-eq-USE_RULE
returns-then-rule-eq-USE_RULE c = counted_by_lem c.args.rule (eight_at c.args.s) c.args.acknowledged _ _ (small_use c.args.rule c.if-rule-eq-USE_RULE.true) c.acknowledged_above.ensures

pub returns-else-rule-eq-USE_RULE : goal.returns-else-rule-eq-USE_RULE
returns-else-rule-eq-USE_RULE c = counted_by_lem c.args.rule (eight_at c.args.s) c.args.acknowledged _ _ (small_equal c.args.rule c.if-rule-eq-USE_RULE.false) c.acknowledged_above-else-rule-eq-USE_RULE.ensures
