use mathlib.Core.Path.{◌∙◌}
use native.Mathlib.Omega.{arith}
use Rattle.parts.proofs.Parts.{parts_other, parts_unused, parts_used}
use Rattle.parts.proofs.parts_of.Goals as goal

pub returns-then-rule-ne-USE_RULE : goal.returns-then-rule-ne-USE_RULE
returns-then-rule-ne-USE_RULE c = c.equal_parts.ensures ∙ parts_other c.args.rule c.args.f c.args.gifts c.args.w c.if-rule-ne-USE_RULE.true

pub sum_over-total-requires : goal.sum_over-total-requires
sum_over-total-requires c = λ v. omega (arith, c.requires.1 v)

pub returns-then-total-eq0 : goal.returns-then-total-eq0
returns-then-total-eq0 c = c.equal_parts-then-total-eq0.ensures ∙ parts_unused c.args.rule c.args.f c.args.gifts c.args.w _ c.sum_over-total.ensures c.if-total-eq0.true

pub by_use-requires : goal.by_use-requires
by_use-requires c = (c.requires.0, c.requires.1, c.sum_over-total.ensures, omega (arith, c.if-total-eq0.false))

pub returns : goal.returns
returns c = c.by_use.ensures ∙ parts_used c.args.rule c.args.f c.args.gifts c.args.w _ c.sum_over-total.ensures c.if-rule-ne-USE_RULE.false (omega (arith, c.if-total-eq0.false))
