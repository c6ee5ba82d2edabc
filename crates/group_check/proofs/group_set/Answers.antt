use Rattle.group_check.proofs.Rules.{decoded, absent_unruled, present_unruled, no_such_rule, absent_ruled, present_ruled}
use Rattle.format.specs.Layout.{current}
use Rattle.format.proofs.Laws.{handed_group}
use Rattle.std.proofs.Common.{Some, sym, ap, ◌∙◌, arith}
use Rattle.format.specs.Bytes.{group_of, group_part}
use Rattle.rules.specs.Ledger.{nobody}
use Rattle.images.specs.Meaning.{counters_of}
use Rattle.record_check.specs.Sets.{known_set}
use Rattle.group_check.proofs.group_set.Goals as goal

pub returns-then-nobody_ever : goal.returns-then-nobody_ever
returns-then-nobody_ever c = absent_unruled (counters_of (group_of (group_part c.args.image.now c.args.g))) (group_of (group_part c.args.image.now c.args.g)).rule (sym c.rule_at-rule.ensures ∙ c.if-rule-eq0.true) (sym (ap (λ p. nobody (counters_of (group_of p))) (handed_group current c.args.image.now c.args.g)) ∙ sym c.nobody_ever.ensures ∙ c.if-nobody_ever.true) ∙ decoded c.args.image.now c.args.g c.requires.0

pub returns-then-rule-eq0 : goal.returns-then-rule-eq0
returns-then-rule-eq0 c = present_unruled (counters_of (group_of (group_part c.args.image.now c.args.g))) (group_of (group_part c.args.image.now c.args.g)).rule (sym c.rule_at-rule.ensures ∙ c.if-rule-eq0.true) (sym (ap (λ p. nobody (counters_of (group_of p))) (handed_group current c.args.image.now c.args.g)) ∙ sym c.nobody_ever.ensures ∙ c.if-nobody_ever.false) ∙ decoded c.args.image.now c.args.g c.requires.0

pub returns-then-rule-gt-USE_RULE : goal.returns-then-rule-gt-USE_RULE
returns-then-rule-gt-USE_RULE c = no_such_rule (counters_of (group_of (group_part c.args.image.now c.args.g))) (group_of (group_part c.args.image.now c.args.g)).rule (let e = c.rule_at-rule.ensures in let t = c.if-rule-gt-USE_RULE.true in omega arith) ∙ decoded c.args.image.now c.args.g c.requires.0

pub returns-then-k-eq0 : goal.returns-then-k-eq0
returns-then-k-eq0 c = absent_ruled (counters_of (group_of (group_part c.args.image.now c.args.g))) (group_of (group_part c.args.image.now c.args.g)).rule (λ z. c.if-rule-eq0.false (c.rule_at-rule.ensures ∙ z)) (sym (ap (λ p. known_set (counters_of (group_of p))) (handed_group current c.args.image.now c.args.g)) ∙ sym c.known_in-k.ensures ∙ c.if-k-eq0.true) ∙ decoded c.args.image.now c.args.g c.requires.0

pub returns : goal.returns
returns c = ap Some (c.known_in-k.ensures ∙ ap (λ p. known_set (counters_of (group_of p))) (handed_group current c.args.image.now c.args.g)) ∙ present_ruled (counters_of (group_of (group_part c.args.image.now c.args.g))) (group_of (group_part c.args.image.now c.args.g)).rule (λ z. c.if-rule-eq0.false (c.rule_at-rule.ensures ∙ z)) (let e = c.rule_at-rule.ensures in let t = c.if-rule-gt-USE_RULE.false in omega arith) (λ z. c.if-k-eq0.false (c.known_in-k.ensures ∙ ap (λ p. known_set (counters_of (group_of p))) (handed_group current c.args.image.now c.args.g) ∙ z)) ∙ decoded c.args.image.now c.args.g c.requires.0
