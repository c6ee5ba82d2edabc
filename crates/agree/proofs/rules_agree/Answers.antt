use Rattle.std.proofs.Common.{arith, ◌≡◌, sym, ap₂, ◌∙◌, Bool, ℕ}
use Rattle.format.specs.Layout.{group_count}
use Rattle.format.specs.Bytes.{Bytes, group_of, group_part}
use Rattle.rules.specs.Merge.{rules_agree}
use Rattle.rules.proofs.Below.{all_none, all_more, all_false}
use Rattle.agree.specs.Agreed.{rules_agree_at}
use Rattle.agree.proofs.rules_agree.Goals as goal

-- What the code has tested of one group.

tested : (b d : Bytes) (g : ℕ) {j k : ℕ} {r : Bool} → j ≡ (group_of (group_part b g)).rule → k ≡ (group_of (group_part d g)).rule → r ≡ rules_agree j k → rules_agree_at b d g ≡ r
unfolding rules_agree_at
tested b d g ej ek er = sym (er ∙ ap₂ rules_agree ej ek)

pub loop-g-init : goal.loop-g-init
loop-g-init c = all_none _

pub returns-then-not-rule_agrees : goal.returns-then-not-rule_agrees
returns-then-not-rule_agrees c = sym (all_false _ c.loop-g.g group_count (omega arith) (tested c.args.own.now c.args.other.now c.loop-g.g c.rule_at.ensures c.rule_at-in-loop-g.ensures c.rule_agrees.ensures ∙ c.if-not-rule_agrees.true))

pub loop-g-preserved : goal.loop-g-preserved
loop-g-preserved c = all_more _ _ c.loop-g.invariant (tested c.args.own.now c.args.other.now c.loop-g.g c.rule_at.ensures c.rule_at-in-loop-g.ensures c.rule_agrees.ensures ∙ c.if-not-rule_agrees.false)

pub returns : goal.returns
returns c = let z : c.loop-g.g ≡ group_count = omega arith in sym (rw z at c.loop-g.invariant)
