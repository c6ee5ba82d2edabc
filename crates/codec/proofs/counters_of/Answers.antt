use Rattle.std.proofs.Common.{arith, ◌∙◌}
use Rattle.format.specs.Layout.{current}
use Rattle.images.proofs.Round.{group_in_lem, group_out}
use Rattle.codec.proofs.counters_of.Goals as goal

pub returns-then-at-lt-GROUP_COUNT : goal.returns-then-at-lt-GROUP_COUNT
returns-then-at-lt-GROUP_COUNT c = c.group_at.ensures ∙ group_in_lem current c.args.image.now c.args.g (omega arith)

pub returns : goal.returns
returns c = group_out current _ _ c.if-at-lt-GROUP_COUNT.false
