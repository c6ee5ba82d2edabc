use Rattle.merge.proofs.Turns.{no_group_lem, group_turn}
use Rattle.format.specs.Layout.{group_count}
use Rattle.std.proofs.Common.{◌≡◌, arith}
use Rattle.merge.proofs.merge_groups.Goals as goal

pub loop-g-init : goal.loop-g-init
loop-g-init c = no_group_lem _ _

pub loop-g-preserved : goal.loop-g-preserved
loop-g-preserved c = group_turn _ _ _ _ c.loop-g.g _ _ _ c.loop-g.invariant c.group_at.ensures c.group_at-in-loop-g.ensures c.larger_group-r.ensures c.write_group.ensures

pub returns : goal.returns
returns c = let z : c.loop-g.g ≡ group_count = omega arith in rw z at c.loop-g.invariant
