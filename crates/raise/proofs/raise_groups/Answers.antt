use Rattle.raise.proofs.Groups.{none_yet, one_more, all_raised}
use Rattle.std.proofs.Common.{arith, ◌≡◌, ap, ◌∙◌, ◌++◌, take}
use Rattle.format.specs.Layout.{groups_at, group_count}
use Rattle.raise.proofs.raise_groups.Goals as goal

pub loop-g-init : goal.loop-g-init
loop-g-init c = (omega arith, none_yet c.args.old.now c.args.image.now)

pub loop-g-preserved : goal.loop-g-preserved
loop-g-preserved c = (omega arith, one_more c.args.old.now c.args.image.now c.loop-g.image _ c.loop-g.g _ (omega arith) (omega arith) c.loop-g.invariant.1 c.raised_group-r.ensures c.write_group.ensures)

pub returns : goal.returns
returns c = let z : c.loop-g.g ≡ group_count = omega arith in rw z at c.loop-g.invariant.1 ∙ ap (λ t. take groups_at c.args.image.now ++ t) (all_raised c.args.old.now)
