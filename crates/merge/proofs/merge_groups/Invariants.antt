use Rattle.merge.specs.Merged.{groups_merged}
use Rattle.std.proofs.Common.{◌≡◌}
use Rattle.merge.proofs.merge_groups.Given as goal

abbrev pub invariant-loop-g : goal.invariant-loop-g
invariant-loop-g l = l.own ≡ groups_merged l.g l.initial.own l.other
