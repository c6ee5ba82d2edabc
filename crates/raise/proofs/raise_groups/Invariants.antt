use Rattle.raise.proofs.Groups.{raised_bytes}
use Rattle.std.proofs.Common.{◌≡◌, ◌++◌, length, take}
use Rattle.format.specs.Layout.{groups_at, group_place, image_size}
use Rattle.images.specs.Image.{table}
use Rattle.raise.proofs.raise_groups.Given as goal

abbrev pub invariant-loop-g : goal.invariant-loop-g
invariant-loop-g l = (length l.image ≡ image_size) × (take (group_place l.g) l.image ≡ take groups_at l.initial.image ++ table l.g (raised_bytes l.old))
