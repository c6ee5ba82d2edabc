use Rattle.std.proofs.Common.{◌≡◌, ℕ, ◌<◌, length, get_or}
use Rattle.format.specs.Layout.{v1, group_count}
use Rattle.images.specs.Image.{decode_in}
use Rattle.record_check.specs.Sets.{known_set}
use Rattle.older_check.proofs.known_sets.Given as goal

abbrev pub invariant-loop-g : goal.invariant-loop-g
invariant-loop-g l = (length l.known ≡ group_count) × ((i : ℕ) → i < l.g → get_or l.known i 0 ≡ known_set ((decode_in v1 l.old).counter i))
