use Rattle.group_check.proofs.Rules.{fits_at}
use Rattle.std.proofs.Common.{◌≡◌, ℕ, ◌<◌, true, length, get_or}
use Rattle.rules.specs.Tests.{every_below}
use Rattle.images.specs.Image.{decode}
use Rattle.record_check.specs.Sets.{known_set}
use Rattle.group_check.proofs.known_sets.Given as goal

abbrev pub invariant-loop-g : goal.invariant-loop-g
invariant-loop-g l = (length l.known ≡ 16) × (every_below l.g (fits_at l.image) ≡ true) × ((i : ℕ) → i < l.g → get_or l.known i 0 ≡ known_set ((decode l.image).counter i))
