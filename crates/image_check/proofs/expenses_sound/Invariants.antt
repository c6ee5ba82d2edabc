use Rattle.std.proofs.Common.{◌≡◌, ℕ, ◌*◌, true}
use Rattle.rules.specs.Tests.{every_below}
use Rattle.images.specs.Image.{home_of}
use Rattle.record_check.specs.Sets.{Knows}
use Rattle.image_check.specs.Among.{sound_among}
use Rattle.image_check.proofs.expenses_sound.Given as goal

abbrev pub invariant-loop-replica : goal.invariant-loop-replica
invariant-loop-replica g l = (counter : ℕ → ℕ → ℕ) → Knows l.known counter → every_below (64 * l.replica) (sound_among g.row.SIZE (home_of l.image) counter l.all) ≡ true
