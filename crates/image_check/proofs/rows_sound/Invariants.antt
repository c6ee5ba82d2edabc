use Rattle.std.proofs.Common.{◌≡◌, ℕ, ◌+◌, ◌*◌, ◌/◌, true}
use Rattle.rules.specs.Tests.{every_below}
use Rattle.record_check.specs.Served.{Serves}
use Rattle.image_check.specs.Among.{sound_among}
use Rattle.image_check.proofs.rows_sound.Given as goal

abbrev pub invariant-loop-row : goal.invariant-loop-row
invariant-loop-row g l = (home : ℕ → ℕ) (counter : ℕ → ℕ → ℕ) → Serves l.basis home counter (l.from / 64) → every_below (8 * l.row) (λ i. sound_among g.row.SIZE home counter l.all (l.from + i)) ≡ true
