use Rattle.std.proofs.Common.{◌≡◌, ℕ, ◌+◌, ◌/◌, true}
use Rattle.rules.specs.Tests.{every_below}
use Rattle.record_check.specs.Served.{Serves}
use Rattle.image_check.specs.Among.{sound_among}
use Rattle.image_check.proofs.row_sound.Given as goal

abbrev pub invariant-loop-i : goal.invariant-loop-i
invariant-loop-i g l = (home : ℕ → ℕ) (counter : ℕ → ℕ → ℕ) → Serves l.basis home counter (l.from / 64) → every_below l.i (λ j. sound_among g.row.SIZE home counter l.all (l.from + j)) ≡ true
