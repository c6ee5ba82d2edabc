-- Of what the sets were made that records are checked against.
use Rattle.std.specs.Prelude.{◌≡◌, ℕ}
use Rattle.record_check.specs.declared.Basis.{Basis}
use Rattle.record_check.specs.Sets.{Knows, own_marks}

-- Of these groups' counters, and of this home table for replica r.
abbrev pub Serves : Basis → (ℕ → ℕ) → (ℕ → ℕ → ℕ) → ℕ → Type 0
Serves basis home counter r = Knows basis.known counter × (basis.own ≡ own_marks home r)
