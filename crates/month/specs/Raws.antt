-- Each user's raw as code has it: from a list of what each paid and one of what each holds.
use Rattle.std.specs.Prelude.{List, [], ◌∷◌, ℕ, ℤ}
use Rattle.std.proofs.Math.IntN.{sub_ℕ}
use Rattle.rules.specs.Tests.{eight_at}

-- "Raw is the sum of valid amounts paid less valid shares held."
abbrev pub raw_at : (paid held : List ℕ) → ℕ → ℤ
raw_at p h u = sub_ℕ (eight_at p u) (eight_at h u)

abbrev pub raws_from : (paid held : List ℕ) → List ℤ
raws_from p h = raw_at p h 0 ∷ raw_at p h 1 ∷ raw_at p h 2 ∷ raw_at p h 3 ∷ raw_at p h 4 ∷ raw_at p h 5 ∷ raw_at p h 6 ∷ raw_at p h 7 ∷ []
