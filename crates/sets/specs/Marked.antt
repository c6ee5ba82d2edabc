-- A test of eight elements, by what it says of each.
use Rattle.std.specs.Prelude.{◌≡◌, ℕ, ◌<◌, Bool, List, slice_index_or}

-- Whatever the test answers of element u is p u. (d stands for no element: eight are there.)
abbrev pub Marks : {A : Type 0} → (A → Bool → Type 0) → List A → A → (ℕ → Bool) → Type 0
Marks answers items d p = (u : ℕ) (r : Bool) → u < 8 → answers (slice_index_or items u d) r → r ≡ p u
