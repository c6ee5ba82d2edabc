-- Records one behind the other, without the image that they stand in.
use Rattle.std.specs.Prelude.{Bool, ℕ}
use Rattle.format.specs.Bytes.{Bytes}
use Rattle.images.specs.Image.{sound_as_in}
use Rattle.fields.specs.Fields.{sized_as, among}

-- Record c, of so many bytes, is sound, given the home table and the groups' counters.
unfoldable pub sound_among : (size : ℕ) → (ℕ → ℕ) → (ℕ → ℕ → ℕ) → Bytes → ℕ → Bool
sound_among n home counter s c = sound_as_in (sized_as n) home counter c (among n s c)
