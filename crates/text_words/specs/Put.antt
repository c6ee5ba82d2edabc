-- A text put into a lent buffer.
use Rattle.std.specs.Prelude.{◌≡◌, ℕ, ◌+◌, length}
use Rattle.std.proofs.lemmas.List.Edits.{sets}
use Rattle.format.specs.Bytes.{Bytes}
pub use Rattle.text_words.specs.Room.{number_room, signed_room}

-- A text put into a buffer at a place: nothing else of the buffer changes, and next is the place behind the text.
pub record Put (out : Bytes) (at : ℕ) (text after : Bytes) (next : ℕ) : Type 0 where
  pub left : after ≡ sets out at text
  pub behind : next ≡ at + length text
