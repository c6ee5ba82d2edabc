-- The text of the image of a ledger: its replica, then the lines of the ledger's groups. It rests on the laws of such an image (images, Encoded).
use mathlib.Core.Path.{◌≡◌}
use mathlib.Core.List.{◌++◌}
use Prim.Native.Nat.{ℕ, ◌<◌}
use Rattle.format.specs.Layout.{current, replica_count, group_count}
use Rattle.rules.specs.Ledger.{Ledger}
use Rattle.images.specs.Image.{Homes, encode}
use Rattle.images.proofs.Encoding.{encode_length}
use Rattle.images.proofs.Encoded.{Holds, replica_is, decode_is, check_is}
use Rattle.text.specs.Text.{van_text, crews_text, statement_text, image_text, program_text}

module _ (home : ℕ → ℕ) (hm : Homes home) (r : ℕ) (r8 : r < replica_count) (l : Ledger) (h : Holds current home l) where
  pub statement_encoded : statement_text (encode home r l) ≡ van_text r ++ crews_text group_count l
  unfolding statement_text
  statement_encoded = rw (replica_is home hm r r8 l h, decode_is home hm r r8 l h)

  pub text_encoded : program_text (encode home r l) ≡ van_text r ++ crews_text group_count l
  unfolding program_text image_text
  text_encoded = rw (encode_length current home r l, check_is home hm r r8 l h) statement_encoded
