-- A checked image stays checked, in a history or not.
-- It rests on the image check and the image of a ledger (images, Image) and on the calls on bytes (Calls).
use Rattle.std.specs.Prelude.{◌≡◌, List, ℕ, length}
use Rattle.std.proofs.Math.Option.{some}
use Rattle.format.specs.Layout.{Version, image_size_in, undated}
use Rattle.format.specs.Bytes.{Bytes, Octets}
use Rattle.rules.specs.Ledger.{Expense}
use Rattle.images.specs.Image.{encode_in, decode_in, replica_of, home_of, CheckedIn}
use Rattle.images.specs.Calls.{empty_answer_in, empty_image_in, act_image_in, merge_images_in, older_by, raise_answer_in, raise_image_in}

-- What each call that writes an image leaves, accepted or refused, for every list of bytes that it may be given, in every version.
pub record StaysChecked : Type 0 where
  -- an accepted empty image passes the check, whatever stood in the buffer
  pub empty : (v : Version) (b : Bytes) (r : ℕ) (homes : List ℕ) → empty_answer_in v b r homes ≡ 0 → CheckedIn v (empty_image_in v b r homes)
  -- an action leaves a checked image checked, whatever its record holds
  pub act : (v : Version) (b x : Bytes) → CheckedIn v b → CheckedIn v (act_image_in v b x)
  -- and so does a merge, whatever bytes are handed over
  pub merge : (v : Version) (b d : Bytes) → CheckedIn v b → Octets d → CheckedIn v (merge_images_in v b d)
  -- an accepted raising leaves a checked image in the buffer, whatever bytes it was given, with the replica, the home table, the groups and the expenses of the older one
  pub raise : (v : Version) (b d : Bytes) → Octets b → raise_answer_in v b d ≡ 0
      → CheckedIn v (raise_image_in v b d) × (replica_of (raise_image_in v b d) ≡ replica_of b) × (home_of (raise_image_in v b d) ≡ home_of b)
      × ((w : Version) → older_by v (length b) ≡ some w → decode_in v (raise_image_in v b d) ≡ decode_in w b)
  -- raised to one version and from there to another, or to this at once: an accepted raising still, and the same image
  pub raise_twice : (u v : Version) (b d e f : Bytes) → Octets b → raise_answer_in u b d ≡ 0 → raise_answer_in v (raise_image_in u b d) e ≡ 0 → length f ≡ image_size_in v
      → (raise_answer_in v b f ≡ 0) × (raise_image_in v b f ≡ raise_image_in v (raise_image_in u b d) e)
  -- "65,535 means undated and stands in costs raised from older images"
  pub raise_undated : (v : Version) (b d : Bytes) → Octets b → raise_answer_in v b d ≡ 0 → (c : ℕ) (e : Expense) → (decode_in v (raise_image_in v b d)).expense c ≡ some e → e.day ≡ undated
  -- a checked image is that of the ledger that it holds
  pub whole : (v : Version) (b : Bytes) → CheckedIn v b → encode_in v (home_of b) (replica_of b) (decode_in v b) ≡ b
