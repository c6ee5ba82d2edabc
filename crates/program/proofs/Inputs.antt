-- One image, two images, or another length, over plain variables.
use Rattle.std.proofs.Common.{◌≡◌, sym, ap, ap₂, ◌∙◌, ◌≢◌, ℕ, ◌+◌, ◌-◌, ◌≤◌, ◌++◌, length, take, drop, length-drop, arith}
use lib.Seq.{sets-eq, take_all, take-append_seam}
use borrow.Author.Tests.{eq-eqb, ne_eqb}
use Rattle.format.specs.Layout.{current, image_size}
use Rattle.format.specs.Bytes.{Bytes, Octets}
use Rattle.images.specs.Image.{image_check, Checked}
use Rattle.images.specs.Calls.{merge_images_answer, merge_images}
use Rattle.images.proofs.Checked.{merge_passed, merge_checked}
use Rattle.images.proofs.Round.{long}
use Rattle.text.specs.Text.{refused_text, statement_text, image_text, joined_text, program_text}
use Rattle.text_words.specs.Put.{Put}

-- An image, by the answer of the check.
module _ (b : Bytes) where
  pub image_bad : (k : ℕ) → k ≡ image_check b → k ≢ 0 → refused_text k ≡ image_text b
  unfolding image_text
  image_bad k e n = rw (ne_eqb (image_check b) 0 (λ z. n (e ∙ z))) (ap refused_text e)

  pub image_good : 0 ≡ image_check b → statement_text b ≡ image_text b
  unfolding image_text
  image_good e = rw (eq-eqb (image_check b) 0 (sym e))

-- Two images, by the answer of the merge, which leaves own.
module _ (b d : Bytes) where
  pub joined_bad : (k : ℕ) → k ≡ merge_images_answer b d → k ≢ 0 → refused_text k ≡ joined_text b d
  unfolding joined_text
  joined_bad k e n = rw (ne_eqb (merge_images_answer b d) 0 (λ z. n (e ∙ z))) (ap refused_text e)

  module _ (e : 0 ≡ merge_images_answer b d) where
    own_checked : Octets b → Checked b
    own_checked o = record { octets = o; passes = (merge_passed current b d (sym e)).0 }

    pub own_long : Octets b → length b ≡ image_size
    own_long o = long b (own_checked o)

    -- What the merge leaves passes the check.
    pub joined_sound : Octets b → Octets d → (own : Bytes) → own ≡ merge_images b d → image_check own ≡ 0
    joined_sound o od own w = ap image_check w ∙ (merge_checked b (own_checked o) d od).passes

    pub joined_good : (own : Bytes) → own ≡ merge_images b d → statement_text own ≡ joined_text b d
    unfolding joined_text
    joined_good own w = rw (eq-eqb (merge_images_answer b d) 0 (sym e)) (ap statement_text w)

-- The input by its length.
module _ (x : Bytes) where
  pub input_one : length x ≡ image_size → image_text x ≡ program_text x
  unfolding program_text
  input_one h = rw (eq-eqb (length x) image_size h)

  module _ (n : length x ≢ image_size) where
    pub input_two : length x ≡ image_size + image_size → joined_text (take image_size x) (take (length x - image_size) (drop image_size x)) ≡ program_text x
    unfolding program_text
    input_two h =
        let m : length (drop image_size x) ≤ length x - image_size = simp length-drop (omega arith) in
        rw (ne_eqb (length x) image_size n, eq-eqb (length x) (image_size + image_size) h)
        (ap (joined_text (take image_size x)) (take_all (length x - image_size) (drop image_size x) m))

    pub input_other : length x ≢ image_size + image_size → refused_text 1 ≡ program_text x
    unfolding program_text
    input_other m = rw (ne_eqb (length x) image_size n, ne_eqb (length x) (image_size + image_size) m)

-- A text at the start of a buffer is its first bytes.
pub at_start : (out after t : Bytes) (r : ℕ) → Put out 0 t after r → r ≤ length out → take r after ≡ t
at_start out after t r p h =
    let n : r ≡ length t = p.behind ∙ omega arith in
    let m : 0 + length t ≤ length out = omega arith in
    let s : after ≡ t ++ drop (0 + length t) out = p.left ∙ sets-eq t out 0 m in
    ap₂ take n s ∙ take-append_seam t (drop (0 + length t) out)
