-- The answer of raising, and what the three steps leave in the buffer.
use Rattle.std.proofs.Common.{◌≡◌, refl, sym, ap, ap₂, ◌∙◌, Bool, true, false, cond, ◌++◌, append_assoc, ◌≢◌, ℕ, ◌+◌, ◌-◌, ◌≤◌, zero-add, arith, eqb, length, take, drop, length-drop, take_all, eq-eqb, ne_eqb}
use mathlib.Core.Option.{none, some}
use lib.Seq.{take-append-add, sets, sets-eq}
use Rattle.format.specs.Layout.{Version, v1, v2, current, groups_at, groups_size, expense_count, expenses_at, expenses_at_in, image_size, image_size_in}
use Rattle.format.specs.Bytes.{Bytes}
use Rattle.images.specs.Image.{table, header, groups, encode, encode_in, decode_in, home_of, replica_of, image_check_in, CheckedIn}
use Rattle.images.specs.Calls.{older_by, raise_answer_from, raise_answer_in, raise_image_in, raised_in}
use Rattle.raise.specs.Dated.{dated_part}
use Rattle.raise.proofs.Expenses.{Older, all_dated}

-- The image b and the buffer d.
module _ (b d : Bytes) where
  pub buffer_length : length d ≢ image_size → 1 ≡ raise_answer_in current b d
  unfolding raise_answer_in
  buffer_length n = go (eqb (length b) (image_size_in v1)) (eqb (length b) (image_size_in v2))
    where
      go : (t u : Bool) → 1 ≡ raise_answer_from current (cond t (some v1) (cond u (some v2) none)) b (length d)
      go true u = rw (ne_eqb (length d) image_size n)
      go false true = rw (ne_eqb (length d) image_size n)
      go false false = refl

  pub no_older : length b ≢ image_size_in v1 → length b ≢ image_size_in v2 → 1 ≡ raise_answer_in current b d
  unfolding raise_answer_in
  no_older n m = rw (ne_eqb (length b) (image_size_in v1) n, ne_eqb (length b) (image_size_in v2) m)

  pub left_alone : (k : ℕ) → k ≡ raise_answer_in current b d → k ≢ 0 → d ≡ raise_image_in current b d
  unfolding raise_image_in
  left_alone k e n = rw (ne_eqb (raise_answer_in current b d) 0 (λ z. n (e ∙ z)))

  -- An image of an older version, and a buffer of the current size.
  module _ (w : Version) (older : older_by current (length b) ≡ some w) (lent : length d ≡ image_size) where
    pub by_check : (k : ℕ) → k ≡ image_check_in w b → k ≡ raise_answer_in current b d
    unfolding raise_answer_in
    by_check k q = rw (older, eq-eqb (length d) image_size lent) q

    raised_is : raised_in current b ≡ encode (home_of b) (replica_of b) (decode_in w b)
    unfolding raised_in
    raised_is = rw older

    -- The header, the groups behind it, and the expenses: the image of the same ledger.
    pub written : Older w → CheckedIn w b → 0 ≡ raise_answer_in current b d → (gs out s : Bytes) → take groups_size (drop groups_at gs) ≡ groups (decode_in w b)
        → s ≡ take (length b - expenses_at_in w) (drop (expenses_at_in w) b)
        → out ≡ header (home_of b) (replica_of b) ++ (take groups_size (drop groups_at gs) ++ table expense_count (dated_part s)) → out ≡ raise_image_in current b d
    unfolding raise_image_in encode_in
    written old ok z gs out s eg es eo =
        let whole : s ≡ drop (expenses_at_in w) b = es ∙ take_all (length b - expenses_at_in w) (drop (expenses_at_in w) b) (let e = length-drop (expenses_at_in w) b in omega arith) in
        eo ∙ ap (λ l. header (home_of b) (replica_of b) ++ l) (ap₂ ◌++◌ eg (ap (λ l. table expense_count (dated_part l)) whole ∙ all_dated w old b ok))
        ∙ sym raised_is ∙ rw (← z)

-- A header put before what the buffer d has of groups.
pub headed : (d h hd out t : Bytes) → length hd ≡ groups_at → groups_at ≤ length d → h ≡ sets d 0 hd → out ≡ take expenses_at h ++ t → out ≡ hd ++ (take groups_size (drop groups_at d) ++ t)
headed d h hd out t n k eh eo =
    eo ∙ ap (λ l. l ++ t) (ap (take expenses_at) (eh ∙ sets-eq hd d 0 (omega arith) ∙ ap (λ m. hd ++ drop m d) (zero-add (length hd) ∙ n)) ∙ ap (λ m. take (m + groups_size) (hd ++ drop groups_at d)) (sym n) ∙ take-append-add hd (drop groups_at d) groups_size)
    ∙ append_assoc hd (take groups_size (drop groups_at d)) t
