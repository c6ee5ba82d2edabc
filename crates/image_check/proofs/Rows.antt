-- Records in their places: the part that is handed over, eight absent ones in a row, the replica that owns them, and the image they stand in.
use Rattle.std.proofs.Common.{◌≡◌, ℕ, ◌+◌, ◌-◌, ◌*◌, ◌/◌, ◌%◌, ◌<◌, ◌≤◌, Bool, true, eqb, List, Option, inl, inr, length, take, drop, length-drop, refl, sym, ap, ◌∙◌, arith, drop-drop, take_all}
use mathlib.Core.Path.{fun_ext}
use Rattle.format.specs.Layout.{Version, v1, v2, v3, groups_at, expense_count, expense_size_in, expenses_at_in, image_size_in, no_expense}
use Rattle.format.specs.Bytes.{Bytes, expense_of}
use Rattle.rules.specs.Tests.{every8, every_below}
use Rattle.images.specs.Meaning.{blank_record, sound_record_in}
use Rattle.images.specs.Image.{home_of, decode_in, sound_as_in, sound_part_in}
use Rattle.rules.proofs.Basics.{eqb_true, and_left}
use Rattle.rules.proofs.Accepted.{every_8}
use Rattle.rules.proofs.Sound.{of_every_below}
use Rattle.fields.specs.Fields.{Sized, sized_as, among, absent_record}
use Rattle.record_check.specs.declared.Basis.{Basis}
use Rattle.record_check.specs.Served.{Serves}
use Rattle.record_check.proofs.Records.{absent_is_sound}
use Rattle.image_check.specs.Among.{sound_among}
use Rattle.image_check.specs.Versions.{Handed}

-- The record check of the part that is handed over.
pub handed_sound : (n : ℕ) (home : ℕ → ℕ) (counter : ℕ → ℕ → ℕ) (s : Bytes) (c : ℕ) (p : Bytes) → p ≡ among n s c
    → sound_as_in (sized_as n) home counter c p ≡ sound_among n home counter s c
unfolding sound_among
handed_sound n home counter s c p e = ap (sound_as_in (sized_as n) home counter c) e

-- Record c, checked by the part that stands at c under the number c, however the two are worked out.
pub one_is_sound : (n c at number : ℕ) (basis : Basis) (s p : Bytes) (told : Bool) → at ≡ c → number ≡ c → p ≡ among n s at
    → ((home : ℕ → ℕ) (counter : ℕ → ℕ → ℕ) → Serves basis home counter (number / 64) → told ≡ sound_as_in (sized_as n) home counter number p)
    → (home : ℕ → ℕ) (counter : ℕ → ℕ → ℕ) → Serves basis home counter (c / 64) → told ≡ sound_among n home counter s c
one_is_sound n c at number basis s p told a b e f home counter made = (rw b at f) home counter made ∙ handed_sound n home counter s c p (e ∙ ap (among n s) a)

-- Eight absent records are sound.
pub row_is_sound : (m : ℕ) (home : ℕ → ℕ) (counter : ℕ → ℕ → ℕ) (s : Bytes) (n : ℕ) → every8 (λ i. absent_record (expense_of (among m s (n + i)))) ≡ true
    → every_below 8 (λ i. sound_among m home counter s (n + i)) ≡ true
unfolding sound_among absent_record
row_is_sound m home counter s n e = of_every_below 8 (λ i. sound_among m home counter s (n + i)) (λ i k. one (n + i) (every_8 (λ x. absent_record (expense_of (among m s (n + x)))) e i k))
  where
    one : (c : ℕ) → absent_record (expense_of (among m s c)) ≡ true → sound_as_in (sized_as m) home counter c (among m s c) ≡ true
    one c q =
        let t : (expense_of (among m s c)).payer ≡ 255 = eqb_true _ _ (and_left (eqb (expense_of (among m s c)).payer no_expense) (blank_record (expense_of (among m s c))) q) in
        sym (absent_is_sound (sized_as m) (home (expense_of (among m s c)).payer) (counter (expense_of (among m s c)).group) (among m s c) c (omega arith)) ∙ q

-- The marks of one replica serve all its records.
pub same_replica : (from i : ℕ) → from % 8 ≡ 0 → i < 8 → from / 64 ≡ (from + i) / 64
same_replica from i h k = omega arith

pub same_row : (from row : ℕ) → from % 64 ≡ 0 → row < 8 → from / 64 ≡ (from + 8 * row) / 64
same_row from row h k = omega arith

pub replica_back : (r : ℕ) → r ≡ 64 * r / 64
replica_back r = omega arith

-- A version's own check of a record is that of its size: both older versions have the same.
own_check : (v : Version) (home : ℕ → ℕ) (counter : ℕ → ℕ → ℕ) (c : ℕ) (p : Bytes) → sound_as_in (sized_as (expense_size_in v)) home counter c p ≡ sound_as_in v home counter c p
unfolding sound_record_in
own_check v1 home counter c p = refl
own_check v2 home counter c p = refl
own_check v3 home counter c p = refl

-- The expenses of an image of each version, handed over from their place to the image's end.
module _ (v : Version) (b : Bytes) (long : length b ≡ image_size_in v) where
  expenses_long : length (drop (expenses_at_in v) b) ≡ expense_count * expense_size_in v
  expenses_long = length-drop (expenses_at_in v) b ∙ go v long
    where
      go : (w : Version) → length b ≡ image_size_in w → length b - expenses_at_in w ≡ expense_count * expense_size_in w
      go v1 e = omega arith
      go v2 e = omega arith
      go v3 e = omega arith

  to_the_end : take (length b - expenses_at_in v) (drop (expenses_at_in v) b) ≡ drop (expenses_at_in v) b
  to_the_end = take_all (length b - expenses_at_in v) (drop (expenses_at_in v) b) (let e = length-drop (expenses_at_in v) b in omega arith)

  pub all_long : length (take (length b - expenses_at_in v) (drop (expenses_at_in v) b)) ≡ expense_count * expense_size_in v
  all_long = ap length to_the_end ∙ expenses_long

  pub all_are : every_below 512 (sound_among (expense_size_in v) (home_of b) (decode_in v b).counter (take (length b - expenses_at_in v) (drop (expenses_at_in v) b))) ≡ every_below 512 (sound_part_in v b)
  unfolding sound_among sound_part_in
  all_are =
      ap (every_below 512)
      (fun_ext (λ c. own_check v (home_of b) (decode_in v b).counter c _ ∙ ap (sound_as_in v (home_of b) (decode_in v b).counter c)
      (ap (λ s. among (expense_size_in v) s c) to_the_end ∙ ap (take (expense_size_in v)) (drop-drop (c * expense_size_in v) (expenses_at_in v) b))))

-- The same of what a check is handed.
pub sized_of : (v : Version) (n : ℕ) → n ≡ expense_size_in v → Sized n
sized_of v1 n e = inl e
sized_of v2 n e = inl e
sized_of v3 n e = inr e

module _ (v : Version) (n number at : ℕ) (known : Option (List ℕ)) (b : Bytes) (h : Handed v n number at known b) where
  pub header_inside : groups_at ≤ length b
  header_inside = go v h.long
    where
      go : (w : Version) → length b ≡ image_size_in w → groups_at ≤ length b
      go v1 e = omega arith
      go v2 e = omega arith
      go v3 e = omega arith

  pub expenses_inside : at ≤ length b
  expenses_inside = go v h.long h.placed
    where
      go : (w : Version) → length b ≡ image_size_in w → at ≡ expenses_at_in w → at ≤ length b
      go v1 e p = omega arith
      go v2 e p = omega arith
      go v3 e p = omega arith

  pub handed_long : length (take (length b - at) (drop at b)) ≡ expense_count * n
  handed_long = rw (h.placed, h.sized) (all_long v b h.long)

  pub handed_are : every_below 512 (sound_among n (home_of b) (decode_in v b).counter (take (length b - at) (drop at b))) ≡ every_below 512 (sound_part_in v b)
  handed_are = rw (h.placed, h.sized) (all_are v b h.long)
