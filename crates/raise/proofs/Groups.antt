-- Parts written one behind the other. The groups of an image of version 1, written one behind the other with their rules, are those of its ledger in the current version.
use Rattle.std.proofs.Common.{◌≡◌, refl, sym, ap, ap₂, ◌∙◌, ◌++◌, append_assoc, append-nil, ℕ, ◌+◌, ◌-◌, ◌≤◌, ◌<◌, add-one, arith, length, take, drop, length-append, length-take, length-drop, length-take-le, take_at, drop_at, take-add}
use borrow.Rule.Slice.PartMut.{put_mid}
use Rattle.format.specs.Layout.{v1, v2, current, groups_at, group_count, group_size, groups_size, group_place, group_size_in, group_place_in, expenses_at, image_size, image_size_in}
use Rattle.format.specs.Bytes.{Bytes, group_bytes_in, group_bytes_of, group_part_in, splice}
use Rattle.format.specs.declared.GroupRecord.{GroupRecord}
use Rattle.format.proofs.Laws.{handed_group, length_group_bytes, put_part}
use Rattle.images.specs.Meaning.{group_record_of}
use Rattle.rules.specs.Ledger.{Ledger}
use Rattle.images.specs.Image.{group_bytes, read_group, read_rule, table, groups, groups_in, decode_in}
use Rattle.images.proofs.Round.{table_same, counters_are, rule_are}

-- The bytes of group g raised.
abbrev pub raised_bytes : Bytes → ℕ → Bytes
raised_bytes b g = group_bytes current (read_group (group_part_in v1 b g)) (read_rule v1 (group_part_in v1 b g))

pub none_yet : (b d : Bytes) → take groups_at d ≡ take groups_at d ++ table 0 (raised_bytes b)
unfolding table
none_yet b d = sym (append-nil (take groups_at d))

-- A part written behind what stands before it.
pub behind : (d x : Bytes) (i : ℕ) → i + length x ≤ length d → take (i + length x) (splice d i x) ≡ take i d ++ x
unfolding splice
behind d x i h =
    let front : length (take i d ++ x) ≡ i + length x = length-append (take i d) x ∙ ap (λ n. n + length x) (length-take-le i d (omega arith)) in
    ap (take (i + length x)) (sym (append_assoc (take i d) x (drop (i + length x) d))) ∙ take_at (take i d ++ x) (drop (i + length x) d) (i + length x) front

pub one_more : (b d₀ d new : Bytes) (g : ℕ) (r : GroupRecord) → length d ≡ image_size → g < group_count → take (group_place g) d ≡ take groups_at d₀ ++ table g (raised_bytes b)
    → r ≡ group_record_of (read_group (take ((group_place_in v1 g + group_size_in v1) - group_place_in v1 g) (drop (group_place_in v1 g) b)))
    (read_rule v1 (take ((group_place_in v1 g + group_size_in v1) - group_place_in v1 g) (drop (group_place_in v1 g) b)))
    → new ≡ splice d (group_place g) (group_bytes_of r) → take (group_place (g + 1)) new ≡ take groups_at d₀ ++ table (g + 1) (raised_bytes b)
unfolding table group_bytes
one_more b d₀ d new g r long h before er en =
    let wide : length (group_bytes_of r) ≡ group_size = length_group_bytes current r in
    let place : group_place (g + 1) ≡ group_place g + length (group_bytes_of r) = omega arith in
    let here : group_bytes_of r ≡ raised_bytes b g = ap group_bytes_of (er ∙ ap (λ p. group_record_of (read_group p) (read_rule v1 p)) (handed_group v1 b g)) in
    ap₂ take place en ∙ behind d (group_bytes_of r) (group_place g) (omega arith) ∙ ap₂ ◌++◌ before here ∙ append_assoc (take groups_at d₀) (table g (raised_bytes b)) (raised_bytes b g)
    ∙ rw add-one

pub all_raised : (b : Bytes) → table group_count (raised_bytes b) ≡ groups (decode_in v1 b)
unfolding read_group read_rule
all_raised b = table_same group_count _ _ (λ g k. ap₂ (group_bytes current) (sym (counters_are v1 b g k)) (sym (rule_are v1 b g k)))

-- What a copy of version 2's groups leaves of the buffer d: what stands before them, and those of b.
pub groups_copied : (b d z : Bytes) → length b ≡ image_size_in v2 → length d ≡ image_size
    → z ≡ take groups_size (drop groups_at b)
    → take expenses_at (put_mid groups_at (expenses_at - groups_at) d z) ≡ take groups_at d ++ take groups_size (drop groups_at b)
groups_copied b d z lb ld whole =
    let from : Bytes = take groups_size (drop groups_at b) in
    let count : length from ≡ groups_size = simp (length-take, length-drop) (omega arith) in
    let wide : length z ≡ groups_size = ap length whole ∙ count in
    let place : expenses_at ≡ groups_at + length z = omega arith in
    ap₂ take place (put_part groups_at groups_size d z wide) ∙ behind d z groups_at (omega arith) ∙ ap (λ l. take groups_at d ++ l) whole

-- The groups of the buffer e, where it begins with l behind what stands before the groups of d.
pub groups_behind : (d e l : Bytes) → length d ≡ image_size → length e ≡ image_size → take expenses_at e ≡ take groups_at d ++ l → take groups_size (drop groups_at e) ≡ l
groups_behind d e l n m h =
    sym (drop_at (take groups_at e) (take groups_size (drop groups_at e)) groups_at (length-take-le groups_at e (omega arith)))
    ∙ ap (drop groups_at) (sym (take-add groups_at groups_size e) ∙ h)
    ∙ drop_at (take groups_at d) l groups_at (length-take-le groups_at d (omega arith))

pub same_groups : (l : Ledger) → groups_in v2 l ≡ groups l
unfolding group_bytes group_bytes_in
same_groups l = refl
