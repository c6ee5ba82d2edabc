-- An image that passes the check of a version is the encoding of its ledger in that version, which is sound and whose rules fit.
use mathlib.Core.Path.{◌≡◌, refl, sym, ap, ap₂, ◌∙◌, fun_ext}
use mathlib.Core.Bool.{Bool, true, false, cond, ◌&&◌}
use mathlib.Core.Option.{none}
use mathlib.Core.List.{[], ◌∷◌, ◌++◌}
use Prim.Native.Nat.{ℕ, zero, suc, ◌+◌, ◌*◌, ◌/◌, ◌%◌, ◌≤◌, ◌<◌}
use native.Mathlib.Omega.{arith}
use lib.Dec.{ltb, eqb}
use lib.ListN.{length, take, drop, length-take, length-drop, take-append-drop, get_or-eq_default}
use lib.Seq.{take-suc, take-add, take_all, get_or-take, get_or-drop, drop-drop}
use Rattle.format.specs.Layout.{Version, v1, v2, v3, current, number_in, groups_at, group_size_in, group_count, groups_size_in, expenses_at_in, expense_size_in, expense_count, expenses_size_in, image_size_in, group_place_in, expense_place_in}
use Rattle.format.specs.Bytes.{Octets, Bytes, byte, shares_of, expense_of, forty_of, bytes_in, group_of, group_bytes_in, rule_told_in, group_part_in, expense_part_in}
use Rattle.format.specs.declared.ExpenseRecord.{ExpenseRecord}
use Rattle.format.proofs.Laws.{group_inside, expense_inside}
use Rattle.format.proofs.Round.{pair_beyond, told_in, write_back, write_group}
use Rattle.rules.specs.Tests.{every8}
use Rattle.rules.specs.Sound.{rule_fits, rules_fit, sound_expense, sound, sound_in}
use Rattle.images.specs.Meaning.{meaning_in, record_of, present_in, sound_record_in, counters_of, group_record_of, group_record_in, rule_in}
use Rattle.images.specs.Image.{table, header_in, groups_in, expenses_in, group_bytes, read_group, read_rule, expense_bytes, read_expense, encode_in, decode_in, replica_of, home_of, sound_part_in, mark_ok, version_ok_in, header_ok, image_check_in, CheckedIn}
use Rattle.rules.proofs.Basics.{ltb_true, ltb_false, eqb_true, and_right, less?, Less, less, more, same?, Same, same, other}
use Rattle.rules.proofs.Accepted.{pass, test, nth_test, not_false, every_below_lem}
use Rattle.rules.proofs.Sound.{of_every_below}
use Rattle.images.proofs.Codec.{sound_round}

-- A list as the table of its parts, and of its bytes.
parts : (w n : ℕ) (b : Bytes) → table n (λ i. take w (drop (i * w) b)) ≡ take (n * w) b
unfolding table
parts w zero b = let z : 0 ≡ 0 * w = omega arith in ap (λ k. take k b) z
parts w (suc n) b =
    ap (λ t. t ++ take w (drop (n * w) b)) (parts w n b) ∙ sym (take-add (n * w) w b) ∙ (let z : n * w + w ≡ suc n * w = omega arith in ap (λ k. take k b) z)

singles : (n : ℕ) (b : Bytes) → n ≤ length b → table n (λ i. byte b i ∷ []) ≡ take n b
unfolding table
singles zero b h = refl
singles (suc n) b h = ap (λ t. t ++ (byte b n ∷ [])) (singles n b (omega arith)) ∙ sym (take-suc b n 0 h)

pub table_same : (n : ℕ) (f g : ℕ → Bytes) → ((i : ℕ) → i < n → f i ≡ g i) → table n f ≡ table n g
unfolding table
table_same zero f g h = refl
table_same (suc n) f g h = ap₂ ◌++◌ (table_same n f g (λ i k. h i (omega arith))) (h n (omega arith))

parts_from : (a w n : ℕ) (b : Bytes) → table n (λ i. take w (drop (a + i * w) b)) ≡ take (n * w) (drop a b)
parts_from a w n b = table_same n _ _ (λ i k. ap (take w) (sym (drop-drop (i * w) a b))) ∙ parts w n (drop a b)

pub part_octets : (w k : ℕ) (b : Bytes) → Octets b → Octets (take w (drop k b))
part_octets w k b o i = go (less? i w)
  where
    go : Less i w → byte (take w (drop k b)) i < 256
    go (less h _) = rw (get_or-take w (drop k b) i 0 h, get_or-drop k b i 0) (o (k + i))
    go (more h _) =
        let l : length (take w (drop k b)) ≤ i = rw length-take (omega arith) in
        rw (get_or-eq_default (take w (drop k b)) 0 l) (omega arith)

-- A record read from bytes: eight shares, and the acknowledgements a byte.
pub read_eight : (p : Bytes) → length (expense_of p).shares ≡ 8
unfolding expense_of shares_of
read_eight p = refl

pub read_acks : (p : Bytes) → Octets p → (expense_of p).acknowledged < 256
unfolding expense_of
read_acks p o = o 3

eight_group : (p : Bytes) → group_record_of (counters_of (group_of p)) (group_of p).rule ≡ group_of p
unfolding group_of
eight_group p = refl

-- The rule that a group's bytes hold is what their version tells of the one read from them.
rule_told : (v : Version) (b : Bytes) (i : ℕ) → (group_of (take (group_size_in v) (drop i b))).rule ≡ rule_told_in v (read_rule v (take (group_size_in v) (drop i b)))
unfolding group_of read_rule
rule_told v1 b i =
    let n : length (take 16 (drop i b)) ≤ 16 = rw length-take (omega arith) in
    pair_beyond (take 16 (drop i b)) 16 n
rule_told v2 b i = refl
rule_told v3 b i = refl

-- The record of a group's bytes, and that of a number beyond the groups.
pub group_in_lem : (v : Version) (b : Bytes) (g : ℕ) → g < group_count → group_of (group_part_in v b g) ≡ group_record_in v (decode_in v b) g
unfolding decode_in read_group
group_in_lem v b g k =
    let p : Bytes = group_part_in v b g in
    let f : ◌≡◌ {A = ℕ → ℕ} (λ u. cond (ltb g group_count) (read_group p u) 0) (counters_of (group_of p)) = fun_ext (λ u. ap (λ t. cond t (read_group p u) 0) (ltb_true g group_count k)) in
    let n : cond (ltb g group_count) (read_rule v p) 0 ≡ read_rule v p = ap (λ t. cond t (read_rule v p) 0) (ltb_true g group_count k) in
    sym (ap₂ group_record_of f (ap (rule_told_in v) n ∙ sym (rule_told v b (group_place_in v g))) ∙ eight_group p)

none_told : (v : Version) → rule_told_in v 0 ≡ 0
none_told v1 = refl
none_told v2 = refl
none_told v3 = refl

pub group_out : (v : Version) (b : Bytes) (g : ℕ) → group_count ≤ g → group_record_of (λ u. 0) 0 ≡ group_record_in v (decode_in v b) g
unfolding decode_in
group_out v b g k =
    let p : Bytes = group_part_in v b g in
    let f : ◌≡◌ {A = ℕ → ℕ} (λ u. cond (ltb g group_count) (read_group p u) 0) (λ u. 0) = fun_ext (λ u. ap (λ t. cond t (read_group p u) 0) (ltb_false g group_count k)) in
    let n : cond (ltb g group_count) (read_rule v p) 0 ≡ 0 = ap (λ t. cond t (read_rule v p) 0) (ltb_false g group_count k) in
    sym (ap₂ group_record_of f (ap (rule_told_in v) n ∙ none_told v))

pub counters_eight : (v : Version) (b : Bytes) (g u : ℕ) → 8 ≤ u → (decode_in v b).counter g u ≡ 0
unfolding decode_in read_group group_of
counters_eight v b g u k = go (ltb g group_count)
  where
    go : (t : Bool) → cond t (counters_of (group_of (group_part_in v b g)) u) 0 ≡ 0
    go true = get_or-eq_default (group_of (group_part_in v b g)).counters 0 k
    go false = refl

pub home_in : (b : Bytes) (u : ℕ) → u < 8 → byte b (6 + u) ≡ home_of b u
unfolding home_of
home_in b u k = rw (ltb_true u 8 k)

pub home_out : (b : Bytes) (u : ℕ) → 8 ≤ u → 0 ≡ home_of b u
unfolding home_of
home_out b u k = rw (ltb_false u 8 k)

-- The bytes of an expense are those of what the version tells of it.
told_expense : (v : Version) (e : ExpenseRecord) → bytes_in v (told_in v e) ≡ bytes_in v e
unfolding bytes_in forty_of
told_expense v1 e = refl
told_expense v2 e = refl
told_expense v3 e = refl

-- The bytes of a group tell its rule as far as the version goes.
told_bytes : (v : Version) (p : Bytes) → group_bytes_in v (group_record_of (counters_of (group_of p)) (rule_in v (counters_of (group_of p)) (group_of p).rule)) ≡ group_bytes_in v (group_of p)
unfolding group_bytes_in group_of
told_bytes v1 p = refl
told_bytes v2 p = refl
told_bytes v3 p = refl

-- The bytes of the version's number.
number_low : (v : Version) → number_in v % 256 ≡ number_in v
number_low v1 = refl
number_low v2 = refl
number_low v3 = refl

number_high : (v : Version) → number_in v / 256 ≡ 0
number_high v1 = refl
number_high v2 = refl
number_high v3 = refl

-- A group's counters and rule are those that its bytes tell.
pub counters_are : (v : Version) (b : Bytes) (g : ℕ) → g < group_count → (decode_in v b).counter g ≡ counters_of (group_of (group_part_in v b g))
unfolding decode_in read_group
counters_are v b g k = fun_ext (λ u. ap (λ t. cond t (read_group (group_part_in v b g) u) 0) (ltb_true g group_count k))

pub rule_are : (v : Version) (b : Bytes) (g : ℕ) → g < group_count → (decode_in v b).rule g ≡ rule_in v (counters_of (group_of (group_part_in v b g))) (group_of (group_part_in v b g)).rule
unfolding decode_in read_rule
rule_are v b g k = ap (λ t. cond t (read_rule v (group_part_in v b g)) 0) (ltb_true g group_count k)

module _ {v : Version} (b : Bytes) (ok : CheckedIn v b) where
  e : image_check_in v b ≡ 0
  e = ok.passes

  o : Octets b
  o = ok.octets

  pub long : length b ≡ image_size_in v
  unfolding image_check_in
  long = eqb_true (length b) (image_size_in v) (not_false _ (pass _ tt e 0))

  mark : (i : ℕ) → ◌≡◌ (nth_test (eqb (byte b 0) 86 ∷ eqb (byte b 1) 65 ∷ eqb (byte b 2) 76 ∷ []) i) true
  unfolding image_check_in mark_ok
  mark = test _ (not_false _ (pass _ tt e 1))

  version : (i : ℕ) → ◌≡◌ (nth_test (eqb (byte b 3) (number_in v) ∷ eqb (byte b 4) 0 ∷ []) i) true
  unfolding image_check_in version_ok_in
  version = test _ (not_false _ (pass _ tt e 2))

  fields : (i : ℕ) → ◌≡◌ (nth_test (ltb (byte b 5) 8 ∷ every8 (λ u. ltb (home_of b u) 8) ∷ eqb (byte b 14) 0 ∷ eqb (byte b 15) 0 ∷ []) i) true
  unfolding image_check_in header_ok
  fields = test _ (not_false _ (pass _ tt e 3))

  header_back : header_in v (home_of b) (replica_of b) ≡ take 16 b
  unfolding home_of replica_of table
  header_back =
      let s : table 16 (λ i. byte b i ∷ []) ≡ take 16 b = singles 16 b (omega (arith, long)) in
      let known : header_in v (home_of b) (replica_of b) ≡ table 16 (λ i. byte b i ∷ []) =
      rw (
        number_low v,
        number_high v,
        eqb_true (byte b 0) 86 (mark 0),
        eqb_true (byte b 1) 65 (mark 1),
        eqb_true (byte b 2) 76 (mark 2),
        eqb_true (byte b 3) (number_in v) (version 0),
        eqb_true (byte b 4) 0 (version 1),
        eqb_true (byte b 14) 0 (fields 2),
        eqb_true (byte b 15) 0 (fields 3),
      ) in
      known ∙ s

  -- The rules fit their groups.
  pub rules_decoded : rules_fit (decode_in v b) ≡ true
  unfolding image_check_in
  rules_decoded = not_false _ (pass _ tt e 4)

  pub rule_at : (g : ℕ) → g < group_count → rule_fits ((decode_in v b).counter g) ((decode_in v b).rule g) ≡ true
  unfolding rules_fit
  rule_at g k = every_below_lem group_count (λ h. rule_fits ((decode_in v b).counter h) ((decode_in v b).rule h)) rules_decoded g k

  -- Each record is sound, and is the record of what it means.
  pub sound_at : (c : ℕ) → c < expense_count → sound_part_in v b c ≡ true
  unfolding image_check_in
  sound_at c k = every_below_lem expense_count (sound_part_in v b) (not_false _ (pass _ tt e 5)) c k

  told_at : (c : ℕ) → c < expense_count → told_in v (record_of (meaning_in v (expense_of (expense_part_in v b c)))) ≡ told_in v (expense_of (expense_part_in v b c))
  unfolding sound_part_in
  told_at c k = sound_round v (expense_of (expense_part_in v b c)) (read_eight (expense_part_in v b c)) (read_acks (expense_part_in v b c) (part_octets (expense_size_in v) (expense_place_in v c) b o)) _ _ c (sound_at c k)

  pub expense_is : (c : ℕ) → c < expense_count → (decode_in v b).expense c ≡ meaning_in v (expense_of (expense_part_in v b c))
  unfolding decode_in read_expense
  expense_is c k = ap (λ t. cond t (read_expense v (expense_part_in v b c)) none) (ltb_true c expense_count k)

  part_long : (c : ℕ) → c < expense_count → length (expense_part_in v b c) ≡ expense_size_in v
  part_long c k = simp (length-take, length-drop) (omega (arith, long, expense_inside v c k))

  pub expense_round : (c : ℕ) → c < expense_count → expense_bytes v ((decode_in v b).expense c) ≡ expense_part_in v b c
  unfolding expense_bytes
  expense_round c k =
      let e = expense_of (expense_part_in v b c) in
      ap (λ m. bytes_in v (record_of m)) (expense_is c k) ∙ sym (told_expense v (record_of (meaning_in v e))) ∙ ap (bytes_in v) (told_at c k) ∙ told_expense v e
      ∙ write_back v (expense_part_in v b c) (part_octets (expense_size_in v) (expense_place_in v c) b o) (part_long c k)

  group_round : (g : ℕ) → g < group_count → group_bytes v ((decode_in v b).counter g) ((decode_in v b).rule g) ≡ group_part_in v b g
  unfolding group_bytes
  group_round g k =
      let p = group_part_in v b g in
      let n : length p ≡ group_size_in v = simp (length-take, length-drop) (omega (arith, long, group_inside v g k)) in
      ap₂ (group_bytes v) (counters_are v b g k) (rule_are v b g k) ∙ told_bytes v p ∙ write_group v p (part_octets (group_size_in v) (group_place_in v g) b o) n

  -- The groups' bytes are the image's own, and the expenses'.
  pub groups_are : groups_in v (decode_in v b) ≡ take (groups_size_in v) (drop groups_at b)
  groups_are = table_same group_count _ (group_part_in v b) group_round ∙ parts_from groups_at (group_size_in v) group_count b

  expenses_are : expenses_in v (decode_in v b) ≡ drop (expenses_at_in v) b
  expenses_are =
      table_same expense_count _ (expense_part_in v b) expense_round ∙ parts_from (expenses_at_in v) (expense_size_in v) expense_count b
      ∙ take_all (expenses_size_in v) (drop (expenses_at_in v) b) (rw length-drop (omega (arith, long)))

  pub encode_decode : encode_in v (home_of b) (replica_of b) (decode_in v b) ≡ b
  unfolding encode_in
  encode_decode =
      let z : take (groups_size_in v) (drop groups_at b) ++ drop (expenses_at_in v) b ≡ drop groups_at b =
      ap (λ t. take (groups_size_in v) (drop groups_at b) ++ t) (sym (drop-drop (groups_size_in v) groups_at b)) ∙ take-append-drop (groups_size_in v) (drop groups_at b) in
      ap₂ ◌++◌ header_back (ap₂ ◌++◌ groups_are expenses_are ∙ z) ∙ take-append-drop 16 b

  -- The ledger is sound.
  meant_sound : (c : ℕ) (r : ExpenseRecord) → sound_record_in v (home_of b r.payer) ((decode_in v b).counter r.group) c r ≡ true → sound_expense (home_of b) (decode_in v b) c (meaning_in v r) ≡ true
  unfolding sound_record_in meaning_in sound_expense
  meant_sound c r t = go (same? r.payer 255)
    where
      go : Same r.payer 255 → sound_expense (home_of b) (decode_in v b) c (meaning_in v r) ≡ true
      go (same p q) = rw q
      go (other p q) =
          let z : (ltb r.deleted 2 && sound_in (home_of b r.payer) ((decode_in v b).counter r.group) c (present_in v r)) ≡ true = rw q at t in
          rw q (and_right (ltb r.deleted 2) _ z)

  pub sound_decoded : sound (home_of b) (decode_in v b) ≡ true
  unfolding sound sound_part_in
  sound_decoded = of_every_below expense_count _ (λ c k. rw (expense_is c k) (meant_sound c (expense_of (expense_part_in v b c)) (sound_at c k)))

-- Of the current version each record is, whole, that of what it means.
pub record_at : (b : Bytes) → CheckedIn current b → (c : ℕ) → c < expense_count → record_of (meaning_in current (expense_of (expense_part_in current b c))) ≡ expense_of (expense_part_in current b c)
record_at b ok c k = told_at b ok c k
