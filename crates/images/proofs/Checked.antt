-- A checked image stays checked, in a history or not: what an empty image, an action or a merge leaves passes the check.
-- An image that passes it holds a ledger (Round), every accepted step and merge keeps that (SoundSteps, SoundMerge, Range), and the image of such a ledger passes the check (Encoded).
use mathlib.Core.Path.{◌≡◌, refl, sym, ap₂, ◌∙◌, subst, fun_ext}
use mathlib.Core.Bool.{Bool, true, false, cond}
use mathlib.Core.Option.{Option, none, some}
use mathlib.Core.List.{List, [], ◌∷◌}
use Prim.Native.Nat.{ℕ, zero, suc, ◌+◌, ◌≤◌, ◌<◌}
use native.Mathlib.Omega.{arith}
use lib.Dec.{ltb, eqb}
use lib.ListN.{length, get_or-eq_default}
use Rattle.format.specs.Layout.{Version, v1, v2, v3, image_size_in, user_count, replica_count, replica_at, reserved_at, group_count, expense_count, expense_size_in, group_size_in, group_place_in, expense_place_in, no_expense}
use Rattle.format.specs.Bytes.{Bytes, Octets, byte, shares_of, expense_of, group_of, group_part_in, expense_part_in, kind_in, actor_in, other_in, group_in, expense_in, rest_in}
use Rattle.rules.specs.Tests.{all_of, every8, first, eight_at, eight_of}
use Rattle.rules.specs.Ledger.{Ledger, empty}
use Rattle.rules.specs.Action.{Action}
use Rattle.rules.specs.Step.{gives, ledger_after}
use Rattle.rules.specs.Refusal.{answer}
use Rattle.rules.specs.Merge.{merge_ledger, merge_answer}
use Rattle.images.specs.Meaning.{present_in, meaning_in, counters_of, rule_in, day_in}
use Rattle.images.specs.Image.{Homes, read_group, read_expense, encode_in, decode_in, replica_of, home_of, header_ok, image_check_in, CheckedIn}
use Rattle.images.specs.Record.{rule_named, day_named, kinds, record_fits_in, read_action_in}
use Rattle.images.specs.Calls.{or_else, empty_answer_in, empty_image_in, act_answer_in, acted_in, acted_by_in, act_image_in, other_answer, merge_images_answer_in, merged_image_in, merge_images_in}
use Rattle.rules.proofs.Basics.{eqb_self, ltb_true, ltb_false, eqb_true, and_left, and_right, Same, same, other, same?, Less, less, more, less?}
use Rattle.images.proofs.Codec.{eight_at_lem}
use Rattle.rules.proofs.Accepted.{pass, test, nth_test, not_false, every_8, ltb_lt}
use Rattle.rules.proofs.Sound.{of_every8, ungood_ledger}
use Rattle.rules.proofs.SoundSteps.{act_sound}
use Rattle.rules.proofs.SoundMerge.{merge_sound}
use Rattle.images.proofs.Range.{Plain, PlainOption, Ruled, Encodable, Told, Dated, Narrow, nobody_of, absent_ruled, empty_encodable, apply_encodable, tidy}
use Rattle.images.proofs.RangeMerge.{merge_encodable}
use Rattle.images.proofs.Round.{part_octets, counters_eight, counters_are, rule_are, rule_at, sound_decoded}
use Rattle.images.proofs.Octets.{encode_octets}
use Rattle.images.proofs.Encoded.{Holds, check_is}

-- The image of a ledger that an image can hold.
pub encode_checked : {v : Version} (home : ℕ → ℕ) → Homes home → (r : ℕ) → r < replica_count → (l : Ledger) → Holds v home l → CheckedIn v (encode_in v home r l)
encode_checked {v} home hm r r8 l h = record { octets = encode_octets v home r l r8 hm.below h.fit h.good; passes = check_is home hm r r8 l h }

pub empty_holds : (v : Version) (home : ℕ → ℕ) → Holds v home empty
empty_holds v home = record { fit = empty_encodable v; good = ungood_ledger home empty (λ c k. tt) }

-- Counters and expenses that are read from bytes fit their fields.
counters_fit : (p : Bytes) → Octets p → (u : ℕ) → counters_of (group_of p) u < 65_536
unfolding group_of
counters_fit p o zero = omega (arith, o 0, o 1)
counters_fit p o (suc zero) = omega (arith, o 2, o 3)
counters_fit p o (suc (suc zero)) = omega (arith, o 4, o 5)
counters_fit p o (suc (suc (suc zero))) = omega (arith, o 6, o 7)
counters_fit p o (suc (suc (suc (suc zero)))) = omega (arith, o 8, o 9)
counters_fit p o (suc (suc (suc (suc (suc zero))))) = omega (arith, o 10, o 11)
counters_fit p o (suc (suc (suc (suc (suc (suc zero)))))) = omega (arith, o 12, o 13)
counters_fit p o (suc (suc (suc (suc (suc (suc (suc zero))))))) = omega (arith, o 14, o 15)
counters_fit p o (suc (suc (suc (suc (suc (suc (suc (suc u)))))))) = omega arith

shares_end : (x : Bytes) (u : ℕ) → user_count ≤ u → eight_at (shares_of x) u ≡ 0
unfolding shares_of
shares_end x u k = get_or-eq_default (shares_of x) 0 k

-- A day as a version tells it is told once more the same, and so is one that a record names.
day_twice : (v : Version) (d : ℕ) → Dated v (day_in v d)
day_twice v1 d = refl
day_twice v2 d = refl
day_twice v3 d = refl

named_dated : (v : Version) (z : ℕ) → Dated v (day_named v z)
named_dated v1 z = refl
named_dated v2 z = refl
named_dated v3 z = refl

present_plain : (v : Version) (p : Bytes) → Octets p → Plain v (present_in v (expense_of p))
unfolding expense_of
present_plain v p o = record {
  version32 = omega (arith, o 4, o 5, o 6, o 7);
  shares8 = shares_end p;
  acked8 = λ u k. rw (ltb_false u user_count k);
  dated = day_twice v _;
}

expense_plain : (v : Version) (p : Bytes) → Octets p → PlainOption v (read_expense v p)
unfolding read_expense meaning_in
expense_plain v p o = go (eqb (expense_of p).payer no_expense)
  where
    go : (b : Bool) → PlainOption v (cond b none (some (present_in v (expense_of p))))
    go true = tt
    go false = present_plain v p o

-- Beyond the eight users nobody has a home.
home_beyond : (b : Bytes) (u : ℕ) → user_count ≤ u → home_of b u ≡ 0
unfolding home_of
home_beyond b u k = rw (ltb_false u user_count k)

-- A rule as a version tells it is told once more the same.
rule_again : (v : Version) (f : ℕ → ℕ) (k : ℕ) → rule_in v f (rule_in v f k) ≡ rule_in v f k
rule_again v1 f k = refl
rule_again v2 f k = refl
rule_again v3 f k = refl

-- What a checked image holds.
module _ {v : Version} (b : Bytes) (ok : CheckedIn v b) where
  fields : (i : ℕ) → ◌≡◌ (nth_test (ltb (byte b replica_at) replica_count ∷ every8 (λ u. ltb (home_of b u) replica_count) ∷ eqb (byte b reserved_at) 0 ∷ eqb (byte b (reserved_at + 1)) 0 ∷ []) i) true
  unfolding image_check_in header_ok
  fields = test _ (not_false _ (pass _ tt ok.passes 3))

  pub replica_below : replica_of b < replica_count
  unfolding replica_of
  replica_below = ltb_lt (byte b replica_at) replica_count (fields 0)

  pub homes_homed : Homes (home_of b)
  homes_homed = record {
    below = λ u k. ltb_lt (home_of b u) replica_count (every_8 (λ w. ltb (home_of b w) replica_count) (fields 1) u k);
    beyond = home_beyond b;
  }

  decoded_fits : Encodable v (decode_in v b)
  unfolding decode_in read_group
  decoded_fits = record {
    counters16 = λ g u. counter_fits g u (ltb g group_count);
    groups16 = λ g u k. rw (ltb_false g group_count k);
    users8 = counters_eight v b;
    ruled = λ g. ruled_at g (less? g group_count);
    expenses512 = λ c k. rw (ltb_false c expense_count k);
    plain = λ c. plain_at c (ltb c expense_count);
  }
    where
      counter_fits : (g u : ℕ) (t : Bool) → cond t (counters_of (group_of (group_part_in v b g)) u) 0 < 65_536
      counter_fits g u true = counters_fit (group_part_in v b g) (part_octets (group_size_in v) (group_place_in v g) b ok.octets) u
      counter_fits g u false = omega arith

      ruled_at : (g : ℕ) → Less g group_count → Ruled v ((decode_in v b).counter g) ((decode_in v b).rule g)
      ruled_at g (less k e) = record {
        fits = rule_at b ok g k;
        kept = ap₂ (rule_in v) (counters_are v b g k) (rule_are v b g k) ∙ rule_again v (counters_of (group_of (group_part_in v b g))) _ ∙ sym (rule_are v b g k);
      }
      ruled_at g (more k e) = rw e (absent_ruled v ((decode_in v b).counter g) (nobody_of ((decode_in v b).counter g) (λ u j. rw e)))

      plain_at : (c : ℕ) (t : Bool) → PlainOption v (cond t (read_expense v (expense_part_in v b c)) none)
      plain_at c true = expense_plain v (expense_part_in v b c) (part_octets (expense_size_in v) (expense_place_in v c) b ok.octets)
      plain_at c false = tt

  pub decoded_holds : Holds v (home_of b) (decode_in v b)
  decoded_holds = record { fit = decoded_fits; good = sound_decoded b ok }

-- The shares of a record's action are those of the eight users, and its rule is one that the version can tell.
abbrev pub NarrowOption : Version → Option Action → Type 0
NarrowOption v none = Unit {0}
NarrowOption v (some a) = Narrow v a

named_told : (v : Version) (z : ℕ) → Told v (rule_named v z)
unfolding every8 all_of
named_told v1 z = refl
named_told v2 z = refl
named_told v3 z = refl

narrow_cond : (v : Version) (b : Bool) (p q : Action) → Narrow v p → Narrow v q → Narrow v (cond b p q)
narrow_cond v true p q h k = h
narrow_cond v false p q h k = k

narrow_kinds : (v : Version) (k a o g c n day : ℕ) (s : ℕ → ℕ) → Told v n → Dated v day → ((u : ℕ) → user_count ≤ u → s u ≡ 0) → Narrow v (kinds k a o g c n day s)
narrow_kinds v k a o g c n day s t d h =
    narrow_cond v (eqb k 1) _ _ t (narrow_cond v (eqb k 2) _ _ tt (narrow_cond v (eqb k 3) _ _ tt (narrow_cond v (eqb k 4) _ _ (h, d) (narrow_cond v (eqb k 5) _ _ tt
    (narrow_cond v (eqb k 6) _ _ tt (narrow_cond v (eqb k 7) _ _ (h, d) (narrow_cond v (eqb k 8) _ _ tt (narrow_cond v (eqb k 9) _ _ tt tt))))))))

pub read_narrow : (v : Version) (x : Bytes) → NarrowOption v (read_action_in v x)
unfolding read_action_in
read_narrow v x = go (record_fits_in v x)
  where
    go : (b : Bool) → NarrowOption v (cond b (some (kinds (kind_in x) (actor_in x) (other_in x) (group_in x) (expense_in x) (rule_named v (rest_in x)) (day_named v (rest_in x)) (eight_at (shares_of x)))) none)
    go true = narrow_kinds v (kind_in x) (actor_in x) (other_in x) (group_in x) (expense_in x) (rule_named v (rest_in x)) (day_named v (rest_in x)) (eight_at (shares_of x)) (named_told v (rest_in x)) (named_dated v (rest_in x)) (shares_end x)
    go false = tt

-- What an accepted action or merge leaves can be held by an image again.
pub act_holds : {v : Version} (home : ℕ → ℕ) (r : ℕ) (a : Action) (l : Ledger) → Narrow v a → Holds v home l → answer home r (some a) l ≡ 0 → Holds v home (ledger_after a l)
act_holds home r a l n h e = record { fit = apply_encodable l (gives a l) h.fit (tidy home r a l e n h.fit); good = act_sound home r a l h.good e }

pub merge_holds : {v : Version} (home : ℕ → ℕ) (l m : Ledger) → Holds v home l → Holds v home m → merge_answer l m ≡ 0 → Holds v home (merge_ledger l m)
merge_holds home l m h k e = record { fit = merge_encodable l m h.fit k.fit; good = merge_sound home l m h.good k.good e }

-- An accepted call has passed each of the tests that stand before its rule.
pub or_else_zero : (k n : ℕ) → or_else k n ≡ 0 → (k ≡ 0) × (n ≡ 0)
or_else_zero k n e = go (same? k 0)
  where
    go : Same k 0 → (k ≡ 0) × (n ≡ 0)
    go (same p q) = (p, rw q at e)
    go (other p q) = absurd (p (rw q at e))

pub other_zero : (k : ℕ) → other_answer k ≡ 0 → k ≡ 0
other_zero k e = go (same? k 0)
  where
    go : Same k 0 → k ≡ 0
    go (same p q) = p
    go (other p q) = absurd (let z : 40 + k ≡ 0 = rw q at e in omega arith)

-- Two images whose home tables agree on the eight users have one home table.
pub homes_same : (b d : Bytes) → every8 (λ u. eqb (home_of b u) (home_of d u)) ≡ true → home_of b ≡ home_of d
homes_same b d e = fun_ext (λ u. go u (less? u user_count))
  where
    go : (u : ℕ) → Less u user_count → home_of b u ≡ home_of d u
    go u (less k p) = eqb_true (home_of b u) (home_of d u) (every_8 _ e u k)
    go u (more k p) = home_beyond b u k ∙ sym (home_beyond d u k)

pub merge_passed : (v : Version) (b d : Bytes) → merge_images_answer_in v b d ≡ 0
    → (image_check_in v b ≡ 0) × (image_check_in v d ≡ 0) × (home_of b ≡ home_of d) × (merge_answer (decode_in v b) (decode_in v d) ≡ 0)
unfolding merge_images_answer_in
merge_passed v b d e =
    let z = or_else_zero (image_check_in v b) _ e in
    let y = or_else_zero (other_answer (image_check_in v d)) _ z.1 in
    let x = ruled (every8 (λ u. eqb (home_of b u) (home_of d u))) refl y.1 in
    (z.0, other_zero (image_check_in v d) y.0, x.0, x.1)
  where
    ruled : (t : Bool) → every8 (λ u. eqb (home_of b u) (home_of d u)) ≡ t → cond t (merge_answer (decode_in v b) (decode_in v d)) 30 ≡ 0 → (home_of b ≡ home_of d) × (merge_answer (decode_in v b) (decode_in v d) ≡ 0)
    ruled true p z = (homes_same b d p, z)
    ruled false p z = absurd (omega arith)

-- What an accepted merge of two checked images leaves can be held again.
pub merged_holds : {v : Version} (b d : Bytes) → CheckedIn v b → CheckedIn v d → merge_images_answer_in v b d ≡ 0 → Holds v (home_of b) (merge_ledger (decode_in v b) (decode_in v d))
merged_holds {v} b d okb okd e =
    let z = merge_passed v b d e in
    merge_holds (home_of b) (decode_in v b) (decode_in v d) (decoded_holds b okb) (subst (λ home. Holds v home (decode_in v d)) (sym z.2) (decoded_holds d okd)) z.3

-- An action on a checked image leaves a checked image, accepted or refused.
module _ {v : Version} (b : Bytes) (ok : CheckedIn v b) where
  acted_checked : (o : Option Action) → NarrowOption v o → answer (home_of b) (replica_of b) o (decode_in v b) ≡ 0 → CheckedIn v (acted_by_in v b o)
  unfolding acted_in
  acted_checked none n e = ok
  acted_checked (some a) n e = encode_checked (home_of b) (homes_homed b ok) (replica_of b) (replica_below b ok) _ (act_holds (home_of b) (replica_of b) a (decode_in v b) n (decoded_holds b ok) e)

  ruled_answer : (x : Bytes) → act_answer_in v b x ≡ answer (home_of b) (replica_of b) (read_action_in v x) (decode_in v b)
  unfolding act_answer_in
  ruled_answer x = rw ok.passes

  pub act_checked : (x : Bytes) → CheckedIn v (act_image_in v b x)
  unfolding act_image_in
  act_checked x = go (same? (act_answer_in v b x) 0)
    where
      go : Same (act_answer_in v b x) 0 → CheckedIn v (cond (eqb (act_answer_in v b x) 0) (acted_by_in v b (read_action_in v x)) b)
      go (same p q) = rw q (acted_checked (read_action_in v x) (read_narrow v x) (sym (ruled_answer x) ∙ p))
      go (other p q) = rw q ok

  -- And so does a merge, whatever bytes are handed over.
  pub merge_checked : (d : Bytes) → Octets d → CheckedIn v (merge_images_in v b d)
  unfolding merge_images_in merged_image_in
  merge_checked d od = go (same? (merge_images_answer_in v b d) 0)
    where
      go : Same (merge_images_answer_in v b d) 0 → CheckedIn v (cond (eqb (merge_images_answer_in v b d) 0) (merged_image_in v b d) b)
      go (same p q) =
          let okd : CheckedIn v d = record { octets = od; passes = (merge_passed v b d p).1 } in
          rw q (encode_checked (home_of b) (homes_homed b ok) (replica_of b) (replica_below b ok) _ (merged_holds b d ok okd p))
      go (other p q) = rw q ok

-- An accepted empty image passes the check, whatever stood in the buffer.
pub empty_checked : (v : Version) (b : Bytes) (r : ℕ) (homes : List ℕ) → empty_answer_in v b r homes ≡ 0 → CheckedIn v (empty_image_in v b r homes)
unfolding empty_image_in empty_answer_in encode_in
empty_checked v b r homes e =
    let p = and_left (ltb r replica_count) _ (not_false _ (pass _ tt e 1)) in
    let q = and_right (ltb r replica_count) (every8 (λ u. ltb (eight_at homes u) replica_count)) (not_false _ (pass _ tt e 1)) in
    let hm : Homes home = record { below = λ u k. below u k (every_8 (λ w. ltb (eight_at homes w) replica_count) q u k); beyond = λ u k. get_or-eq_default (eight_of (eight_at homes)) 0 k } in
    rw e (encode_checked home hm r (ltb_lt r replica_count p) empty (empty_holds v home))
  where
    home : ℕ → ℕ
    home = eight_at (eight_of (eight_at homes))

    below : (u : ℕ) → u < user_count → ltb (eight_at homes u) replica_count ≡ true → home u < replica_count
    below u k z = rw (eight_at_lem (eight_at homes) u k) (ltb_lt (eight_at homes u) replica_count z)

-- The empty image of a home table is accepted on each replica, and is that of the empty ledger.
module _ (v : Version) (home : ℕ → ℕ) (hm : Homes home) (b : Bytes) (r : ℕ) (r8 : r < replica_count) (n : length b ≡ image_size_in v) where
  pub empty_accepted : empty_answer_in v b r (eight_of home) ≡ 0
  unfolding empty_answer_in first
  empty_accepted = rw (n, eqb_self (image_size_in v), ltb_true r replica_count r8, of_every8 (λ u. ltb (eight_at (eight_of home) u) replica_count) (λ u k. rw (eight_at_lem home u k) (ltb_true (home u) replica_count (hm.below u k))))

  pub empty_is : empty_image_in v b r (eight_of home) ≡ encode_in v home r empty
  unfolding empty_image_in encode_in
  empty_is = rw empty_accepted
