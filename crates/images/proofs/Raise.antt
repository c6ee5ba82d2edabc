-- Raising: an older image in a newer version is the image of the same ledger there, and passes the check there; any other image stays as it is.
use mathlib.Core.Path.{◌≡◌, refl, sym, ap, ◌∙◌, subst}
use mathlib.Core.Bool.{Bool, true, false, cond}
use mathlib.Core.Option.{Option, none, some, none-ne-some, some-injective}
use mathlib.Core.Logic.{◌⊎◌, ⊎_elim}
use Prim.Native.Nat.{ℕ, ◌<◌}
use native.Mathlib.Omega.{arith}
use lib.Dec.{eqb}
use lib.ListN.{length}
use Rattle.format.specs.Layout.{Version, v1, v2, v3, current, undated, image_size_in, replica_count}
use Rattle.format.specs.Bytes.{Bytes, Octets}
use Rattle.format.proofs.Laws.{same_size}
use Rattle.rules.specs.Ledger.{Expense, Ledger}
use Rattle.images.specs.Image.{Homes, encode_in, decode_in, replica_of, home_of, image_check_in, CheckedIn}
use Rattle.images.specs.Calls.{older_by, raise_answer_from, raise_answer_in, raised_from, raised_in, raise_image_in}
use Rattle.images.proofs.Range.{Dated, PlainOption, Ruled}
use Rattle.images.proofs.Encoding.{encode_length}
use Rattle.images.proofs.Round.{long, encode_decode}
use Rattle.images.proofs.Encoded.{Holds, replica_is, home_is, decode_is, check_is}
use Rattle.images.proofs.Checked.{encode_checked, replica_below, homes_homed, decoded_holds}

-- The version of an image of version w once it is raised to v: the later of the two.
abbrev pub later : Version → Version → Version
later v1 w = w
later v2 v1 = v2
later v2 v2 = v2
later v2 v3 = v3
later v3 w = v3

-- Every version can be raised to the current one.
pub later_current : (w : Version) → later current w ≡ current
later_current v1 = refl
later_current v2 = refl
later_current v3 = refl

-- An image of version w is older than v, or it is not.
pub data Older (v w : Version) : Type 0 where
  older : older_by v (image_size_in w) ≡ some w → later v w ≡ v → Older v w
  newer : older_by v (image_size_in w) ≡ none → later v w ≡ w → Older v w

pub older? : (v w : Version) → Older v w
older? v1 v1 = newer refl refl
older? v1 v2 = newer refl refl
older? v1 v3 = newer refl refl
older? v2 v1 = older refl refl
older? v2 v2 = newer refl refl
older? v2 v3 = newer refl refl
older? v3 v1 = older refl refl
older? v3 v2 = older refl refl
older? v3 v3 = newer refl refl

older_some : (v w : Version) (n : ℕ) → older_by v n ≡ some w → later v w ≡ v
older_some v1 w n e = absurd (none-ne-some w e)
older_some v2 w n e = go (eqb n (image_size_in v1)) e
  where
    go : (b : Bool) → cond b (some v1) none ≡ some w → later v2 w ≡ v2
    go true p = subst (λ x. later v2 x ≡ v2) (some-injective v1 w p) refl
    go false p = absurd (none-ne-some w p)
older_some v3 w n e = refl

-- What an older version can tell a later one can.
later_ruled : (v w : Version) (f : ℕ → ℕ) (k : ℕ) → Ruled w f k → Ruled (later v w) f k
later_ruled v1 w f k r = r
later_ruled v2 v1 f k r = record { fits = r.fits; kept = refl }
later_ruled v2 v2 f k r = r
later_ruled v2 v3 f k r = r
later_ruled v3 w f k r = record { fits = r.fits; kept = refl }

later_dated : (v w : Version) (d : ℕ) → Dated w d → Dated (later v w) d
later_dated v1 w d h = h
later_dated v2 v1 d h = h
later_dated v2 v2 d h = h
later_dated v2 v3 d h = h
later_dated v3 w d h = refl

later_plain : (v w : Version) (o : Option Expense) → PlainOption w o → PlainOption (later v w) o
later_plain v w none p = tt
later_plain v w (some e) p = record { version32 = p.version32; shares8 = p.shares8; acked8 = p.acked8; dated = later_dated v w e.day p.dated }

pub later_holds : (v w : Version) (home : ℕ → ℕ) (l : Ledger) → Holds w home l → Holds (later v w) home l
later_holds v w home l h =
    let i = h.fit in
    record {
      fit = record { counters16 = i.counters16; groups16 = i.groups16; users8 = i.users8; ruled = λ g. later_ruled v w (l.counter g) (l.rule g) (i.ruled g); expenses512 = i.expenses512; plain = λ c. later_plain v w (l.expense c) (i.plain c) };
      good = h.good;
    }

-- The image of a ledger, raised.
module _ {w : Version} (home : ℕ → ℕ) (hm : Homes home) (r : ℕ) (r8 : r < replica_count) (l : Ledger) (h : Holds w home l) (v : Version) where
  pub raised_is : raised_in v (encode_in w home r l) ≡ encode_in (later v w) home r l
  unfolding raised_in
  raised_is = ap (λ n. raised_from v (older_by v n) (encode_in w home r l)) (encode_length w home r l) ∙ go (older? v w)
    where
      go : Older v w → raised_from v (older_by v (image_size_in w)) (encode_in w home r l) ≡ encode_in (later v w) home r l
      go (older p q) = ap (λ o. raised_from v o (encode_in w home r l)) p ∙ (λ i. encode_in v (home_is home hm r r8 l h i) (replica_is home hm r r8 l h i) (decode_is home hm r r8 l h i)) ∙ ap (λ x. encode_in x home r l) (sym q)
      go (newer p q) = ap (λ o. raised_from v o (encode_in w home r l)) p ∙ ap (λ x. encode_in x home r l) (sym q)

  -- The call's answer: 1 unless the image is older and the buffer has the new length.
  pub raise_older : (d : Bytes) → older_by v (image_size_in w) ≡ some w → raise_answer_in v (encode_in w home r l) d ≡ cond (eqb (length d) (image_size_in v)) 0 1
  unfolding raise_answer_in
  raise_older d p = rw (encode_length w home r l) (ap (λ o. raise_answer_from v o (encode_in w home r l) (length d)) p ∙ ap (λ k. cond (eqb (length d) (image_size_in v)) k 1) (check_is home hm r r8 l h))

  pub raise_newer : (d : Bytes) → older_by v (image_size_in w) ≡ none → raise_answer_in v (encode_in w home r l) d ≡ 1
  unfolding raise_answer_in
  raise_newer d p = rw (encode_length w home r l) (ap (λ o. raise_answer_from v o (encode_in w home r l) (length d)) p)

pub later_self : (v : Version) → later v v ≡ v
later_self v1 = refl
later_self v2 = refl
later_self v3 = refl

-- The latest of three versions; and v, if it is that, is the later of two of them.
later_assoc : (v u w : Version) → later v (later u w) ≡ later (later v u) w
later_assoc v1 u w = refl
later_assoc v2 v1 w = refl
later_assoc v2 v2 v1 = refl
later_assoc v2 v2 v2 = refl
later_assoc v2 v2 v3 = refl
later_assoc v2 v3 w = refl
later_assoc v3 u w = refl

later_below : (v u w : Version) → later v (later u w) ≡ v → later v w ≡ v
later_below v u w e = ap (λ x. later x w) (sym e) ∙ sym (later_assoc v (later u w) w) ∙ ap (later v) (sym (later_assoc u w w) ∙ ap (later u) (later_self w)) ∙ e

-- A checked image, raised to any version: it is checked in the later of the two, and holds the same, under the same header.
module _ {w : Version} (b : Bytes) (ok : CheckedIn w b) (v : Version) where
  raised_encoded : raised_in v b ≡ encode_in (later v w) (home_of b) (replica_of b) (decode_in w b)
  raised_encoded = ap (raised_in v) (sym (encode_decode b ok)) ∙ raised_is (home_of b) (homes_homed b ok) (replica_of b) (replica_below b ok) (decode_in w b) (decoded_holds b ok) v

  raised_holds : Holds (later v w) (home_of b) (decode_in w b)
  raised_holds = later_holds v w (home_of b) (decode_in w b) (decoded_holds b ok)

  pub raised_checked : CheckedIn (later v w) (raised_in v b)
  raised_checked = subst (CheckedIn (later v w)) (sym raised_encoded) (encode_checked (home_of b) (homes_homed b ok) (replica_of b) (replica_below b ok) (decode_in w b) raised_holds)

  pub raised_ledger : decode_in (later v w) (raised_in v b) ≡ decode_in w b
  raised_ledger = ap (decode_in (later v w)) raised_encoded ∙ decode_is (home_of b) (homes_homed b ok) (replica_of b) (replica_below b ok) (decode_in w b) raised_holds

  pub raised_replica : replica_of (raised_in v b) ≡ replica_of b
  raised_replica = ap replica_of raised_encoded ∙ replica_is (home_of b) (homes_homed b ok) (replica_of b) (replica_below b ok) (decode_in w b) raised_holds

  pub raised_home : home_of (raised_in v b) ≡ home_of b
  raised_home = ap home_of raised_encoded ∙ home_is (home_of b) (homes_homed b ok) (replica_of b) (replica_below b ok) (decode_in w b) raised_holds

-- Raised by way of a version u, if version v takes it then, or at once: the same image.
pub raised_between : {w : Version} (b : Bytes) → CheckedIn w b → (u v : Version) → length (raised_in v (raised_in u b)) ≡ image_size_in v → raised_in v (raised_in u b) ≡ raised_in v b
raised_between {w} b ok u v n =
    let twice : raised_in v (raised_in u b) ≡ encode_in (later v (later u w)) (home_of b) (replica_of b) (decode_in w b) =
    ap (raised_in v) (raised_encoded b ok u) ∙ raised_is (home_of b) (homes_homed b ok) (replica_of b) (replica_below b ok) (decode_in w b) (raised_holds b ok u) v in
    let top : later v (later u w) ≡ v = same_size _ v (sym (encode_length (later v (later u w)) (home_of b) (replica_of b) (decode_in w b)) ∙ sym (ap length twice) ∙ n) in
    twice ∙ ap (λ x. encode_in x (home_of b) (replica_of b) (decode_in w b)) (top ∙ sym (later_below v u w top)) ∙ sym (raised_encoded b ok v)

-- The current version takes every image: from 1 to 2 to 3 or from 1 to 3 at once, with the same image.
pub raised_at_once : {w : Version} (b : Bytes) → CheckedIn w b → (u : Version) → raised_in current (raised_in u b) ≡ raised_in current b
raised_at_once {w} b ok u =
    let twice : CheckedIn (later current (later u w)) (raised_in current (raised_in u b)) = raised_checked (raised_in u b) (raised_checked b ok u) current in
    raised_between b ok u current (long (raised_in current (raised_in u b)) twice ∙ ap image_size_in (later_current (later u w)))

-- An image of version 1 or 2 has no days: "65,535 means undated and stands in costs raised from older images".
pub dated_day : {w : Version} (home : ℕ → ℕ) (l : Ledger) → Holds w home l → (c : ℕ) (e : Expense) → l.expense c ≡ some e → Dated w e.day
dated_day {w} home l h c e p = let q : PlainOption w (some e) = subst (PlainOption w) p (h.fit.plain c) in q.dated

pub undated_day : {w : Version} (d : ℕ) → Dated w d → (w ≡ v1) ⊎ (w ≡ v2) → d ≡ undated
undated_day d h o = ⊎_elim (λ p. sym (subst (λ x. Dated x d) p h)) (λ p. sym (subst (λ x. Dated x d) p h)) o

pub raised_day : {w : Version} (b : Bytes) → CheckedIn w b → (w ≡ v1) ⊎ (w ≡ v2) → (v : Version) (c : ℕ) (e : Expense) → (decode_in (later v w) (raised_in v b)).expense c ≡ some e → e.day ≡ undated
raised_day {w} b ok o v c e p = undated_day e.day (dated_day (home_of b) (decode_in w b) (decoded_holds b ok) c e (ap (λ l. l.expense c) (sym (raised_ledger b ok v)) ∙ p)) o

-- What an accepted call leaves in the buffer passes the check of the new version, whatever bytes it was given; and it holds the same crews and costs, with
-- the same replica and home table.
module _ (v : Version) (b : Bytes) (o : Octets b) (d : Bytes) (e : raise_answer_in v b d ≡ 0) where
  pub raised_from_lem : (w : Version) × CheckedIn w b × (older_by v (length b) ≡ some w)
  unfolding raise_answer_in
  raised_from_lem = go (older_by v (length b)) refl e
    where
      go : (p : Option Version) → older_by v (length b) ≡ p → raise_answer_from v p b (length d) ≡ 0 → (w : Version) × CheckedIn w b × (older_by v (length b) ≡ some w)
      go none p z = absurd (omega arith)
      go (some w) p z = (w, record { octets = o; passes = passed (eqb (length d) (image_size_in v)) z }, p)
        where
          passed : (t : Bool) → cond t (image_check_in w b) 1 ≡ 0 → image_check_in w b ≡ 0
          passed true q = q
          passed false q = absurd (omega arith)

  raise_image_lem : raise_image_in v b d ≡ encode_in v (home_of b) (replica_of b) (decode_in raised_from_lem.0 b)
  unfolding raise_image_in raised_in
  raise_image_lem = rw e (ap (λ p. raised_from v p b) raised_from_lem.2)

  raise_holds : Holds v (home_of b) (decode_in raised_from_lem.0 b)
  raise_holds =
      let w = raised_from_lem.0 in
      subst (λ x. Holds x (home_of b) (decode_in w b)) (older_some v w (length b) raised_from_lem.2) (later_holds v w (home_of b) (decode_in w b) (decoded_holds b raised_from_lem.1))

  pub raise_checked : CheckedIn v (raise_image_in v b d)
  raise_checked =
      let ok = raised_from_lem.1 in
      subst (CheckedIn v) (sym raise_image_lem) (encode_checked (home_of b) (homes_homed b ok) (replica_of b) (replica_below b ok) _ raise_holds)

  pub raise_ledger : decode_in v (raise_image_in v b d) ≡ decode_in raised_from_lem.0 b
  raise_ledger = let ok = raised_from_lem.1 in ap (decode_in v) raise_image_lem ∙ decode_is (home_of b) (homes_homed b ok) (replica_of b) (replica_below b ok) _ raise_holds

  pub raise_header : (replica_of (raise_image_in v b d) ≡ replica_of b) × (home_of (raise_image_in v b d) ≡ home_of b)
  raise_header =
      let ok = raised_from_lem.1 in (
        ap replica_of raise_image_lem ∙ replica_is (home_of b) (homes_homed b ok) (replica_of b) (replica_below b ok) _ raise_holds,
        ap home_of raise_image_lem ∙ home_is (home_of b) (homes_homed b ok) (replica_of b) (replica_below b ok) _ raise_holds,
      )
