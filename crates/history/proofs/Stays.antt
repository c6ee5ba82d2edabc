-- A checked image stays checked: the laws of images, proofs/Checked, proofs/Raise and proofs/Round, as the one claim of specs/Stays.
use mathlib.Core.Path.{◌≡◌, refl, sym, ap, ◌∙◌}
use mathlib.Core.Bool.{Bool, true, false, cond}
use mathlib.Core.Option.{none, some, none-ne-some, some-injective}
use mathlib.Core.Logic.{◌⊎◌, inl, inr}
use Prim.Native.Nat.{ℕ}
use lib.Dec.{eqb}
use lib.ListN.{length}
use Rattle.format.specs.Layout.{Version, v1, v2, v3, image_size_in, undated}
use Rattle.format.specs.Bytes.{Bytes, Octets}
use Rattle.rules.specs.Ledger.{Expense}
use Rattle.images.specs.Image.{decode_in, home_of, image_check_in}
use Rattle.images.specs.Calls.{older_by, raised_in, raise_answer_from, raise_answer_in, raise_image_in}
use Rattle.rules.proofs.Basics.{eqb_self}
use Rattle.images.proofs.Round.{long, encode_decode}
use Rattle.images.proofs.Checked.{decoded_holds, empty_checked, act_checked, merge_checked}
use Rattle.images.proofs.Raise.{raised_between, dated_day, undated_day, raised_from_lem, raise_checked, raise_ledger, raise_header}
use Rattle.history.specs.Stays.{StaysChecked}

-- The older versions.
older_is : (v : Version) (n : ℕ) (w : Version) → older_by v n ≡ some w → (w ≡ v1) ⊎ (w ≡ v2)
older_is v1 n w e = absurd (none-ne-some w e)
older_is v2 n w e = go (eqb n (image_size_in v1)) e
  where
    go : (t : Bool) → cond t (some v1) none ≡ some w → (w ≡ v1) ⊎ (w ≡ v2)
    go true p = inl (sym (some-injective v1 w p))
    go false p = absurd (none-ne-some w p)
older_is v3 n w e = go (eqb n (image_size_in v1)) (eqb n (image_size_in v2)) e
  where
    go : (t s : Bool) → cond t (some v1) (cond s (some v2) none) ≡ some w → (w ≡ v1) ⊎ (w ≡ v2)
    go true s p = inl (sym (some-injective v1 w p))
    go false true p = inr (sym (some-injective v2 w p))
    go false false p = absurd (none-ne-some w p)

-- Older than a version that is older than v.
older_than : (v u w x : Version) → older_by u (image_size_in w) ≡ some w → older_by v (image_size_in u) ≡ some x → older_by v (image_size_in w) ≡ some w
older_than v v1 w x p q = absurd (none-ne-some w p)
older_than v1 v2 w x p q = absurd (none-ne-some x q)
older_than v2 v2 w x p q = absurd (none-ne-some x q)
older_than v3 v2 v1 x p q = refl
older_than v3 v2 v2 x p q = refl
older_than v3 v2 v3 x p q = absurd (none-ne-some v3 p)
older_than v1 v3 w x p q = absurd (none-ne-some x q)
older_than v2 v3 w x p q = absurd (none-ne-some x q)
older_than v3 v3 w x p q = absurd (none-ne-some x q)

-- What an accepted raising leaves in the buffer.
left : (v : Version) (b d : Bytes) → raise_answer_in v b d ≡ 0 → raise_image_in v b d ≡ raised_in v b
unfolding raise_image_in
left v b d e = rw e

-- Raised to u, and from there to v.
module _ (u v : Version) (b d e f : Bytes) (o : Octets b) (p : raise_answer_in u b d ≡ 0) (q : raise_answer_in v (raise_image_in u b d) e ≡ 0) (n : length f ≡ image_size_in v) where
  abbrev w : Version
  w = (raised_from_lem u b o d p).0

  older : older_by v (length b) ≡ some w
  older =
      let ok = (raised_from_lem u b o d p).1 in
      let between = raise_checked u b o d p in
      let up = raised_from_lem v (raise_image_in u b d) between.octets e q in
      let here : older_by u (image_size_in w) ≡ some w = ap (older_by u) (sym (long b ok)) ∙ (raised_from_lem u b o d p).2 in
      let there : older_by v (image_size_in u) ≡ some up.0 = ap (older_by v) (sym (long (raise_image_in u b d) between)) ∙ up.2 in
      ap (older_by v) (long b ok) ∙ older_than v u w up.0 here there

  at_once : raise_answer_in v b f ≡ 0
  unfolding raise_answer_in
  at_once =
      ap (λ x. raise_answer_from v x b (length f)) older ∙ ap (λ k. cond (eqb k (image_size_in v)) (image_check_in w b) 1) n
      ∙ ap (λ t. cond t (image_check_in w b) 1) (eqb_self (image_size_in v)) ∙ (raised_from_lem u b o d p).1.passes

  same_image : raise_image_in v b f ≡ raise_image_in v (raise_image_in u b d) e
  same_image =
      let between = raise_checked u b o d p in
      let twice : raise_image_in v (raise_image_in u b d) e ≡ raised_in v (raised_in u b) = left v (raise_image_in u b d) e q ∙ ap (raised_in v) (left u b d p) in
      let size : length (raised_in v (raised_in u b)) ≡ image_size_in v = ap length (sym twice) ∙ long _ (raise_checked v (raise_image_in u b d) between.octets e q) in
      left v b f at_once ∙ sym (raised_between b (raised_from_lem u b o d p).1 u v size) ∙ sym twice

undated_raised : (v : Version) (b d : Bytes) → Octets b → raise_answer_in v b d ≡ 0 → (c : ℕ) (e : Expense) → (decode_in v (raise_image_in v b d)).expense c ≡ some e → e.day ≡ undated
undated_raised v b d o p c e q =
    let from = raised_from_lem v b o d p in
    undated_day e.day (dated_day (home_of b) (decode_in from.0 b) (decoded_holds b from.1) c e (ap (λ l. l.expense c) (sym (raise_ledger v b o d p)) ∙ q)) (older_is v (length b) from.0 from.2)

pub stays_checked : StaysChecked
stays_checked = record {
  empty = empty_checked;
  act = λ v b x ok. act_checked b ok x;
  merge = λ v b d ok. merge_checked b ok d;
  raise = λ v b d o e. (
    raise_checked v b o d e,
    (raise_header v b o d e).0,
    (raise_header v b o d e).1,
    λ w p. raise_ledger v b o d e ∙ ap (λ x. decode_in x b) (some-injective (raised_from_lem v b o d e).0 w (sym (raised_from_lem v b o d e).2 ∙ p)),
  );
  raise_twice = λ u v b d e f o p q n. (at_once u v b d e f o p q n, same_image u v b d e f o p q n);
  raise_undated = undated_raised;
  whole = λ v b ok. encode_decode b ok;
}
