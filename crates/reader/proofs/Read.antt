-- The reader's answer from what its callees ensure, over plain variables.
use Rattle.std.proofs.Common.{◌≡◌, refl, sym, ap, ◌∙◌, ℕ, ◌≤◌, ◌<◌, Bool, true, false, cond, ◌||◌, List, [], ◌∷◌, length, ltb, leb, eqb, arith}
use Rattle.std.proofs.Math.Option.{Option, none, some}
use Rattle.std.specs.Prelude as std
use Rattle.std.specs.Prelude.{Some, None, Result, Ok, Err}
use Rattle.std.specs.Result.{result_unwrap_or}
use borrow.Author.Tests.{eq-eqb, ne_eqb, leb-true}
use Rattle.format.specs.Layout.{current}
use Rattle.format.specs.Bytes.{Bytes, kind_in, actor_in, other_in, group_in, expense_in, rest_in, shares_of}
use Rattle.rules.specs.Action as rule
use Rattle.rules.specs.Tests.{all_of, every8, eight_at}
use Rattle.images.specs.Record.{field, rest_fits, fields_fit_in, kinds, read_action, record_fits_in, read_action_in}
use Rattle.reader.specs.declared.Action.{Action}
use Rattle.reader.specs.declared.Deed.{Deed}
use Rattle.reader.specs.declared.Deed.TheVariants as deed
use Rattle.reader.specs.declared.kind.Kind.{Kind}
use Rattle.reader.specs.declared.kind.Kind.TheVariants.{Found, Add, Leave, Enter, PutIn, TakeOut, Change, Delete, Acknowledge, Absorb}
use Rattle.reader.specs.declared.kind.UnknownKind.{UnknownKind}
use Rattle.reader.specs.Kind.{kind_number, Decodes}
use Rattle.reader.specs.Reading.{deed_meaning, action_meaning, reading_meaning, reading_in, deed_of, kind_of, reading_of}

meant : (b : Bool) (a : ℕ) (x y : Deed) (s : List ℕ) (u v : rule.Action) → deed_meaning a x s ≡ u → deed_meaning a y s ≡ v → deed_meaning a (cond b x y) s ≡ cond b u v
meant true a x y s u v p q = p
meant false a x y s u v p q = q

kind_meant : (k a o g c z : ℕ) (s : List ℕ) → action_meaning (kind_of k a o g c z) s ≡ kinds k a o g c z z (eight_at s)
unfolding kind_of
kind_meant k a o g c z s =
    meant (eqb k 1) a _ _ s _ _ refl (meant (eqb k 2) a _ _ s _ _ refl (meant (eqb k 3) a _ _ s _ _ refl (meant (eqb k 4) a _ _ s _ _ refl (meant (eqb k 5) a _ _ s _ _ refl
    (meant (eqb k 6) a _ _ s _ _ refl (meant (eqb k 7) a _ _ s _ _ refl (meant (eqb k 8) a _ _ s _ _ refl (meant (eqb k 9) a _ _ s _ _ refl refl))))))))

reading_meant : (k a o g c z : ℕ) (t : Bool) (s : List ℕ) → reading_meaning (reading_of k a o g c z t) s ≡ cond (fields_fit_in current k a o g c z t) (some (kinds k a o g c z z (eight_at s))) none
unfolding reading_of
reading_meant k a o g c z t s = go (fields_fit_in current k a o g c z t)
  where
    go : (b : Bool) → reading_meaning (cond b (Some (kind_of k a o g c z)) None) s ≡ cond b (some (kinds k a o g c z z (eight_at s))) none
    go true = ap some (kind_meant k a o g c z s)
    go false = refl

-- With the fields as code has them.
pub reading_is : (x : Bytes) (t : Bool) (c z : ℕ) (r : std.Option Action) → c ≡ expense_in x → z ≡ rest_in x
    → r ≡ reading_of (kind_in x) (actor_in x) (other_in x) (group_in x) c z t → (s : List ℕ) → reading_meaning r s ≡ reading_in x t (eight_at s)
unfolding reading_in
reading_is x t c z r ec ez er s =
    ap (λ y. reading_meaning y s) er
    ∙ reading_meant (kind_in x) (actor_in x) (other_in x) (group_in x) c z t s
    ∙ (λ i. cond (fields_fit_in current (kind_in x) (actor_in x) (other_in x) (group_in x) (ec i) (ez i) t) (some (kinds (kind_in x) (actor_in x) (other_in x) (group_in x) (ec i) (ez i) (ez i) (eight_at s))) none)

-- A number k that no kind has.
module _ (k : ℕ) (h : 1 ≤ k → 10 < k) where
  pub no_fields : (a o g c z : ℕ) (t : Bool) → false ≡ fields_fit_in current k a o g c z t
  unfolding all_of
  no_fields a o g c z t = go (leb 1 k) (leb k 10) refl refl
    where
      go : (p q : Bool) → leb 1 k ≡ p → leb k 10 ≡ q → false ≡ fields_fit_in current k a o g c z t
      go false q ep eq = rw ep refl
      go true false ep eq = rw (ep, eq) refl
      go true true ep eq = absurd (omega (arith, h (leb-true 1 k ep), leb-true k 10 eq))

  pub no_reading : (a o g c z : ℕ) (t : Bool) → None ≡ reading_of k a o g c z t
  unfolding reading_of
  no_reading a o g c z t = λ i. cond (no_fields a o g c z t i) (Some (kind_of k a o g c z)) None

  last_deed : (o g c z : ℕ) → deed.Absorb o c ≡ deed_of k o g c z
  last_deed o g c z =
      rw (
        ne_eqb k 1 (λ e. omega (arith, h)),
        ne_eqb k 2 (λ e. omega (arith, h)),
        ne_eqb k 3 (λ e. omega (arith, h)),
        ne_eqb k 4 (λ e. omega (arith, h)),
        ne_eqb k 5 (λ e. omega (arith, h)),
        ne_eqb k 6 (λ e. omega (arith, h)),
        ne_eqb k 7 (λ e. omega (arith, h)),
        ne_eqb k 8 (λ e. omega (arith, h)),
        ne_eqb k 9 (λ e. omega (arith, h)),
      )
      refl

-- Whatever the number: the kind that stands in for none is the last.
pub deed_is : (k a o g c z : ℕ) (r : Result Kind UnknownKind) → Decodes k r → (d : Deed) → d ≡ deed_of (kind_number (result_unwrap_or r Absorb)) o g c z → record { actor = a; deed = d } ≡ kind_of k a o g c z
unfolding kind_of
deed_is k a o g c z (Ok n) e d ed = ap (λ x. record { actor = a; deed = x }) (ed ∙ ap (λ m. deed_of m o g c z) e)
deed_is k a o g c z (Err n) e d ed = ap (λ x. record { actor = a; deed = x }) (ed ∙ last_deed k e.1 o g c z)

-- The action, or none, by whether the fields fit: f by the number m of the kind that was read.
module _ (k a o g c z : ℕ) (t f : Bool) (m : ℕ) (em : m ≡ k) (e : f ≡ fields_fit_in current m a o g c z t) where
  pub fit_by_number : f ≡ fields_fit_in current k a o g c z t
  fit_by_number = e ∙ ap (λ n. fields_fit_in current n a o g c z t) em

  pub read_yes : f ≡ true → (d : Deed) → d ≡ deed_of m o g c z → Some (record { actor = a; deed = d }) ≡ reading_of k a o g c z t
  unfolding reading_of kind_of
  read_yes h d ed =
      ap (λ x. Some (record { actor = a; deed = x })) (ed ∙ ap (λ n. deed_of n o g c z) em)
      ∙ (λ i. cond ((sym h ∙ fit_by_number) i) (Some (kind_of k a o g c z)) None)

  pub read_no : f ≡ false → None ≡ reading_of k a o g c z t
  unfolding reading_of
  read_no h = λ i. cond ((sym h ∙ fit_by_number) i) (Some (kind_of k a o g c z)) None

pub not_forty : (x : Bytes) → (length x ≡ 40 → ⊥) → none ≡ read_action x
unfolding read_action_in record_fits_in
not_forty x h = rw (ne_eqb (length x) 40 h)

pub read_is : (x : Bytes) (l : List ℕ) (t : Bool) (r : Option rule.Action) → length x ≡ 40 → l ≡ shares_of x → t ≡ every8 (λ u. eqb (eight_at l u) 0)
    → r ≡ reading_in x t (eight_at l) → r ≡ read_action x
unfolding read_action_in record_fits_in reading_in
read_is x l t r h el et er =
    er ∙ rw (eq-eqb (length x) 40 h) (λ i. cond (fields_fit_in current (kind_in x) (actor_in x) (other_in x) (group_in x) (expense_in x) (rest_in x) ((et ∙ ap (λ m. every8 (λ u. eqb (eight_at m u) 0)) el) i))
    (some (kinds (kind_in x) (actor_in x) (other_in x) (group_in x) (expense_in x) (rest_in x) (rest_in x) (eight_at (el i)))) none)

pub eight_shares : (x : Bytes) (l : List ℕ) → l ≡ shares_of x → length l ≡ 8
unfolding shares_of
eight_shares x l e = ap length e

numbered : (k : Kind) → (leb 1 (kind_number k) ≡ true) × (leb (kind_number k) 10 ≡ true)
numbered Found = (refl, refl)
numbered Add = (refl, refl)
numbered Leave = (refl, refl)
numbered Enter = (refl, refl)
numbered PutIn = (refl, refl)
numbered TakeOut = (refl, refl)
numbered Change = (refl, refl)
numbered Delete = (refl, refl)
numbered Acknowledge = (refl, refl)
numbered Absorb = (refl, refl)

pub fits_is : (k : Kind) (a o g c z : ℕ) (t : Bool) (r p q s w other group expense shares : Bool)
    → other ≡ (eqb (kind_number k) 2 || eqb (kind_number k) 10) → group ≡ (leb (kind_number k) 3 || (eqb (kind_number k) 5 || eqb (kind_number k) 6)) → expense ≡ leb 4 (kind_number k) → shares ≡ (eqb (kind_number k) 4 || eqb (kind_number k) 7)
    → p ≡ field other o 8 → q ≡ field group g 16 → s ≡ field expense c 512 → w ≡ rest_fits current (kind_number k) z
    → r ≡ all_of (ltb a 8 ∷ p ∷ q ∷ s ∷ w ∷ (shares || t) ∷ []) → r ≡ fields_fit_in current (kind_number k) a o g c z t
unfolding all_of
fits_is k a o g c z t r p q s w other group expense shares eo eg ee es ep eq en ew e =
    e ∙ (λ i. all_of ((sym (numbered k).0) i ∷ (sym (numbered k).1) i ∷ ltb a 8 ∷ (ep ∙ ap (λ b. field b o 8) eo) i ∷ (eq ∙ ap (λ b. field b g 16) eg) i ∷ (en ∙ ap (λ b. field b c 512) ee) i ∷ ew i ∷ (es i || t) ∷ []))
