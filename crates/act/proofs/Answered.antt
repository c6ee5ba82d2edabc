-- The call's answer and image, over plain variables.
use Rattle.std.proofs.Common.{Result, IsErrAnd, ◌≡◌, refl, sym, ap, ap₂, ◌∙◌, Bool, true, false, not, cond, List, ◌≢◌, ℕ, suc, ◌≤◌, arith, leb, eqb, length, eq-eqb, ne_eqb}
use Rattle.std.proofs.Math.Option.{none, some, get_or}
use Rattle.std.specs.Prelude as std
use Rattle.std.specs.Prelude.{Some, None}
use Rattle.format.specs.Layout.{current, last_day, image_size}
use Rattle.format.specs.Bytes.{Bytes, shares_of, kind_in, actor_in, other_in, group_in, expense_in, rest_in}
use Rattle.rules.specs.Tests.{first, eight_at}
use Rattle.rules.specs.Action as rule
use Rattle.rules.specs.Action.{found, add, leave, enter, put_in, take_out, change, delete, acknowledge, absorb, actor, fields_fit}
use Rattle.rules.specs.Refusal.{checks, answer}
use Rattle.images.specs.Image.{decode, home_of, replica_of, image_check, image_check_in}
use Rattle.rules.specs.Sound.{day_fits}
use Rattle.images.specs.Record.{fields_fit_in, rule_named, day_named, kinds, read_action, record_fits_in, read_action_in}
use Rattle.images.specs.Calls.{act_answer, acted_by_in, act_image, ruled, done, act_answer_in, act_image_in}
use Rattle.rules.proofs.Basics.{eqb_true, eqb_false, and_right}
use Rattle.rules.proofs.Accepted.{test, pass, not_false}
use Rattle.rules.proofs.Sound.{of_each, leb_le}
use Rattle.reader.specs.declared.Action.{Action}
use Rattle.reader.specs.declared.Deed.{Deed}
use Rattle.reader.specs.declared.Deed.TheVariants.{Found, Add, Leave, Enter, PutIn, TakeOut, Change, Delete, Acknowledge, Absorb}
use Rattle.reader.specs.Reading.{deed_meaning, action_meaning, reading_meaning}
use Rattle.refusals.specs.declared.Fault.{Fault}
use Rattle.refusals.specs.declared.Refusal.{Refusal}
use Rattle.refusals.specs.declared.Refusal.TheVariants.{Image}
use Rattle.refusals.specs.Numbers.{fault_number, code}
use Rattle.refusals.proofs.AboveZero.{fault_above_zero}
use Rattle.refusals.proofs.PassedOn.{passed_on}

-- What the reader lets through fits.
fits_cond : (b : Bool) (x y : rule.Action) → (b ≡ true → fields_fit x ≡ true) → (b ≡ false → fields_fit y ≡ true) → fields_fit (cond b x y) ≡ true
fits_cond true x y h k = h refl
fits_cond false x y h k = k refl

up : (m k : ℕ) → m ≤ k → eqb k m ≡ false → suc m ≤ k
up m k h e = let n = eqb_false k m e in omega arith

-- A day that an action may name is one that an expense may have.
day_fits_lem : (d : ℕ) → leb d last_day ≡ true → day_fits d ≡ true
day_fits_lem d h = rw h

module _ (k a o g c z : ℕ) (t : Bool) (s : ℕ → ℕ) (h : fields_fit_in current k a o g c z t ≡ true) where
  is : (j : ℕ) → eqb k j ≡ true → fields_fit_in current j a o g c z t ≡ true
  is j e = rw (eqb_true k j e) at h

  ten : eqb k 1 ≡ false → eqb k 2 ≡ false → eqb k 3 ≡ false → eqb k 4 ≡ false → eqb k 5 ≡ false → eqb k 6 ≡ false → eqb k 7 ≡ false → eqb k 8 ≡ false → eqb k 9 ≡ false
      → fields_fit_in current 10 a o g c z t ≡ true
  ten n1 n2 n3 n4 n5 n6 n7 n8 n9 =
      let p = test _ h in
      let lo = leb_le 1 k (p 0) in
      let hi = leb_le k 10 (p 1) in
      let above : 10 ≤ k = up 9 k (up 8 k (up 7 k (up 6 k (up 5 k (up 4 k (up 3 k (up 2 k (up 1 k lo n1) n2) n3) n4) n5) n6) n7) n8) n9 in
      let e : k ≡ 10 = omega arith in
      rw e at h

  kinds_fit : fields_fit (kinds k a o g c (rule_named current z) (day_named current z) s) ≡ true
  unfolding fields_fit
  kinds_fit =
      fits_cond (eqb k 1) _ _ (λ e. let p = test _ (is 1 e) in of_each _ (p 2, (p 4, (p 6, tt))))
      (λ n1. fits_cond (eqb k 2) _ _ (λ e. let p = test _ (is 2 e) in of_each _ (p 2, (p 3, (p 4, tt))))
      (λ n2. fits_cond (eqb k 3) _ _ (λ e. let p = test _ (is 3 e) in of_each _ (p 2, (p 4, tt)))
      (λ n3. fits_cond (eqb k 4) _ _ (λ e. let p = test _ (is 4 e) in of_each _ (p 2, (p 5, (day_fits_lem z (p 6), tt))))
      (λ n4. fits_cond (eqb k 5) _ _ (λ e. let p = test _ (is 5 e) in of_each _ (p 2, (p 4, (p 5, tt))))
      (λ n5. fits_cond (eqb k 6) _ _ (λ e. let p = test _ (is 6 e) in of_each _ (p 2, (p 4, (p 5, tt))))
      (λ n6. fits_cond (eqb k 7) _ _ (λ e. let p = test _ (is 7 e) in of_each _ (p 2, (p 5, (day_fits_lem z (p 6), tt))))
      (λ n7. fits_cond (eqb k 8) _ _ (λ e. let p = test _ (is 8 e) in of_each _ (p 2, (p 5, tt)))
      (λ n8. fits_cond (eqb k 9) _ _ (λ e. let p = test _ (is 9 e) in of_each _ (p 2, (p 5, tt)))
      (λ n9. let p = test _ (ten n1 n2 n3 n4 n5 n6 n7 n8 n9) in of_each _ (p 2, (p 3, (p 5, tt))))))))))))

abbrev asked : Bytes → rule.Action
asked x = kinds (kind_in x) (actor_in x) (other_in x) (group_in x) (expense_in x) (rule_named current (rest_in x)) (day_named current (rest_in x)) (eight_at (shares_of x))

read_fits : (x : Bytes) (a : rule.Action) → some a ≡ read_action x → fields_fit a ≡ true
unfolding read_action_in record_fits_in
read_fits x a e = go (record_fits_in current x) refl
  where
    go : (b : Bool) → record_fits_in current x ≡ b → fields_fit a ≡ true
    go true h =
        let z : some a ≡ some (asked x) = e ∙ ap (λ t. cond t (some (asked x)) none) h in
        ap (λ m. fields_fit (get_or m a)) z
        ∙ kinds_fit (kind_in x) (actor_in x) (other_in x) (group_in x) (expense_in x) (rest_in x) _ (eight_at (shares_of x)) (and_right (eqb (length x) 40) _ h)
    go false h =
        let z : some a ≡ none = e ∙ ap (λ t. cond t (some (asked x)) none) h in
        let q : ◌≡◌ {A = ℕ} 0 1 = cc in absurd (omega arith)

-- Nothing is written unless the answer is 0.
kept : (b x : Bytes) (r : ℕ) → r ≡ act_answer b x → r ≢ 0 → b ≡ act_image b x
unfolding act_image_in
kept b x r p n = rw (ne_eqb (act_answer b x) 0 (λ z. n (p ∙ z)))

-- An image that passes the check has the right length.
pub long : (b : Bytes) → image_check b ≡ 0 → length b ≡ image_size
unfolding image_check_in
long b p = eqb_true (length b) image_size (not_false _ (pass _ tt p 0))

-- 1 to 5, passed on by `?`.
failed : (b x : Bytes) (k : ℕ) → k ≡ image_check b → k ≢ 0 → k ≡ act_answer b x
unfolding act_answer_in
failed b x k p n = rw (ne_eqb (image_check b) 0 (λ z. n (p ∙ z))) p

pub unchecked : (b x : Bytes) (d : Result (Unit {0}) Refusal) (f : Fault) → IsErrAnd d (λ y. y ≡ Image f) → fault_number f ≡ image_check b → (code d ≡ act_answer b x) × (b ≡ act_image b x)
unchecked b x d f h p =
    let q : fault_number f ≡ act_answer b x = failed b x (fault_number f) p (fault_above_zero f) in
    (passed_on d (Image f) h ∙ q, kept b x (fault_number f) q (fault_above_zero f))

-- Who acts.
actor_is : (a : ℕ) (d : Deed) (s : List ℕ) → a ≡ actor (deed_meaning a d s)
unfolding actor
actor_is a (Found g n) s = refl
actor_is a (Add o g) s = refl
actor_is a (Leave g) s = refl
actor_is a (Enter c d) s = refl
actor_is a (PutIn g c) s = refl
actor_is a (TakeOut g c) s = refl
actor_is a (Change c d) s = refl
actor_is a (Delete c) s = refl
actor_is a (Acknowledge c) s = refl
actor_is a (Absorb o c) s = refl

module _ (b x : Bytes) (ok : image_check b ≡ 0) where
  six : read_action x ≡ none → 6 ≡ act_answer b x
  unfolding act_answer_in answer first
  six z = rw (z, ok)

  pub unread : (r : std.Option Action) (s : List ℕ) → reading_meaning r s ≡ read_action x → r ≡ None → (6 ≡ act_answer b x) × (b ≡ act_image b x)
  unread r s q e = let code : 6 ≡ act_answer b x = six (sym q ∙ ap (λ t. reading_meaning t s) e) in (code, kept b x 6 code (λ z. omega arith))

  -- An action that the record gives.
  module _ (r : std.Option Action) (s : List ℕ) (m : reading_meaning r s ≡ read_action x) (a : Action) (is : r ≡ Some a) where
    p : some (action_meaning a s) ≡ read_action x
    p = sym (ap (λ t. reading_meaning t s) is) ∙ m

    pub fits : fields_fit (action_meaning a s) ≡ true
    fits = read_fits x (action_meaning a s) p

    -- 7, or the kind's own answer.
    rest : (v : rule.Action) → v ≡ action_meaning a s → fields_fit v ≡ true → act_answer b x ≡ cond (eqb (home_of b (actor v)) (replica_of b)) (ruled b v) 7
    unfolding act_answer_in answer first ruled
    rest v q f =
        let z : read_action x ≡ some v = sym p ∙ ap some (sym q) in
        rw (z, ok, f) (go (eqb (home_of b (actor v)) (replica_of b)))
      where
        go : (u : Bool) → cond (not u) 7 (first (checks (replica_of b) v (decode b))) ≡ cond u (first (checks (replica_of b) v (decode b))) 7
        go true = refl
        go false = refl

    module _ (h n : ℕ) (eh : h ≡ home_of b a.actor) (en : n ≡ replica_of b) where
      answer_is : act_answer b x ≡ cond (eqb h n) (ruled b (action_meaning a s)) 7
      answer_is =
          let e : h ≡ home_of b (actor (action_meaning a s)) = eh ∙ ap (home_of b) (actor_is a.actor a.deed s) in
          rest (action_meaning a s) refl fits ∙ sym (ap₂ (λ i j. cond (eqb i j) (ruled b (action_meaning a s)) 7) e en)

      pub elsewhere : h ≢ n → (7 ≡ act_answer b x) × (b ≡ act_image b x)
      elsewhere ne =
          let code : 7 ≡ act_answer b x = sym (answer_is ∙ rw (ne_eqb h n ne)) in
          (code, kept b x 7 code (λ z. omega arith))

      pub performed : (k : ℕ) (out : Bytes) → h ≡ n → k ≡ ruled b (action_meaning a s) → out ≡ done b (action_meaning a s) → (k ≡ act_answer b x) × (out ≡ act_image b x)
      unfolding act_image_in done
      performed k out e q w =
          let all : ruled b (action_meaning a s) ≡ act_answer b x = sym (answer_is ∙ rw (eq-eqb h n e)) in
          (q ∙ all, w ∙ ap₂ (λ t y. cond (eqb t 0) (acted_by_in current b y) b) all p)
