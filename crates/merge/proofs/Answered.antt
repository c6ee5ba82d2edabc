-- The merge's answer and image, over plain variables.
use Rattle.std.proofs.Common.{◌≡◌, refl, sym, ap, ap₂, ◌∙◌, Bool, true, false, not, cond, ◌&&◌, ◌≢◌, ℕ, zero, suc, ◌+◌, ◌<◌, arith, eqb, length, eq-eqb, ne_eqb}
use Rattle.format.specs.Layout.{current, group_count, expense_count, image_size}
use Rattle.format.specs.Bytes.{Bytes, Octets}
use Rattle.rules.specs.Tests.{every8, every_below, first}
use Rattle.rules.specs.Merge.{rules_agree, agree, merge_answer}
use Rattle.images.specs.Image.{Checked, decode, home_of, image_check, image_check_in}
use Rattle.images.specs.Calls.{merge_images_answer, merge_images, merge_images_answer_in, merge_images_in}
use Rattle.images.proofs.Round.{group_in_lem, expense_is}
use Rattle.std.specs.Result.{MatchResult, IsErrAnd, is_ok}
use Rattle.std.specs.declared.result.Result.{Result}
use Rattle.std.specs.declared.result.Result.TheVariants.{Ok, Err}
use Rattle.refusals.specs.declared.Fault.{Fault}
use Rattle.refusals.specs.declared.Refusal.{Refusal}
use Rattle.refusals.specs.declared.Refusal.TheVariants.{Other}
use Rattle.refusals.proofs.AboveZero.{fault_above_zero}
use Rattle.refusals.specs.Numbers.{number, fault_number, code, fault_code}
use Rattle.rules.proofs.Basics.{clash, eqb_true}
use Rattle.rules.proofs.Accepted.{pass, not_false}
use Rattle.merge.specs.Merged.{groups_merged, expenses_merged}
use Rattle.merge.proofs.Ledgers.{merged_image}
use Rattle.agree.specs.Agreed.{rules_agree_at, agree_at}

every_same : (n : ℕ) (p q : ℕ → Bool) → ((i : ℕ) → i < n → p i ≡ q i) → every_below n p ≡ every_below n q
unfolding every_below
every_same zero p q h = refl
every_same (suc n) p q h = ap₂ ◌&&◌ (every_same n p q (λ i k. h i (omega arith))) (h n (omega arith))

-- Nothing is written unless the answer is 0.
pub kept : (b d : Bytes) (r : ℕ) → r ≡ merge_images_answer b d → r ≢ 0 → b ≡ merge_images b d
unfolding merge_images_in
kept b d r p n = rw (ne_eqb (merge_images_answer b d) 0 (λ z. n (p ∙ z)))

-- 1 to 5, and 41 to 45.
pub own_bad : (b d : Bytes) (f : Fault) → fault_number f ≡ image_check b → fault_number f ≡ merge_images_answer b d
unfolding merge_images_answer_in
own_bad b d f p = rw (ne_eqb (image_check b) 0 (λ z. fault_above_zero f (p ∙ z))) p

pub other_bad : (b d : Bytes) (r k : ℕ) → 0 ≡ image_check b → r ≡ image_check d → (k ≡ 40 + r) × (r ≢ 0) → k ≡ merge_images_answer b d
unfolding merge_images_answer_in
other_bad b d r k z p (e, n) =
    let q : 40 + image_check d ≢ 0 = λ e. omega arith in
    rw (← z, ne_eqb (image_check d) 0 (λ e. n (p ∙ e)), ne_eqb (40 + image_check d) 0 q) (e ∙ ap (λ t. 40 + t) p)

-- The answer r of the other image's check, and m, in which its fault says that it is the other's.
abbrev pub Renamed : Result (Unit {0}) Fault → Result (Unit {0}) Refusal → Type 0
Renamed r m = MatchResult r (λ x. m ≡ Ok x) (λ f. IsErrAnd m (λ e. e ≡ Other f))

pub renamed_fault : (r : Result (Unit {0}) Fault) (m : Result (Unit {0}) Refusal) → Renamed r m → (e : Refusal) → m ≡ Err e → (number e ≡ 40 + fault_code r) × (fault_code r ≢ 0)
renamed_fault (Ok x) m h e w = absurd (clash (ap is_ok h) (ap is_ok w))
renamed_fault (Err f) (Ok x) h e w = elim h [ ]
renamed_fault (Err f) (Err k) h e w = (sym (ap code w) ∙ ap number h, fault_above_zero f)

none_renamed : (r : Result (Unit {0}) Fault) (m : Result (Unit {0}) Refusal) → Renamed r m → (x : Unit {0}) → m ≡ Ok x → fault_code r ≡ 0
none_renamed (Ok y) m h x w = refl
none_renamed (Err f) (Ok y) h x w = elim h [ ]
none_renamed (Err f) (Err k) h x w = absurd (clash (ap is_ok w) refl)

-- An image that passes the check has the right length.
pub long : (b : Bytes) → 0 ≡ image_check b → length b ≡ image_size
unfolding image_check_in
long b z = eqb_true (length b) image_size (not_false _ (pass _ tt (sym z) 0))

pub other_passes : (d : Bytes) (r : Result (Unit {0}) Fault) (m : Result (Unit {0}) Refusal) → fault_code r ≡ image_check d → Renamed r m → (x : Unit {0}) → m ≡ Ok x → 0 ≡ image_check d
other_passes d r m p h x w = sym (none_renamed r m h x w) ∙ p

pub both_checked : (b d : Bytes) → Octets b → Octets d → 0 ≡ image_check b → 0 ≡ image_check d → Checked b × Checked d
both_checked b d ob od p q = (record { octets = ob; passes = sym p }, record { octets = od; passes = sym q })

module _ (b d : Bytes) (both : Checked b × Checked d) where
  -- 30.
  pub homes_differ : (h : Bool) → h ≡ every8 (λ u. eqb (home_of b u) (home_of d u)) → h ≡ false → 30 ≡ merge_images_answer b d
  unfolding merge_images_answer_in
  homes_differ h p f = rw (both.0.passes, both.1.passes, sym p ∙ f)

  module _ (h : Bool) (p : h ≡ every8 (λ u. eqb (home_of b u) (home_of d u))) (t : h ≡ true) where
    rules_both : every_below group_count (rules_agree_at b d) ≡ every_below group_count (λ g. rules_agree ((decode b).rule g) ((decode d).rule g))
    unfolding rules_agree_at
    rules_both = every_same group_count _ _ (λ g k. ap₂ (λ x y. rules_agree x.rule y.rule) (group_in_lem current b g k) (group_in_lem current d g k))

    expenses_both : every_below expense_count (agree_at b d) ≡ every_below expense_count (λ c. agree ((decode b).expense c) ((decode d).expense c))
    unfolding agree_at
    expenses_both = every_same expense_count _ _ (λ c k. sym (ap₂ agree (expense_is b both.0 c k) (expense_is d both.1 c k)))

    abbrev all_agree : Bool
    all_agree = every_below group_count (rules_agree_at b d) && every_below expense_count (agree_at b d)

    -- Two tests that give one number are one test.
    one_test : (x y : Bool) → ◌≡◌ {A = ℕ} (cond (not x) 31 (cond (not y) 31 0)) (cond (not (x && y)) 31 0)
    one_test true y = refl
    one_test false y = refl

    answer_is : merge_images_answer b d ≡ cond (not all_agree) 31 0
    unfolding merge_images_answer_in merge_answer first
    answer_is =
        rw (both.0.passes, both.1.passes, sym p ∙ t)
        (one_test (every_below group_count (λ g. rules_agree ((decode b).rule g) ((decode d).rule g))) (every_below expense_count (λ c. agree ((decode b).expense c) ((decode d).expense c)))
        ∙ ap₂ (λ x y. cond (not (x && y)) 31 0) (sym rules_both) (sym expenses_both))

    -- 31.
    pub disagree : (a : Bool) → a ≡ all_agree → a ≡ false → 31 ≡ merge_images_answer b d
    disagree a q f = sym (answer_is ∙ ap (λ x. cond (not x) 31 0) (sym q ∙ f))

    pub agreed : (a : Bool) → a ≡ all_agree → a ≡ true → 0 ≡ merge_images_answer b d
    agreed a q f = sym (answer_is ∙ ap (λ x. cond (not x) 31 0) (sym q ∙ f))

  pub written : (mid out : Bytes) → 0 ≡ merge_images_answer b d → mid ≡ expenses_merged expense_count b d → out ≡ groups_merged group_count mid d → out ≡ merge_images b d
  unfolding merge_images_in
  written mid out z p q = q ∙ ap (λ x. groups_merged group_count x d) p ∙ merged_image b d both.0 both.1 ∙ rw (eq-eqb (merge_images_answer b d) 0 (sym z))
