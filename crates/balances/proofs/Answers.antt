-- The answers of the balances of all groups, over plain variables: from the code's tests, and what is left of the numbers.
use Rattle.std.proofs.Common.{◌≡◌, sym, ap, ◌∙◌, not, cond, List, [], ◌∷◌, ◌≢◌, ℕ, arith, eqb, ℤ, length, eq-eqb, ne_eqb}
use Rattle.format.specs.Layout.{balances_size}
use Rattle.format.specs.Bytes.{Bytes}
use Rattle.rules.specs.Tests.{first}
use Rattle.rules.specs.Together.{all_balances}
use Rattle.images.specs.Image.{decode, image_check}
use Rattle.images.specs.Calls.{balances_answer, balances_left, balances_answer_in, balances_left_in}
use Rattle.rules.proofs.Answers.{first_yes, first_no, first_none}

module _ (b : Bytes) (balances : List ℤ) where
  -- A refusal leaves the numbers.
  left : (k : ℕ) → k ≡ balances_answer b (length balances) → k ≢ 0 → (k ≡ balances_answer b (length balances)) × (balances ≡ balances_left b balances)
  unfolding balances_left_in
  left k e z = (e, ap (λ t. cond t (all_balances (decode b)) balances) (sym (ne_eqb (balances_answer b (length balances)) 0 (λ w. z (e ∙ w)))))

  pub refused_image : (k : ℕ) → k ≡ image_check b → k ≢ 0 → (k ≡ balances_answer b (length balances)) × (balances ≡ balances_left b balances)
  unfolding balances_answer_in
  refused_image k q z = left k (rw (ne_eqb (image_check b) 0 (λ w. z (q ∙ w))) q) z

  module _ (sound : image_check b ≡ 0) where
    own : (k : ℕ) → k ≡ first ((not (eqb (length balances) balances_size), 32) ∷ []) → k ≡ balances_answer b (length balances)
    unfolding balances_answer_in
    own k e = rw (eq-eqb (image_check b) 0 sound) e

    pub refused_count : length balances ≢ balances_size → (32 ≡ balances_answer b (length balances)) × (balances ≡ balances_left b balances)
    refused_count y = left 32 (own 32 (first_yes _ _ _ (ap not (ne_eqb (length balances) balances_size y)))) (λ z. omega arith)

    pub granted : length balances ≡ balances_size → (out : List ℤ) → out ≡ all_balances (decode b) → (0 ≡ balances_answer b (length balances)) × (out ≡ balances_left b balances)
    unfolding balances_left_in
    granted y out e =
        let a : 0 ≡ balances_answer b (length balances) = own 0 (first_no _ _ _ _ (ap not (eq-eqb (length balances) balances_size y)) first_none) in
        (a, e ∙ ap (λ t. cond t (all_balances (decode b)) balances) (sym (eq-eqb (balances_answer b (length balances)) 0 (sym a))))
