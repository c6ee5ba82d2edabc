-- The empty image from what its callees ensure, over plain variables.
use Rattle.std.proofs.Common.{◌≡◌, sym, ap, ◌∙◌, Bool, true, false, not, ◌&&◌, List, ◌≢◌, ℕ, ◌<◌, arith, ltb, length, eq-eqb, ne_eqb}
use lib.Seq.{sets}
use Rattle.format.specs.Layout.{image_size, replica_count}
use Rattle.format.specs.Bytes.{Bytes}
use Rattle.rules.specs.Tests.{every8, eight_at}
use Rattle.images.specs.Image.{header}
use Rattle.images.specs.Calls.{empty_answer, empty_image, empty_answer_in, empty_image_in}
use Rattle.rules.proofs.Answers.{first_yes, first_no, first_none}
use Rattle.blank.specs.Blank.{blanked}
use Rattle.blank.proofs.Blank.{header_then_blanked_is_empty}

module _ (b : Bytes) (r : ℕ) (homes : List ℕ) where
  pub short : length b ≢ image_size → 1 ≡ empty_answer b r homes
  unfolding empty_answer_in
  short n = first_yes _ _ _ (ap not (ne_eqb (length b) image_size n))

  pub misfit : (fits : Bool) → length b ≡ image_size → fits ≡ every8 (λ u. ltb (eight_at homes u) replica_count) → not (ltb r 8 && fits) ≡ true → 4 ≡ empty_answer b r homes
  unfolding empty_answer_in
  misfit fits e h t = first_no _ _ _ _ (ap not (eq-eqb (length b) image_size e)) (first_yes _ _ _ (ap (λ x. not (ltb r 8 && x)) (sym h) ∙ t))

  pub fitting : (fits : Bool) → length b ≡ image_size → fits ≡ every8 (λ u. ltb (eight_at homes u) replica_count) → not (ltb r 8 && fits) ≡ false → 0 ≡ empty_answer b r homes
  unfolding empty_answer_in
  fitting fits e h t = first_no _ _ _ _ (ap not (eq-eqb (length b) image_size e)) (first_no _ _ _ _ (ap (λ x. not (ltb r 8 && x)) (sym h) ∙ t) first_none)

  pub refused : (k : ℕ) → 0 < k → k ≡ empty_answer b r homes → b ≡ empty_image b r homes
  unfolding empty_image_in
  refused k p e = rw (← e, ne_eqb k 0 (omega arith))

  pub laid_out : (h e : Bytes) → 0 ≡ empty_answer b r homes → length b ≡ image_size → h ≡ sets b 0 (header (eight_at homes) r) → e ≡ blanked h → e ≡ empty_image b r homes
  unfolding empty_image_in
  laid_out h e z len eh ee = ee ∙ ap blanked eh ∙ header_then_blanked_is_empty (eight_at homes) r b len ∙ rw (← z)
