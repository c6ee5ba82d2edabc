-- The parts of both rules, as a member would ask: they sum to the gifts where a member is left, and are 0 where none is; a non-member gets
-- nothing, nor does by use who has no weight; of two members of the same weight the lower number gets as much or a cent more.
-- Rule 1 is rule 2 with a weight of 1 for each user (equally-by-ones), so that its laws follow from those of rule 2 (ByUse).
use mathlib.Core.Path.{◌≡◌, refl, sym, ap, ◌∙◌}
use mathlib.Core.Bool.{Bool, true, false, cond, ◌&&◌}
use mathlib.Core.Logic.{◌≢◌}
use Prim.Native.Nat.{ℕ, ◌+◌, ◌*◌, ◌/◌, ◌%◌, ◌≤◌, ◌<◌}
use native.Mathlib.Omega.{arith}
use native.Mathlib.Nat.{mod-add-div', mul-one}
use lib.Dec.{ltb, eqb}
use borrow.Author.Tests.{eq-eqb, ne_eqb}
use Rattle.format.specs.Layout.{use_rule}
use Rattle.rules.proofs.Basics.{Same, same, other, same?, Less, less, more, less?, ltb_true, ltb_false}
use Rattle.rules.proofs.Sums.{sum8_same, sum8_times, below_sum}
use Rattle.rules.proofs.ByUse.{by_use_all, by_use_weightless, by_use_fair}
use Rattle.rules.specs.Tests.{number, only, sum8}
use Rattle.rules.specs.Parts.{sum_over, members_in, rank_in, part_equally, weights_in, largest, quotient, remainder, left_over, part_by_use, part_in}

-- Rule 1 is rule 2 with a weight of 1 for each user.
same_each : (p : ℕ → Bool) (n : ℕ) → sum_over p (λ u. n) ≡ n * members_in p
unfolding members_in
same_each p n = sum8_same _ _ (λ u _. go (p u)) ∙ sum8_times n (λ u. number (p u))
  where
    go : (b : Bool) → only b n ≡ n * number b
    go true = omega arith
    go false = omega arith

module _ (p : ℕ → Bool) (gifts : ℕ) (w : ℕ → ℕ) (h : (u : ℕ) → u < 8 → w u ≡ 1) where
  weights_ones : weights_in p w ≡ members_in p
  unfolding weights_in members_in
  weights_ones =
      let a = sum8_same _ _ (λ u k. ap (only (p u)) (h u k)) in
      let b = same_each p 1 in
      omega arith

  quotient_ones : (u : ℕ) → u < 8 → quotient p gifts w u ≡ gifts / members_in p
  unfolding quotient
  quotient_ones u k = rw (h u k, weights_ones, mul-one)

  remainder_ones : (u : ℕ) → u < 8 → remainder p gifts w u ≡ gifts % members_in p
  unfolding remainder
  remainder_ones u k = rw (h u k, weights_ones, mul-one)

  left_ones : left_over p gifts w ≡ gifts % members_in p
  unfolding left_over
  left_ones =
      let a = sum8_same _ _ (λ u k. ap (only (p u)) (quotient_ones u k)) in
      let b = same_each p (gifts / members_in p) in
      let c = mod-add-div' gifts (members_in p) in
      omega arith

  -- Remainders are equal, so that the lower user number comes first.
  rank_ones : (u : ℕ) → u < 8 → rank_in (largest (remainder p gifts w)) p u ≡ rank_in ltb p u
  unfolding rank_in largest
  rank_ones u k =
      let r : ℕ → ℕ = remainder p gifts w in
      sum8_same _ _
      (λ v j. ap (λ b. only (cond b (ltb v u) (ltb (r u) (r v))) (number (p v))) (eq-eqb (r v) (r u) (remainder_ones v j ∙ sym (remainder_ones u k))))

  pub equally_by_ones : (u : ℕ) → u < 8 → part_by_use p gifts w u ≡ part_equally p gifts u
  unfolding part_by_use part_equally
  equally_by_ones u k = rw (quotient_ones u k, rank_ones u k, left_ones)

module _ (p : ℕ → Bool) (gifts : ℕ) where
  one_each : (u : ℕ) → u < 8 → part_by_use p gifts (λ v. 1) u ≡ part_equally p gifts u
  one_each = equally_by_ones p gifts (λ v. 1) (λ v k. refl)

  pub equally_all : 0 < members_in p → sum8 (part_equally p gifts) ≡ gifts
  equally_all h = sym (sum8_same _ _ one_each) ∙ by_use_all p gifts (λ v. 1) (rw (weights_ones p gifts (λ v. 1) (λ v k. refl)) h)

  pub equally_fair : (u v : ℕ) → u < v → v < 8 → p u ≡ true → p v ≡ true → (part_equally p gifts v ≤ part_equally p gifts u) × (part_equally p gifts u ≤ part_equally p gifts v + 1)
  equally_fair u v k j a b =
      let f = by_use_fair p gifts (λ x. 1) u v refl k a b in
      let x = one_each u (omega arith) in
      let y = one_each v j in
      (omega arith, omega arith)

-- The parts of either rule.
module _ (p : ℕ → Bool) (gifts : ℕ) (w : ℕ → ℕ) (rule : ℕ) where
  -- By use under rule 2 where a member has a weight above zero, else equally.
  choice : (b : Bool) → (eqb rule use_rule && ltb 0 (weights_in p w)) ≡ b → (u : ℕ) → part_in p gifts w rule u ≡ cond b (part_by_use p gifts w u) (part_equally p gifts u)
  unfolding part_in
  choice b e u = ap (λ c. cond c (part_by_use p gifts w u) (part_equally p gifts u)) e

  pub used_by_use : rule ≡ use_rule → 0 < weights_in p w → (u : ℕ) → part_in p gifts w rule u ≡ part_by_use p gifts w u
  used_by_use e k = choice true (rw (eq-eqb rule use_rule e, ltb_true 0 (weights_in p w) k))

  pub unused_equally : weights_in p w ≡ 0 → (u : ℕ) → part_in p gifts w rule u ≡ part_equally p gifts u
  unused_equally e = choice false (rw (ltb_false 0 (weights_in p w) (omega arith)) (go (eqb rule use_rule)))
    where
      go : (b : Bool) → (b && false) ≡ false
      go true = refl
      go false = refl

  pub other_equally : rule ≢ use_rule → (u : ℕ) → part_in p gifts w rule u ≡ part_equally p gifts u
  other_equally n = choice false (rw (ne_eqb rule use_rule n))

  data Chosen : Type 0 where
    by_use : 0 < weights_in p w → ((u : ℕ) → part_in p gifts w rule u ≡ part_by_use p gifts w u) → Chosen
    equally : ((u : ℕ) → part_in p gifts w rule u ≡ part_equally p gifts u) → Chosen

  chosen : Chosen
  chosen = go (same? rule use_rule) (less? 0 (weights_in p w))
    where
      go : Same rule use_rule → Less 0 (weights_in p w) → Chosen
      go (same e _) (less k _) = by_use k (used_by_use e k)
      go (same e _) (more k _) = equally (unused_equally (omega arith))
      go (other n _) d = equally (other_equally n)

  -- With a member left the parts sum to the gifts.
  pub parts_all : 0 < members_in p → sum8 (part_in p gifts w rule) ≡ gifts
  parts_all h = go chosen
    where
      go : Chosen → sum8 (part_in p gifts w rule) ≡ gifts
      go (by_use k e) = sum8_same _ _ (λ u _. e u) ∙ by_use_all p gifts w k
      go (equally e) = sum8_same _ _ (λ u _. e u) ∙ equally_all p gifts h

  -- "non-members 0"
  pub outsider_none : (u : ℕ) → p u ≡ false → part_in p gifts w rule u ≡ 0
  unfolding part_by_use part_equally
  outsider_none u e = go chosen
    where
      go : Chosen → part_in p gifts w rule u ≡ 0
      go (by_use k f) = f u ∙ rw e
      go (equally f) = f u ∙ rw e

  -- With no member left all parts are 0.
  pub part_none : members_in p ≡ 0 → (u : ℕ) → u < 8 → part_in p gifts w rule u ≡ 0
  unfolding members_in
  part_none h u k = outsider_none u (go (p u) (below_sum (λ v. number (p v)) u k))
    where
      go : (b : Bool) → number b ≤ members_in p → b ≡ false
      go true l = absurd (omega arith)
      go false l = refl

  pub parts_none : members_in p ≡ 0 → sum8 (part_in p gifts w rule) ≡ 0
  parts_none h = sum8_same _ (λ u. 0) (part_none h)

  -- A part is at most the gifts.
  pub part_le : (u : ℕ) → u < 8 → part_in p gifts w rule u ≤ gifts
  part_le u k = go (less? 0 (members_in p))
    where
      go : Less 0 (members_in p) → part_in p gifts w rule u ≤ gifts
      go (less h _) = let a = parts_all h in let b = below_sum (part_in p gifts w rule) u k in omega arith
      go (more h _) = let a = part_none (omega arith) u k in omega arith

  -- Of two members of the same weight, the lower number gets as much as the higher, or a cent more.
  pub parts_fair : (u v : ℕ) → u < v → v < 8 → p u ≡ true → p v ≡ true → w u ≡ w v
      → (part_in p gifts w rule v ≤ part_in p gifts w rule u) × (part_in p gifts w rule u ≤ part_in p gifts w rule v + 1)
  parts_fair u v k j a b s = go chosen
    where
      go : Chosen → (part_in p gifts w rule v ≤ part_in p gifts w rule u) × (part_in p gifts w rule u ≤ part_in p gifts w rule v + 1)
      go (by_use _ e) = rw (e u, e v) (by_use_fair p gifts w u v s k a b)
      go (equally e) = rw (e u, e v) (equally_fair p gifts u v k j a b)

-- By use, nobody of weight zero gets a cent while some member has weight.
pub weightless_none : (p : ℕ → Bool) (gifts : ℕ) (w : ℕ → ℕ) → 0 < weights_in p w → (u : ℕ) → w u ≡ 0 → part_in p gifts w use_rule u ≡ 0
weightless_none p gifts w h u e = used_by_use p gifts w use_rule refl h u ∙ by_use_weightless p gifts w h u e
