-- One number for each user tells the order of the largest remainders: the ranks by these numbers are the rules' ranks.
use mathlib.Core.Path.{◌≡◌, refl, sym, ap, ap₂, ◌∙◌}
use mathlib.Core.Bool.{Bool, true, false, cond}
use mathlib.Core.List.{List}
use Prim.Native.Nat.{ℕ, ◌+◌, ◌-◌, ◌*◌, ◌<◌}
use native.Mathlib.Omega.{arith}
use lib.Dec.{ltb, eqb}
use Rattle.format.proofs.Round.{same8}
use Rattle.rules.specs.Tests.{number, only, eight_at, eight_of}
use Rattle.amounts.proofs.Amounts.{sum8_bound}
use Rattle.std.proofs.Common.{sum, ◌≤◌}
use Rattle.rules.specs.Ledger.{member_in}
use Rattle.rules.specs.Parts.{rank_in, largest}
use Rattle.rules.proofs.Basics.{Same, same, other, same?, Less, less, more, less?, ltb_true, ltb_false}
use Rattle.images.proofs.Codec.{eight_at_lem}
use Rattle.rules.proofs.Sums.{sum8_same}
use Rattle.usage.specs.Usage.{key_at, keys_from, rank_by, cents_by, cents_at, cents_from}

-- Of two members the one with the larger number comes first.
order_is : (x y w u : ℕ) → w < 8 → u < 8 → ltb (8 * x + (8 - u)) (8 * y + (8 - w)) ≡ cond (eqb y x) (ltb w u) (ltb x y)
order_is x y w u kw ku = go (same? y x)
  where
    go : Same y x → ltb (8 * x + (8 - u)) (8 * y + (8 - w)) ≡ cond (eqb y x) (ltb w u) (ltb x y)
    go (same p e) = rw e (among (less? w u))
      where
        among : Less w u → ltb (8 * x + (8 - u)) (8 * y + (8 - w)) ≡ ltb w u
        among (less k q) = ltb_true (8 * x + (8 - u)) (8 * y + (8 - w)) (omega arith) ∙ sym q
        among (more k q) = ltb_false (8 * x + (8 - u)) (8 * y + (8 - w)) (omega arith) ∙ sym q
    go (other p e) = rw e (apart (less? x y))
      where
        apart : Less x y → ltb (8 * x + (8 - u)) (8 * y + (8 - w)) ≡ ltb x y
        apart (less k q) = ltb_true (8 * x + (8 - u)) (8 * y + (8 - w)) (omega arith) ∙ sym q
        apart (more k q) = ltb_false (8 * x + (8 - u)) (8 * y + (8 - w)) (omega arith) ∙ sym q

only_none : (b : Bool) → only b 0 ≡ 0
only_none true = refl
only_none false = refl

module _ (f r : List ℕ) where
  -- Whether w comes before a member u; a non-member comes before nobody.
  one_ahead : (w u : ℕ) → w < 8 → u < 8 → member_in (eight_at f) u ≡ true
      → number (ltb (key_at f r u) (key_at f r w)) ≡ only (largest (eight_at r) w u) (number (member_in (eight_at f) w))
  unfolding largest
  one_ahead w u kw ku m = rw m (go (member_in (eight_at f) w))
    where
      go : (t : Bool) → number (ltb (8 * eight_at r u + (8 - u)) (only t (8 * eight_at r w + (8 - w))))
          ≡ only (cond (eqb (eight_at r w) (eight_at r u)) (ltb w u) (ltb (eight_at r u) (eight_at r w))) (number t)
      go false = ap number (ltb_false (8 * eight_at r u + (8 - u)) 0 (omega arith)) ∙ sym (only_none (cond (eqb (eight_at r w) (eight_at r u)) (ltb w u) (ltb (eight_at r u) (eight_at r w))))
      go true = ap number (order_is (eight_at r u) (eight_at r w) w u kw ku) ∙ as_number (cond (eqb (eight_at r w) (eight_at r u)) (ltb w u) (ltb (eight_at r u) (eight_at r w)))
        where
          as_number : (b : Bool) → number b ≡ only b 1
          as_number true = refl
          as_number false = refl

  ranks_are : (u : ℕ) → u < 8 → member_in (eight_at f) u ≡ true → rank_by (keys_from f r) (eight_at (keys_from f r) u) ≡ rank_in (largest (eight_at r)) (member_in (eight_at f)) u
  unfolding rank_in keys_from rank_by
  ranks_are u k m = sum8_same _ _ (λ w j. ap₂ (λ x y. number (ltb x y)) (eight_at_lem (key_at f r) u k) (eight_at_lem (key_at f r) w j) ∙ one_ahead w u j k m)

  cents_are : (q : List ℕ) (k : List ℕ) (left u n : ℕ) → u < 8 → k ≡ keys_from f r → n ≡ only (member_in (eight_at f) u) (eight_at q u + number (ltb (rank_by k (eight_at k u)) left)) → n ≡ cents_at f q r left u
  cents_are q k left u n h ek en =
      en ∙ ap (λ l. only (member_in (eight_at f) u) (eight_at q u + number (ltb (rank_by l (eight_at l u)) left))) ek ∙ go (member_in (eight_at f) u) refl
    where
      go : (t : Bool) → member_in (eight_at f) u ≡ t → only t (eight_at q u + number (ltb (rank_by (keys_from f r) (eight_at (keys_from f r) u)) left))
          ≡ only t (eight_at q u + number (ltb (rank_in (largest (eight_at r)) (member_in (eight_at f)) u) left))
      go false e = refl
      go true e = ap (λ n. eight_at q u + number (ltb n left)) (ranks_are u h e)

  pub cents_made : (q : List ℕ) (k : List ℕ) (left : ℕ) (xs : List ℕ) → k ≡ keys_from f r
      → xs ≡ eight_of (cents_by f q k left) → xs ≡ cents_from f q r left
  unfolding cents_from cents_by
  cents_made q k left xs e h =
      h
      ∙ same8
      (cents_are q k left 0 _ (omega arith) e refl)
      (cents_are q k left 1 _ (omega arith) e refl)
      (cents_are q k left 2 _ (omega arith) e refl)
      (cents_are q k left 3 _ (omega arith) e refl)
      (cents_are q k left 4 _ (omega arith) e refl)
      (cents_are q k left 5 _ (omega arith) e refl)
      (cents_are q k left 6 _ (omega arith) e refl)
      (cents_are q k left 7 _ (omega arith) e refl)

-- How many come before, as a sum of numbers.
pub ahead_sum : (k : List ℕ) (mine : ℕ) (s : List ℕ) → s ≡ eight_of (λ w. number (ltb mine (eight_at k w))) → (sum s ≡ rank_by k mine) × (sum s ≤ 8)
unfolding rank_by
ahead_sum k mine s e =
    let b = sum8_bound (λ w. number (ltb mine (eight_at k w))) 1 (λ w. one (ltb mine (eight_at k w))) in
    let q : sum s ≡ rank_by k mine = rw e (omega arith) in
    (q, omega arith)
  where
    one : (t : Bool) → number t ≤ 1
    one true = omega arith
    one false = omega arith
