-- Ranks in an order, whichever it is: for every k, exactly k of the members have a rank below k, or all of them where they are fewer;
-- who comes first has no larger rank. It rests on the laws of sums alone.
use mathlib.Core.Path.{◌≡◌, refl, sym, ap, ◌∙◌}
use mathlib.Core.Bool.{Bool, true, false}
use mathlib.Core.Logic.{◌≢◌}
use Prim.Native.Nat.{ℕ, zero, suc, ◌+◌, ◌-◌, min, ◌≤◌, ◌<◌}
use native.Mathlib.Omega.{arith}
use lib.Dec.{ltb}
use Rattle.rules.proofs.Basics.{clash, false_of, Less, less, more, less?, ltb_same}
use Rattle.rules.proofs.Sums.{sum_same, sum_le, sum_less, sum_8, sum8_le}
use Rattle.rules.specs.Tests.{number, only, sum_below}
use Rattle.rules.specs.Parts.{sum_over, rank_in, members_in}

-- Nobody comes before himself; who comes before one comes before all that come after him; of two, one comes before the other.
pub record Order (before : ℕ → ℕ → Bool) : Type 0 where
  pub self : (u : ℕ) → before u u ≡ false
  pub chain : (u v w : ℕ) → before u v ≡ true → before v w ≡ true → before u w ≡ true
  pub total : (u v : ℕ) → u ≢ v → before u v ≡ false → before v u ≡ true

only_le_only : (a b : Bool) (n : ℕ) → (a ≡ true → b ≡ true) → only a n ≤ only b n
only_le_only true b n h = rw (h refl) (omega arith)
only_le_only false b n h = omega arith

module _ (before : ℕ → ℕ → Bool) (order : Order before) (p : ℕ → Bool) where
  -- The rank among the members below n.
  unfoldable rank_to : ℕ → ℕ → ℕ
  rank_to n u = sum_below n (λ w. only (before w u) (number (p w)))

  -- Who comes before v has no larger rank than v; a smaller one where he is a member himself.
  ahead_le : (u v : ℕ) → before u v ≡ true → (w : ℕ) → only (before w u) (number (p w)) ≤ only (before w v) (number (p w))
  ahead_le u v h w = only_le_only (before w u) (before w v) (number (p w)) (λ e. order.chain w u v e h)

  pub rank_first : (u v : ℕ) → before u v ≡ true → rank_in before p u ≤ rank_in before p v
  unfolding rank_in
  rank_first u v h = sum8_le _ _ (λ w _. ahead_le u v h w)

  rank_le : (n u v : ℕ) → before u v ≡ true → rank_to n u ≤ rank_to n v
  unfolding rank_to
  rank_le n u v h = sum_le n _ _ (λ w _. ahead_le u v h w)

  rank_less : (n u v : ℕ) → u < n → p u ≡ true → before u v ≡ true → rank_to n u < rank_to n v
  unfolding rank_to
  rank_less n u v k m h = sum_less n _ _ u k (rw (order.self u, h, m) (omega arith)) (λ w _. ahead_le u v h w)

  -- The members below n, and those of a rank below k.
  count : ℕ → ℕ
  count n = sum_below n (λ u. number (p u))

  placed : ℕ → ℕ → ℕ
  placed n k = sum_below n (λ u. only (p u) (number (ltb (rank_to n u) k)))

  others : ℕ → ℕ → ℕ
  others n k = sum_below n (λ u. only (p u) (number (ltb (rank_to (suc n) u) k)))

  rank_count : (n u : ℕ) → rank_to n u ≤ count n
  unfolding rank_to count
  rank_count n u = sum_le n _ _ (λ w _. only_le_only (before w u) true (number (p w)) (λ _. refl))

  -- One member more, whose rank is m: those before him keep their rank, which is below m; those after him go up by one from m or more.
  module _ (n : ℕ) (new : p n ≡ true) where
    next_rank : (u : ℕ) → rank_to (suc n) u ≡ rank_to n u + only (before n u) 1
    unfolding rank_to sum_below
    next_rank u = rw new

    own_rank : rank_to (suc n) n ≡ rank_to n n
    own_rank = next_rank n ∙ rw (order.self n) (omega arith)

    data Side (u : ℕ) : Type 0 where
      ahead : rank_to (suc n) u ≡ rank_to n u → rank_to n u < rank_to n n → Side u
      behind : rank_to (suc n) u ≡ suc (rank_to n u) → rank_to n n ≤ rank_to n u → Side u

    side : (u : ℕ) → u < n → p u ≡ true → Side u
    side u k h = go (before u n) refl
      where
        go : (b : Bool) → before u n ≡ b → Side u
        go true e =
            let f = false_of (before n u) (λ q. clash (order.chain n u n q e) (order.self n)) in
            ahead (next_rank u ∙ rw f (omega arith)) (rank_less n u n k h e)
        go false e =
            let f = order.total u n (λ q. omega arith) e in
            behind (next_rank u ∙ rw f (omega arith)) (rank_le n n u f)

    -- So the others of a rank below k are those of a rank below j before, where j is k up to m, and k - 1 above it.
    others_placed : (j k : ℕ) → ((u : ℕ) → Side u → (rank_to (suc n) u < k → rank_to n u < j) × (rank_to n u < j → rank_to (suc n) u < k)) → others n k ≡ placed n j
    unfolding others placed
    others_placed j k h = sum_same n _ _ (λ u i. go u i (p u) refl)
      where
        go : (u : ℕ) → u < n → (b : Bool) → p u ≡ b → only b (number (ltb (rank_to (suc n) u) k)) ≡ only b (number (ltb (rank_to n u) j))
        go u i true e = let f = h u (side u i e) in ap number (ltb_same _ _ _ _ f.0 f.1)
        go u i false e = refl

    few_placed : (k : ℕ) → k ≤ rank_to n n → others n k ≡ placed n k
    few_placed k l = others_placed k k go
      where
        go : (u : ℕ) → Side u → (rank_to (suc n) u < k → rank_to n u < k) × (rank_to n u < k → rank_to (suc n) u < k)
        go u (ahead e h) = (λ z. omega arith, λ z. omega arith)
        go u (behind e h) = (λ z. omega arith, λ z. omega arith)

    many_placed : (j k : ℕ) → rank_to n n ≤ j → k ≡ suc j → others n k ≡ placed n j
    many_placed j k l s = others_placed j k go
      where
        go : (u : ℕ) → Side u → (rank_to (suc n) u < k → rank_to n u < j) × (rank_to n u < j → rank_to (suc n) u < k)
        go u (ahead e h) = (λ z. omega arith, λ z. omega arith)
        go u (behind e h) = (λ z. omega arith, λ z. omega arith)

    member_more : (k : ℕ) → ((j : ℕ) → placed n j ≡ min j (count n)) → others n k + number (ltb (rank_to (suc n) n) k) ≡ min k (count n + 1)
    member_more k ih = rw own_rank (go (less? (rank_to n n) k))
      where
        go : Less (rank_to n n) k → others n k + number (ltb (rank_to n n) k) ≡ min k (count n + 1)
        go (less l e) = let a = many_placed (k - 1) k (omega arith) (omega arith) in let b = ih (k - 1) in rw e (omega arith)
        go (more l e) = let a = few_placed k l in let b = ih k in let c = rank_count n n in rw e (omega arith)

  -- A non-member more changes no rank.
  same_rank : (n u : ℕ) → p n ≡ false → rank_to (suc n) u ≡ rank_to n u
  unfolding rank_to sum_below
  same_rank n u e = rw e (go (before n u))
    where
      go : (b : Bool) → rank_to n u + only b 0 ≡ rank_to n u
      go true = omega arith
      go false = omega arith

  outsider_more : (n k : ℕ) → p n ≡ false → others n k ≡ placed n k
  unfolding others placed
  outsider_more n k e = sum_same n _ _ (λ u _. ap (λ t. only (p u) (number (ltb t k))) (same_rank n u e))

  one_more : (n k : ℕ) → ((j : ℕ) → placed n j ≡ min j (count n)) → (b : Bool) → p n ≡ b
      → others n k + only b (number (ltb (rank_to (suc n) n) k)) ≡ min k (count n + number b)
  one_more n k ih true e = member_more n e k ih
  one_more n k ih false e = let a = outsider_more n k e in let b = ih k in omega arith

  ranks_below : (n k : ℕ) → placed n k ≡ min k (count n)
  unfolding placed count others sum_below
  ranks_below zero k = omega arith
  ranks_below (suc n) k = one_more n k (ranks_below n) (p n) refl

  -- Exactly k members have a rank below k, or all of them where they are fewer than k.
  pub ranks_taken : (k : ℕ) → sum_over p (λ u. number (ltb (rank_in before p u) k)) ≡ min k (members_in p)
  unfolding placed count rank_to rank_in members_in
  ranks_taken k =
      sum_8 _
      ∙ sum_same 8 _ _ (λ u _. ap (λ t. only (p u) (number (ltb t k))) (sum_8 (λ w. only (before w u) (number (p w)))))
      ∙ ranks_below 8 k
      ∙ ap (min k) (sym (sum_8 (λ u. number (p u))))
