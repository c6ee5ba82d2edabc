-- Rule 2: the parts by use sum to the gifts where a member has a weight above zero; who has no weight gets nothing; of two members of the
-- same weight the lower number gets as much or a cent more. It rests on the division of each member's product and on ranks (Order).
use mathlib.Core.Path.{◌≡◌, refl, sym, ap, ◌∙◌}
use mathlib.Core.Bool.{Bool, true, false, ◌&&◌}
use mathlib.Core.Logic.{inl, inr}
use Prim.Native.Nat.{ℕ, ◌+◌, ◌*◌, ◌/◌, ◌%◌, min, ◌≤◌, ◌<◌}
use native.Mathlib.Omega.{arith}
use native.Mathlib.Nat.{mod-add-div', mod-lt, mul_comm, mul-add, mul-zero, zero-mod, zero-div, le_of_mul-le-mul_left, lt_of_mul-lt-mul_left}
use lib.Dec.{ltb}
use Rattle.rules.proofs.Basics.{Less, less, more, less?, ltb_false}
use Rattle.rules.proofs.Sums.{sum8_same, sum8_le, sum8_add, sum8_times, below_sum}
use Rattle.rules.proofs.Order.{Order, rank_first, ranks_taken}
use Rattle.rules.proofs.Orders.{by_remainder, is_first}
use Rattle.rules.specs.Tests.{number, only, sum8}
use Rattle.rules.specs.Parts.{sum_over, rank_in, members_in, weights_in, largest, quotient, remainder, left_over, part_by_use}

-- Figures, and one cent more for the members of a rank below k, in whatever order.
with_cents : (before : ℕ → ℕ → Bool) → Order before → (p : ℕ → Bool) (f : ℕ → ℕ) (k : ℕ)
    → sum_over p (λ u. f u + number (ltb (rank_in before p u) k)) ≡ sum_over p f + min k (members_in p)
with_cents before order p f k =
    sum8_same _ _ (λ u _. go (p u) (f u) (number (ltb (rank_in before p u) k)))
    ∙ sum8_add (λ u. only (p u) (f u)) (λ u. only (p u) (number (ltb (rank_in before p u) k)))
    ∙ ap (λ n. sum_over p f + n) (ranks_taken before order p k)
  where
    go : (b : Bool) (m n : ℕ) → only b (m + n) ≡ only b m + only b n
    go true m n = refl
    go false m n = refl

-- More ranks below k, and one cent at most.
cent_le : (i j k : ℕ) → i ≤ j → (number (ltb j k) ≤ number (ltb i k)) × (number (ltb i k) ≤ number (ltb j k) + 1)
cent_le i j k h = go (less? i k) (less? j k)
  where
    go : Less i k → Less j k → (number (ltb j k) ≤ number (ltb i k)) × (number (ltb i k) ≤ number (ltb j k) + 1)
    go (less a e) (less b f) = rw (e, f) (omega arith, omega arith)
    go (less a e) (more b f) = rw (e, f) (omega arith, omega arith)
    go (more a e) (less b f) = absurd (omega arith)
    go (more a e) (more b f) = rw (e, f) (omega arith, omega arith)

module _ (p : ℕ → Bool) (gifts : ℕ) (w : ℕ → ℕ) where
  abbrev t : ℕ
  t = weights_in p w

  abbrev q : ℕ → ℕ
  q = quotient p gifts w

  abbrev r : ℕ → ℕ
  r = remainder p gifts w

  abbrev left : ℕ
  left = left_over p gifts w

  -- Gifts times total weight is total weight times the quotients, and the remainders.
  divided : gifts * t ≡ t * sum_over p q + sum_over p r
  unfolding weights_in quotient remainder
  divided =
      sym (sum8_times gifts (λ u. only (p u) (w u)))
      ∙ sum8_same _ _ (λ u _. go u (p u))
      ∙ sum8_add (λ u. t * only (p u) (q u)) (λ u. only (p u) (r u))
      ∙ ap (λ n. n + sum_over p r) (sum8_times t (λ u. only (p u) (q u)))
    where
      go : (u : ℕ) (b : Bool) → gifts * only b (w u) ≡ t * only b (q u) + only b (r u)
      go u true = omega (arith, mod-add-div' (gifts * w u) t, mul_comm t (gifts * w u / t))
      go u false = omega arith

  module _ (used : 0 < weights_in p w) where
    pub quotients_fit : sum_over p (quotient p gifts w) ≤ gifts
    quotients_fit = let d = divided in le_of_mul-le-mul_left {k = t} (omega (arith, mul_comm gifts t)) used

    -- The remainders together are total weight times the cents left over.
    remainders_are : sum_over p r ≡ t * left
    unfolding left_over
    remainders_are =
        let d = divided in
        let e = mul-add t (sum_over p q) left in
        let f = quotients_fit in
        let g : sum_over p q + left ≡ gifts = omega arith in
        omega (arith, ap (λ n. t * n) g, mul_comm gifts t)

    remainder_below : (u : ℕ) → r u < t
    unfolding remainder
    remainder_below u = mod-lt (gifts * w u) used

    -- Where only the members of a set s have a remainder, each below total weight, fewer cents are left over than they are, or none.
    module _ (s : ℕ → Bool) (h : (u : ℕ) → only (p u) (r u) + number (s u) ≤ t * number (s u)) where
      left_bound : t * left + members_in s ≤ t * members_in s
      unfolding members_in
      left_bound =
          let a = sum8_le _ _ (λ u _. h u) in
          let b = sum8_add (λ u. only (p u) (r u)) (λ u. number (s u)) in
          let c = sum8_times t (λ u. number (s u)) in
          let d = remainders_are in
          omega arith

      left_le : left ≤ members_in s
      left_le = let a = left_bound in le_of_mul-le-mul_left {k = t} (omega arith) used

      left_less : 0 < members_in s → left < members_in s
      left_less k = let a = left_bound in lt_of_mul-lt-mul_left t (omega arith)

    -- The parts sum to the gifts: the members are such a set.
    pub by_use_all : sum8 (part_by_use p gifts w) ≡ gifts
    unfolding part_by_use left_over
    by_use_all =
        let a = with_cents (largest r) (by_remainder r) p q left in
        let b = left_le p (λ u. go u (p u)) in
        let c = quotients_fit in
        omega arith
      where
        go : (u : ℕ) (b : Bool) → only b (r u) + number b ≤ t * number b
        go u true = let z = remainder_below u in omega arith
        go u false = omega arith

    -- The members of a figure above zero are such a set, where a figure of zero leaves no remainder: the weight, and the remainder itself.
    positive_members : (a : ℕ → ℕ) → ((u : ℕ) → a u ≡ 0 → r u ≡ 0) → (u : ℕ) → only (p u) (r u) + number (p u && ltb 0 (a u)) ≤ t * number (p u && ltb 0 (a u))
    positive_members a h u = go (p u) (less? 0 (a u))
      where
        go : (b : Bool) → Less 0 (a u) → only b (r u) + number (b && ltb 0 (a u)) ≤ t * number (b && ltb 0 (a u))
        go true (less k e) = let z = remainder_below u in rw e (omega arith)
        go true (more k e) = let z = h u (omega arith) in rw e (omega arith)
        go false d = omega arith

    weightless_remainder : (u : ℕ) → w u ≡ 0 → r u ≡ 0
    unfolding remainder
    weightless_remainder u e = rw (e, mul-zero gifts, zero-mod)

    -- Total weight is at most total weight for each member of a weight above zero: so there is one.
    weight_le : (u : ℕ) → u < 8 → only (p u) (w u) ≤ t * number (p u && ltb 0 (w u))
    unfolding weights_in
    weight_le u k = go (p u) (less? 0 (w u)) (below_sum (λ v. only (p v) (w v)) u k)
      where
        go : (b : Bool) → Less 0 (w u) → only b (w u) ≤ t → only b (w u) ≤ t * number (b && ltb 0 (w u))
        go true (less j e) h = rw e (omega arith)
        go true (more j e) h = omega arith
        go false d h = omega arith

    some_weighed : 0 < members_in (λ u. p u && ltb 0 (w u))
    unfolding weights_in members_in
    some_weighed =
        let a = sum8_le _ _ weight_le in
        let b = sum8_times t (λ u. number (p u && ltb 0 (w u))) in
        lt_of_mul-lt-mul_left t (omega arith)

    -- Fewer cents are left over than there are members of a weight above zero.
    pub left_few : left_over p gifts w < members_in (λ u. p u && ltb 0 (w u))
    left_few = left_less (λ u. p u && ltb 0 (w u)) (positive_members w weightless_remainder) some_weighed

    -- Who has no remainder gets no cent: all who have one come before him, and they are enough.
    pub no_cent : (u : ℕ) → remainder p gifts w u ≡ 0 → left_over p gifts w ≤ rank_in (largest (remainder p gifts w)) p u
    unfolding rank_in members_in
    no_cent u e =
        let a = left_le (λ v. p v && ltb 0 (r v)) (positive_members r (λ v z. z)) in
        let b = sum8_le _ _ (λ v _. go v (less? 0 (r v)) (p v)) in
        omega arith
      where
        go : (v : ℕ) → Less 0 (r v) → (b : Bool) → number (b && ltb 0 (r v)) ≤ only (largest r v u) (number b)
        go v (less k f) true = rw (f, is_first r v u (inl (omega arith))) (omega arith)
        go v (more k f) true = rw f (omega arith)
        go v d false = omega arith

    -- Who has no weight gets nothing.
    pub by_use_weightless : (u : ℕ) → w u ≡ 0 → part_by_use p gifts w u ≡ 0
    unfolding part_by_use quotient
    by_use_weightless u e = rw (ltb_false _ _ (no_cent u (weightless_remainder u e)), e, mul-zero gifts, zero-div) (go (p u))
      where
        go : (b : Bool) → only b 0 ≡ 0
        go true = refl
        go false = refl

  -- Of two members of the same weight, the lower number gets as much as the higher, or a cent more.
  module _ (u v : ℕ) (e : w u ≡ w v) where
    remainders_same : r u ≡ r v
    unfolding remainder
    remainders_same = ap (λ n. gifts * n % t) e

    quotients_same : q u ≡ q v
    unfolding quotient
    quotients_same = ap (λ n. gifts * n / t) e

    pub by_use_fair : u < v → p u ≡ true → p v ≡ true → (part_by_use p gifts w v ≤ part_by_use p gifts w u) × (part_by_use p gifts w u ≤ part_by_use p gifts w v + 1)
    unfolding part_by_use
    by_use_fair k a b =
        let c = cent_le (rank_in (largest r) p u) (rank_in (largest r) p v) left (rank_first (largest r) (by_remainder r) p u v (is_first r u v (inr (remainders_same, k)))) in
        let d = quotients_same in
        rw (a, b) (omega arith, omega arith)
