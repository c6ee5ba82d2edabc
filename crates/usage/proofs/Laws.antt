-- The parts by use, step by step as code makes them: their bounds, and that they are the rules' (ByUse).
use mathlib.Core.Path.{◌≡◌, refl, ap, ◌∙◌}
use mathlib.Core.List.{List}
use Prim.Native.Nat.{ℕ, ◌-◌, ◌*◌, ◌/◌, ◌%◌, ◌≤◌, ◌<◌}
use native.Mathlib.Omega.{arith}
use native.Mathlib.Nat.{mul-le-mul, div-le_self, mod-le}
use Rattle.rules.specs.Ledger.{member_in}
use Rattle.rules.specs.Parts.{sum_over, rank_in, weights_in, largest, quotient, remainder, left_over, part_by_use}
use Rattle.rules.specs.Tests.{eight_at, eight_of}
use Rattle.rules.proofs.ByUse.{quotients_fit}
use Rattle.rules.specs.Tests.{only}
use Rattle.amounts.proofs.Amounts.{eight_bound, only_le, sum8_bound}
use Rattle.std.proofs.Common.{sum}
use Rattle.usage.specs.Usage.{cents_from, by_use_from}

-- Gifts times a weight.
pub product_le : (g w : ℕ) → g ≤ 140_737_488_322_560 → w ≤ 512 → g * w ≤ 72_057_594_021_150_720
product_le g w h k = mul-le-mul h k

-- The members' figures together.
pub figures_sum : (f a s : List ℕ) → s ≡ eight_of (λ u. only (member_in (eight_at f) u) (eight_at a u)) → ((v : ℕ) → eight_at a v ≤ 72_057_594_021_150_720)
    → (sum s ≡ sum_over (member_in (eight_at f)) (eight_at a)) × (sum s ≤ 576_460_752_169_205_760)
figures_sum f a s e h =
    let m : (u : ℕ) → only (member_in (eight_at f) u) (eight_at a u) ≤ 72_057_594_021_150_720 = λ u. only_le (member_in (eight_at f) u) (eight_at a u) 72_057_594_021_150_720 (h u) in
    let b = sum8_bound (λ u. only (member_in (eight_at f) u) (eight_at a u)) 72_057_594_021_150_720 m in
    let q : sum s ≡ sum_over (member_in (eight_at f)) (eight_at a) = rw e (omega arith) in
    (q, omega arith)

-- Products n, quotients q, remainders r, the sum s of the members' quotients.
module _ (f : List ℕ) (g : ℕ) (w : List ℕ) (t : ℕ) (et : t ≡ sum_over (member_in (eight_at f)) (eight_at w))
    (n : List ℕ) (en : n ≡ eight_of (λ u. g * eight_at w u)) (q : List ℕ) (eq : q ≡ eight_of (λ u. eight_at n u / t)) where
  pub quotients_small : g ≤ 140_737_488_322_560 → ((u : ℕ) → eight_at w u ≤ 512) → (u : ℕ) → eight_at q u ≤ 72_057_594_021_150_720
  quotients_small h k = λ u. rw eq (eight_bound (λ v. eight_at n v / t) 72_057_594_021_150_720 below u)
    where
      below : (v : ℕ) → eight_at n v / t ≤ 72_057_594_021_150_720
      below v =
          let x : eight_at n v ≤ 72_057_594_021_150_720 = rw en (eight_bound (λ y. g * eight_at w y) 72_057_594_021_150_720 (λ y. product_le g (eight_at w y) h (k y)) v) in
          let z = div-le_self (eight_at n v) t in
          omega arith

  pub remainders_small : g ≤ 140_737_488_322_560 → ((u : ℕ) → eight_at w u ≤ 512) → 0 < t → (r : List ℕ) → r ≡ eight_of (λ u. eight_at n u % t) → (u : ℕ) → eight_at r u ≤ 72_057_594_021_150_720
  remainders_small h k p r er = λ u. rw er (eight_bound (λ v. eight_at n v % t) 72_057_594_021_150_720 below u)
    where
      below : (v : ℕ) → eight_at n v % t ≤ 72_057_594_021_150_720
      below v =
          let x : eight_at n v ≤ 72_057_594_021_150_720 = rw en (eight_bound (λ y. g * eight_at w y) 72_057_594_021_150_720 (λ y. product_le g (eight_at w y) h (k y)) v) in
          let z = mod-le (eight_at n v) t in
          omega arith

  quotients_are : q ≡ eight_of (quotient (member_in (eight_at f)) g (eight_at w))
  unfolding quotient weights_in
  quotients_are = eq ∙ (λ i. eight_of (λ u. eight_at (en i) u / et i))

  pub quotients_within : (s : ℕ) → s ≡ sum_over (member_in (eight_at f)) (eight_at q) → 0 < t → s ≤ g
  unfolding weights_in
  quotients_within s es k = rw (es, quotients_are) (quotients_fit (member_in (eight_at f)) g (eight_at w) (rw et at k))

  pub by_use_made : (r : List ℕ) → r ≡ eight_of (λ u. eight_at n u % t) → (s : ℕ) → s ≡ sum_over (member_in (eight_at f)) (eight_at q)
      → cents_from f q r (g - s) ≡ by_use_from f g w
  unfolding cents_from by_use_from part_by_use left_over remainder quotient weights_in rank_in largest
  by_use_made r er s es =
      let fr : r ≡ eight_of (remainder (member_in (eight_at f)) g (eight_at w)) = er ∙ (λ i. eight_of (λ u. eight_at (en i) u % et i)) in
      let fs : s ≡ sum_over (member_in (eight_at f)) (eight_at (eight_of (quotient (member_in (eight_at f)) g (eight_at w)))) = es ∙ ap (λ x. sum_over (member_in (eight_at f)) (eight_at x)) quotients_are in
      (λ i. cents_from f (quotients_are i) (fr i) (g - fs i)) ∙ refl
