-- Ranks as running sums, gifts divided among nobody, the bounds of gifts and parts, and which parts are a rule's.
use mathlib.Core.Path.{◌≡◌, refl, sym, ap, ◌∙◌}
use mathlib.Core.Bool.{Bool, not}
use mathlib.Core.List.{List, [], ◌∷◌}
use mathlib.Core.Logic.{◌≢◌}
use Prim.Native.Nat.{ℕ, ◌+◌, ◌-◌, ◌/◌, ◌%◌, ◌≤◌, ◌<◌}
use native.Mathlib.Omega.{arith}
use native.Mathlib.Nat.{div-zero, mod-zero, div-le_self}
use lib.Dec.{ltb, eqb}
use lib.ListN.{get_or-eq_default}
use Rattle.format.specs.Layout.{use_rule}
use Rattle.format.proofs.Round.{same8}
use Rattle.rules.specs.Tests.{number, eight_at, eight_of}
use Rattle.rules.specs.Ledger.{member_in}
use Rattle.rules.specs.Parts.{sum_over, members_in, rank_in, part_equally, weights_in, part_in}
use Rattle.rules.proofs.Basics.{Less, less, more, less?}
use Rattle.images.proofs.Codec.{eight_at_lem}
use Rattle.rules.proofs.Parts.{used_by_use, unused_equally, other_equally, part_le}
use Rattle.std.proofs.Common.{sum, true, false}
use Rattle.rules.specs.Tests.{sum8}
use Rattle.amounts.proofs.Amounts.{eight_bound, only_le, sum8_bound}
use Rattle.usage.specs.Usage.{by_use_from}
use Rattle.parts.specs.declared.Split.{Split}
use Rattle.parts.specs.Parts.{gift_from, gift_at, gifts_from, ranks_from, equal_at, equal_eight, equal_from, parts_from}

-- Running sums.
pub ranks_are : (p : ℕ → Bool) (a b c d e f g : ℕ)
    → a ≡ number (p 0) → b ≡ number (p 1) → c ≡ number (p 2) → d ≡ number (p 3) → e ≡ number (p 4) → f ≡ number (p 5) → g ≡ number (p 6)
    → ◌≡◌ {A = List ℕ} (0 ∷ a ∷ (a + b) ∷ (a + b + c) ∷ (a + b + c + d) ∷ (a + b + c + d + e) ∷ (a + b + c + d + e + f) ∷ (a + b + c + d + e + f + g) ∷ []) (eight_of (rank_in ltb p))
unfolding rank_in
ranks_are p a b c d e f g p0 p1 p2 p3 p4 p5 p6 =
    same8 (omega arith) (omega arith) (omega arith) (omega arith) (omega arith) (omega arith) (omega arith) (omega arith)

-- Without a member all is left over.
pub split_none : (g m : ℕ) → m ≡ 0 → ◌≡◌ {A = Split} (record { each = 0; rest = g }) (record { each = g / m; rest = g % m })
split_none g m e =
    let x : 0 ≡ g / m = sym (ap (λ t. g / t) e ∙ div-zero g) in
    let y : g ≡ g % m = sym (ap (λ t. g % t) e ∙ mod-zero g) in
    λ i. record { each = x i; rest = y i }

-- Bounds.
pub gifts_small : (f p h g : List ℕ) → g ≡ gifts_from f p h → ((u : ℕ) → eight_at p u ≤ 17_592_186_040_320) → (u : ℕ) → eight_at g u ≤ 17_592_186_040_320
unfolding gifts_from gift_at
gifts_small f p h g e k u =
    rw e (eight_bound (λ u. gift_from (eight_at f u) (eight_at p u) (eight_at h u)) 17_592_186_040_320
    (λ w. only_le (not (eqb (eight_at f w % 2) 1)) (eight_at p w - eight_at h w) 17_592_186_040_320 (let z = k w in omega arith)) u)

pub each_le : (g m : ℕ) (s : Split) → s ≡ record { each = g / m; rest = g % m } → s.each ≤ g
each_le g m s e = let z = div-le_self g m in let y = ap (λ t. t.each) e in omega arith

pub parts_le : (rule : ℕ) (f : List ℕ) (g : ℕ) (w r : List ℕ) → r ≡ parts_from rule f g w → (u : ℕ) → eight_at r u ≤ g
unfolding parts_from
parts_le rule f g w r e u = rw e (go (less? u 8))
  where
    p : ℕ → ℕ
    p = part_in (member_in (eight_at f)) g (eight_at w) rule

    go : Less u 8 → eight_at (eight_of p) u ≤ g
    go (less k _) = rw (eight_at_lem p u k) (part_le (member_in (eight_at f)) g (eight_at w) rule u k)
    go (more k _) = rw (get_or-eq_default (eight_of p) 0 k) (omega arith)

-- The equal parts put together: m members, the split s, the ranks k.
pub equal_made : (f : List ℕ) (g m : ℕ) (s : Split) (k : List ℕ) → m ≡ members_in (member_in (eight_at f)) → s ≡ record { each = g / m; rest = g % m } → k ≡ ranks_from f
    → equal_eight f k s.each s.rest ≡ equal_from f g
unfolding equal_eight equal_at equal_from ranks_from part_equally
equal_made f g m s k em es ek = (λ i. equal_eight f (ek i) (es i).each (es i).rest) ∙ (λ i. equal_eight f (ranks_from f) (g / em i) (g % em i)) ∙ refl

-- Which parts are a rule's: t is the members' total weight.
module _ (rule : ℕ) (f : List ℕ) (g : ℕ) (w : List ℕ) where
  pub parts_other : rule ≢ use_rule → equal_from f g ≡ parts_from rule f g w
  unfolding equal_from parts_from
  parts_other n = sym (λ i. eight_of (λ u. other_equally (member_in (eight_at f)) g (eight_at w) rule n u i))

  module _ (t : ℕ) (et : t ≡ sum_over (member_in (eight_at f)) (eight_at w)) where
    pub parts_unused : t ≡ 0 → equal_from f g ≡ parts_from rule f g w
    unfolding equal_from parts_from weights_in
    parts_unused z = sym (λ i. eight_of (λ u. unused_equally (member_in (eight_at f)) g (eight_at w) rule (sym et ∙ z) u i))

    pub parts_used : rule ≡ use_rule → 0 < t → by_use_from f g w ≡ parts_from rule f g w
    unfolding by_use_from parts_from weights_in
    parts_used e k = sym (λ i. eight_of (λ u. used_by_use (member_in (eight_at f)) g (eight_at w) rule e (rw et at k) u i))

-- How many members there are, as a sum of numbers.
pub members_sum : (f s : List ℕ) → s ≡ eight_of (λ u. number (member_in (eight_at f) u)) → (sum s ≡ members_in (member_in (eight_at f))) × (sum s ≤ 8)
unfolding members_in
members_sum f s e =
    let b = sum8_bound (λ u. number (member_in (eight_at f) u)) 1 (λ u. one (member_in (eight_at f) u)) in
    let q : sum s ≡ sum8 (λ u. number (member_in (eight_at f) u)) = rw e (omega arith) in
    (q, omega arith)
  where
    one : (t : Bool) → number t ≤ 1
    one true = omega arith
    one false = omega arith
