-- When a share counts as acknowledged (document 02, A4), as laws: what callers use in place of the definition's text.
use mathlib.Core.Path.{◌≡◌, refl, ap, ◌∙◌}
use mathlib.Core.Bool.{Bool, true, false, ◌&&◌, ◌||◌}
use mathlib.Core.Logic.{◌≢◌}
use Prim.Native.Nat.{ℕ, ◌≤◌, ◌<◌}
use native.Mathlib.Omega.{arith}
use lib.Dec.{leb, eqb}
use Rattle.format.specs.Layout.{use_rule, small_share}
use Rattle.rules.specs.Balance.{counts_acknowledged}
use Rattle.rules.proofs.Basics.{clash, false_of, or_right}
use Rattle.rules.proofs.Sound.{eqb_other, leb_le, le_leb}

-- "The module remains the comparison for crews of rule 1": there, as under any number but 2, the stored bit decides.
pub counts_stored : (k s : ℕ) (a : Bool) → k ≢ use_rule → counts_acknowledged k s a ≡ a
unfolding counts_acknowledged
counts_stored k s a ne = rw (eqb_other k use_rule ne)

-- "a share of 500 cents or fewer counts as acknowledged"
pub counts_small : (s : ℕ) (a : Bool) → s ≤ small_share → counts_acknowledged use_rule s a ≡ true
unfolding counts_acknowledged
counts_small s a h = ap (λ t. t || a) (le_leb s small_share h)

-- "501 must be acknowledged"
pub counts_large : (k s : ℕ) (a : Bool) → small_share < s → counts_acknowledged k s a ≡ a
unfolding counts_acknowledged
counts_large k s a h = ap (λ t. (eqb k use_rule && t) || a) (false_of (leb s small_share) (λ e. let z = leb_le s small_share e in omega arith)) ∙ go (eqb k use_rule)
  where
    go : (x : Bool) → ((x && false) || a) ≡ a
    go true = refl
    go false = refl

-- What is acknowledged counts so under every rule; and one bit more takes nothing away.
pub counts_acknowledged_lem : (k s : ℕ) (a : Bool) → a ≡ true → counts_acknowledged k s a ≡ true
unfolding counts_acknowledged
counts_acknowledged_lem k s a e = or_right (eqb k use_rule && leb s small_share) a e

pub counts_more : (k s : ℕ) (a b : Bool) → counts_acknowledged k s a ≡ true → counts_acknowledged k s (a || b) ≡ true
unfolding counts_acknowledged
counts_more k s a b e = go (eqb k use_rule && leb s small_share) a e
  where
    go : (x y : Bool) → (x || y) ≡ true → (x || (y || b)) ≡ true
    go true y e = refl
    go false true e = refl
    go false false e = absurd (clash e refl)
