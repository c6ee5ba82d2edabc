-- What the pass over the groups finds of one: those who were ever members, where the group's rule fits; else none.
use Rattle.std.proofs.Common.{◌≡◌, ℕ, ◌+◌, ◌*◌, ◌≤◌, ◌<◌, ◌≢◌, Bool, true, false, cond, eqb, List, length, get_or, set, Option, Some, None, is_some, refl, sym, ap, ◌∙◌, arith, get_or-set_same, get_or-set_other, eq-eqb, ne_eqb}
use Rattle.format.specs.Layout.{current, group_count}
use Rattle.format.specs.Bytes.{Bytes, group_of, group_part}
use Rattle.rules.specs.Ledger.{ever_in, nobody}
use Rattle.rules.specs.Sound.{a_rule, rule_fits}
use Rattle.images.specs.Meaning.{bits, counters_of}
use Rattle.images.specs.Image.{decode}
use Rattle.rules.proofs.Basics.{clash, eqb_true, Same, same, other, same?}
use Rattle.images.proofs.Codec.{eight_back}
use Rattle.images.proofs.Round.{group_in_lem, counters_eight}
use Rattle.rules.proofs.Sound.{eqb_other}
use Rattle.sets.proofs.Masks.{nobody_is}
use Rattle.record_check.specs.Sets.{known_set}

-- The rule of group g fits.
abbrev pub fits_at : Bytes → ℕ → Bool
fits_at b g = rule_fits ((decode b).counter g) ((decode b).rule g)

abbrev pub set_of : (ℕ → ℕ) → ℕ → Option ℕ
set_of f k = cond (rule_fits f k) (Some (known_set f)) None

-- The bytes of a group are those of the ledger's.
pub decoded : (b : Bytes) (g : ℕ) → g < group_count → set_of (counters_of (group_of (group_part b g))) (group_of (group_part b g)).rule ≡ set_of ((decode b).counter g) ((decode b).rule g)
decoded b g j =
    ap (λ x. set_of (counters_of x) x.rule) (group_in_lem current b g j) ∙ ap (λ f. set_of f ((decode b).rule g)) (eight_back ((decode b).counter g) (counters_eight current b g))

-- The ways through the test of one group with counters f and rule k.
module _ (f : ℕ → ℕ) (k : ℕ) where
  nobody_none : nobody f ≡ true → known_set f ≡ 0
  nobody_none n = ap (λ x. 256 * x) (eqb_true (bits (ever_in f)) 0 (nobody_is f ∙ n))

  by_nobody : (t : Bool) → nobody f ≡ t → set_of f k ≡ cond (cond t (eqb k 0) (a_rule k)) (Some (known_set f)) None
  by_nobody t n = ap (λ x. cond (cond x (eqb k 0) (a_rule k)) (Some (known_set f)) None) n

  pub absent_unruled : k ≡ 0 → nobody f ≡ true → Some 0 ≡ set_of f k
  absent_unruled z n = sym (by_nobody true n ∙ ap (λ t. cond t (Some (known_set f)) None) (eq-eqb k 0 z) ∙ ap Some (nobody_none n))

  pub present_unruled : k ≡ 0 → nobody f ≡ false → None ≡ set_of f k
  present_unruled z n = sym (by_nobody false n ∙ ap (λ x. cond (a_rule x) (Some (known_set f)) None) z)

  pub no_such_rule : 2 < k → None ≡ set_of f k
  no_such_rule h = sym (go (nobody f) refl)
    where
      go : (t : Bool) → nobody f ≡ t → set_of f k ≡ None
      go true n = by_nobody true n ∙ ap (λ t. cond t (Some (known_set f)) None) (eqb_other k 0 (λ z. omega arith))
      go false n = by_nobody false n ∙ rw (eqb_other k 1 (λ z. omega arith), eqb_other k 2 (λ z. omega arith))

  pub absent_ruled : k ≢ 0 → known_set f ≡ 0 → None ≡ set_of f k
  absent_ruled r e =
      let z : bits (ever_in f) ≡ 0 = omega arith in
      sym (by_nobody true (sym (nobody_is f) ∙ eq-eqb (bits (ever_in f)) 0 z) ∙ ap (λ t. cond t (Some (known_set f)) None) (ne_eqb k 0 r))

  pub present_ruled : k ≢ 0 → k ≤ 2 → known_set f ≢ 0 → Some (known_set f) ≡ set_of f k
  present_ruled r h e = sym (by_nobody false (sym (nobody_is f) ∙ ne_eqb (bits (ever_in f)) 0 (λ z. e (ap (λ x. 256 * x) z))) ∙ ap (λ t. cond t (Some (known_set f)) None) a_rule_lem)
    where
      a_rule_lem : a_rule k ≡ true
      a_rule_lem = go (same? k 1)
        where
          go : Same k 1 → a_rule k ≡ true
          go (same z t) = rw t
          go (other n t) = rw (t, eq-eqb k 2 (omega arith))

  -- What was found tells whether the rule fits.
  pub misfits : None ≡ set_of f k → rule_fits f k ≡ false
  misfits e = go (rule_fits f k) refl
    where
      go : (t : Bool) → rule_fits f k ≡ t → t ≡ false
      go true p = absurd (clash refl (ap is_some (sym (ap (λ t. cond t (Some (known_set f)) None) p) ∙ sym e)))
      go false p = refl

  pub fits : (s : ℕ) → Some s ≡ set_of f k → (rule_fits f k ≡ true) × (s ≡ known_set f)
  fits s e = go (rule_fits f k) refl
    where
      value : Option ℕ → ℕ
      value (Some n) = n
      value None = 0

      go : (t : Bool) → rule_fits f k ≡ t → (rule_fits f k ≡ true) × (s ≡ known_set f)
      go true p = (p, ap value (e ∙ ap (λ t. cond t (Some (known_set f)) None) p))
      go false p = absurd (clash refl (ap is_some (e ∙ ap (λ t. cond t (Some (known_set f)) None) p)))

-- The sets found so far, and one more.
pub known_more : (counter : ℕ → ℕ → ℕ) (sets : List ℕ) (g s : ℕ) → g < length sets → ((i : ℕ) → i < g → get_or sets i 0 ≡ known_set (counter i)) → s ≡ known_set (counter g)
    → (i : ℕ) → i < g + 1 → get_or (set sets g s) i 0 ≡ known_set (counter i)
known_more counter sets g s h before e i k = go (same? i g)
  where
    go : Same i g → get_or (set sets g s) i 0 ≡ known_set (counter i)
    go (same p _) = ap (λ x. get_or (set sets g s) x 0) p ∙ get_or-set_same sets g s 0 h ∙ e ∙ ap (λ x. known_set (counter x)) (sym p)
    go (other n _) = get_or-set_other sets g i s 0 n ∙ before i (omega arith)
