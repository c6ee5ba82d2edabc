-- The library of version 1 as it was delivered: its images have no rule, so that none of what version 2 adds to the image check and to the join ever speaks there.
use mathlib.Core.Path.{◌≡◌, refl}
use mathlib.Core.Bool.{Bool, true, false, not, cond}
use mathlib.Core.List.{[], ◌∷◌}
use Prim.Native.Nat.{ℕ}
use lib.Dec.{eqb}
use lib.ListN.{length}
use Rattle.format.specs.Layout.{v1, image_size_in, group_count, expense_count, equal_rule}
use Rattle.format.specs.Bytes.{Bytes, group_of, group_part_in}
use Rattle.rules.specs.Tests.{all_of, every8, every_below, first}
use Rattle.rules.specs.Ledger.{nobody, group_absent}
use Rattle.rules.specs.Sound.{a_rule, rule_fits, rules_fit}
use Rattle.rules.specs.Merge.{rules_agree, agree, merge_answer}
use Rattle.images.specs.Meaning.{counters_of, rule_in}
use Rattle.images.specs.Image.{read_group, read_rule, decode_in, sound_part_in, mark_ok, version_ok_in, header_ok, image_check_in}
use Rattle.rules.proofs.Basics.{clash, Less, less, more, less?, ltb_true}
use Rattle.rules.proofs.Sound.{of_every_below}

-- A group of a version 1 image, and two of them.
fits_one : (f : ℕ → ℕ) → rule_fits f (rule_in v1 f 0) ≡ true
fits_one f = go (nobody f)
  where
    go : (b : Bool) → cond b (eqb (cond b 0 equal_rule) 0) (a_rule (cond b 0 equal_rule)) ≡ true
    go true = refl
    go false = refl

agree_one : (a b : Bool) → rules_agree (cond a 0 equal_rule) (cond b 0 equal_rule) ≡ true
agree_one true b = refl
agree_one false true = refl
agree_one false false = refl

pub rules_fit_lem : (b : Bytes) → rules_fit (decode_in v1 b) ≡ true
unfolding rules_fit decode_in read_rule read_group
rules_fit_lem b = of_every_below group_count (λ g. rule_fits ((decode_in v1 b).counter g) ((decode_in v1 b).rule g)) (λ g k. rw (ltb_true g group_count k) (fits_one (counters_of (group_of (group_part_in v1 b g)))))

rules_agree_lem : (b d : Bytes) → every_below group_count (λ g. rules_agree ((decode_in v1 b).rule g) ((decode_in v1 d).rule g)) ≡ true
unfolding decode_in read_rule
rules_agree_lem b d = of_every_below group_count (λ g. rules_agree ((decode_in v1 b).rule g) ((decode_in v1 d).rule g))
    (λ g k. rw (ltb_true g group_count k) (agree_one (nobody (counters_of (group_of (group_part_in v1 b g)))) (nobody (counters_of (group_of (group_part_in v1 d g))))))

-- A present group is under rule 1.
pub rule_one : (b : Bytes) (g : ℕ) → group_absent (decode_in v1 b) g ≡ false → (decode_in v1 b).rule g ≡ equal_rule
unfolding decode_in read_rule read_group every8 all_of
rule_one b g h = go (less? g group_count)
  where
    go : Less g group_count → (decode_in v1 b).rule g ≡ equal_rule
    go (less k e) = let z : nobody (counters_of (group_of (group_part_in v1 b g))) ≡ false = rw e at h in rw (e, z)
    go (more k e) = let z : nobody (λ u. 0) ≡ false = rw e at h in absurd (clash refl z)

-- The image check of document 01: "1 length; 2 mark; 3 version; 4 header; 5 any unsound cost."
pub check_one : (b : Bytes) → image_check_in v1 b
    ≡ first ((not (eqb (length b) (image_size_in v1)), 1) ∷ (not (mark_ok b), 2) ∷ (not (version_ok_in v1 b), 3) ∷ (not (header_ok b), 4) ∷ (not (every_below expense_count (sound_part_in v1 b)), 5) ∷ [])
unfolding image_check_in first
check_one b = rw (rules_fit_lem b)

-- And its join: "31 a cost with equal versions differs in more than acknowledgements".
pub merge_one : (b d : Bytes) → merge_answer (decode_in v1 b) (decode_in v1 d) ≡ first ((not (every_below expense_count (λ c. agree ((decode_in v1 b).expense c) ((decode_in v1 d).expense c))), 31) ∷ [])
unfolding merge_answer first
merge_one b d = rw (rules_agree_lem b d)
