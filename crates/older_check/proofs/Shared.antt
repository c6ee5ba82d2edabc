-- The groups of older images: the set of those ever members that a part of version 1 tells, and what version 2 shares with the current version.
use Rattle.std.proofs.Common.{◌≡◌, ℕ, ◌+◌, ◌-◌, ◌<◌, true, false, List, length, take, drop, Option, Some, None, MatchOption, refl, sym, ap, ◌∙◌}
use Rattle.format.specs.Layout.{v1, v2, group_count, group_size_in, group_place_in, image_size_in}
use Rattle.format.specs.Bytes.{Bytes, group_of}
use Rattle.format.proofs.Laws.{handed_group}
use Rattle.images.specs.Meaning.{counters_of}
use Rattle.rules.specs.Sound.{rules_fit}
use Rattle.images.specs.Image.{read_rule, decode, decode_in}
use Rattle.images.proofs.Older.{rules_fit_lem}
use Rattle.images.proofs.Round.{counters_are}
use Rattle.record_check.specs.Sets.{known_set, Knows}
use Rattle.image_check.specs.Versions.{Handed}

pub set_known : (b : Bytes) (g k : ℕ) → g < group_count → k ≡ known_set (counters_of (group_of (take ((group_place_in v1 g + group_size_in v1) - group_place_in v1 g) (drop (group_place_in v1 g) b))))
    → k ≡ known_set ((decode_in v1 b).counter g)
set_known b g k h e = e ∙ ap (λ p. known_set (counters_of (group_of p))) (handed_group v1 b g) ∙ ap known_set (sym (counters_are v1 b g h))

-- Version 2's groups are the current version's: the same counters, the same rules.
same_counters : (b : Bytes) → ◌≡◌ {A = ℕ → ℕ → ℕ} (decode b).counter (decode_in v2 b).counter
unfolding decode_in
same_counters b = refl

same_rules : (b : Bytes) → rules_fit (decode b) ≡ rules_fit (decode_in v2 b)
unfolding rules_fit decode_in read_rule
same_rules b = refl

same_groups : (b : Bytes) (known : Option (List ℕ)) → MatchOption known (rules_fit (decode b) ≡ false) (λ sets. (rules_fit (decode b) ≡ true) × Knows sets (decode b).counter)
    → MatchOption known (rules_fit (decode_in v2 b) ≡ false) (λ sets. (rules_fit (decode_in v2 b) ≡ true) × Knows sets (decode_in v2 b).counter)
same_groups b None m = sym (same_rules b) ∙ m
same_groups b (Some sets) (r, k) = (sym (same_rules b) ∙ r, λ g j. k g j ∙ ap (λ f. known_set (f g)) (same_counters b))

-- What the check is handed of each.
pub handed_1 : (b : Bytes) (sets : List ℕ) → length b ≡ image_size_in v1 → Knows sets (decode_in v1 b).counter → Handed v1 40 1 272 (Some sets) b
handed_1 b sets e k = record { long = e; sized = refl; numbered = refl; placed = refl; groups = (rules_fit_lem b, k) }

pub handed_2 : (b : Bytes) (known : Option (List ℕ)) → length b ≡ image_size_in v2
    → MatchOption known (rules_fit (decode b) ≡ false) (λ sets. (rules_fit (decode b) ≡ true) × Knows sets (decode b).counter) → Handed v2 40 2 304 known b
handed_2 b known e m = record { long = e; sized = refl; numbered = refl; placed = refl; groups = same_groups b known m }
