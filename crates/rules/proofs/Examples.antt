-- Parts worked out by computing the definitions: eight users by their counters, odd for members, and their weights.
use mathlib.Core.Path.{◌≡◌, refl}
use mathlib.Core.List.{List, [], ◌∷◌}
use Prim.Native.Nat.{ℕ}
use Rattle.format.specs.Layout.{equal_rule, use_rule}
use Rattle.rules.specs.Ledger.{member_in}
use Rattle.rules.specs.Parts.{members_in, rank_in, part_equally, weights_in, largest, quotient, remainder, left_over, part_by_use, part_in}
use Rattle.rules.specs.Tests.{eight_at, eight_of}

parts : (counters : List ℕ) → (gifts : ℕ) → (weights : List ℕ) → (rule : ℕ) → List ℕ
parts f g w n = eight_of (part_in (member_in (eight_at f)) g (eight_at w) n)

-- "C10: gifts 100, three members: 34, 33, 33." It is of rule 1, whatever the weights.
c10 : parts (1 ∷ 1 ∷ 1 ∷ []) 100 (5 ∷ 0 ∷ 7 ∷ []) equal_rule ≡ 34 ∷ 33 ∷ 33 ∷ 0 ∷ 0 ∷ 0 ∷ 0 ∷ 0 ∷ []
unfolding parts part_in part_equally members_in rank_in
c10 = refl

-- By use, of the same weight: a tie of three remainders, and the cent goes to the lowest number.
same_weights : parts (1 ∷ 1 ∷ 1 ∷ []) 100 (1 ∷ 1 ∷ 1 ∷ []) use_rule ≡ 34 ∷ 33 ∷ 33 ∷ 0 ∷ 0 ∷ 0 ∷ 0 ∷ 0 ∷ []
unfolding parts part_in part_by_use rank_in largest weights_in quotient remainder left_over
same_weights = refl

-- 300, 200 and 100 div 6 are 50, 33 and 16; of the remainders 0, 2 and 4 the last is the largest.
larger_remainder : parts (1 ∷ 1 ∷ 1 ∷ []) 100 (3 ∷ 2 ∷ 1 ∷ []) use_rule ≡ 50 ∷ 33 ∷ 17 ∷ 0 ∷ 0 ∷ 0 ∷ 0 ∷ 0 ∷ []
unfolding parts part_in part_by_use rank_in largest weights_in quotient remainder left_over
larger_remainder = refl

-- "When all members' weights are zero, rule 1 applies"; a non-member's weight is none of the members'.
no_weight : parts (1 ∷ 1 ∷ 1 ∷ 2 ∷ []) 100 (0 ∷ 0 ∷ 0 ∷ 9 ∷ []) use_rule ≡ 34 ∷ 33 ∷ 33 ∷ 0 ∷ 0 ∷ 0 ∷ 0 ∷ 0 ∷ []
unfolding parts part_in part_equally members_in rank_in weights_in
no_weight = refl

-- Two cents for a tie of three remainders: the two lower numbers, and nothing for a member of weight zero or a non-member.
two_of_three : parts (2 ∷ 1 ∷ 1 ∷ 1 ∷ 1 ∷ []) 5 (3 ∷ 0 ∷ 1 ∷ 1 ∷ 1 ∷ []) use_rule ≡ 0 ∷ 0 ∷ 2 ∷ 2 ∷ 1 ∷ 0 ∷ 0 ∷ 0 ∷ []
unfolding parts part_in part_by_use rank_in largest weights_in quotient remainder left_over
two_of_three = refl

-- A non-member's weight does not count: 100, 200 and 400 div 7 are 14, 28 and 57, and of the remainders 2, 4 and 1 the second is the largest.
outsider_weight : parts (1 ∷ 3 ∷ 2 ∷ 1 ∷ []) 100 (1 ∷ 2 ∷ 9 ∷ 4 ∷ []) use_rule ≡ 14 ∷ 29 ∷ 0 ∷ 57 ∷ 0 ∷ 0 ∷ 0 ∷ 0 ∷ []
unfolding parts part_in part_by_use rank_in largest weights_in quotient remainder left_over
outsider_weight = refl

-- One member gets all, of whatever weight.
one_member : parts (2 ∷ 2 ∷ 2 ∷ 2 ∷ 2 ∷ 2 ∷ 2 ∷ 1 ∷ []) 101 (4 ∷ 0 ∷ 0 ∷ 0 ∷ 0 ∷ 0 ∷ 0 ∷ 3 ∷ []) use_rule ≡ 0 ∷ 0 ∷ 0 ∷ 0 ∷ 0 ∷ 0 ∷ 0 ∷ 101 ∷ []
unfolding parts part_in part_by_use rank_in largest weights_in quotient remainder left_over
one_member = refl
