-- Document 01, 'The action': the ten kinds with the fields that each uses.
use Rattle.std.specs.Prelude.{Bool, [], ◌∷◌, ℕ, ltb}
use Rattle.format.specs.Layout.{user_count, group_count, expense_count}
use Rattle.rules.specs.Tests.{all_of}
use Rattle.rules.specs.Sound.{a_rule, day_fits}

-- Kinds 1 to 10, in this order.
pub data Action : Type 0 where
  found : (actor group rule : ℕ) → Action
  add : (actor other group : ℕ) → Action
  leave : (actor group : ℕ) → Action
  enter : (actor expense : ℕ) (shares : ℕ → ℕ) (day : ℕ) → Action
  put_in : (actor group expense : ℕ) → Action
  take_out : (actor group expense : ℕ) → Action
  change : (actor expense : ℕ) (shares : ℕ → ℕ) (day : ℕ) → Action
  delete : (actor expense : ℕ) → Action
  acknowledge : (actor expense : ℕ) → Action
  absorb : (actor other expense : ℕ) → Action

unfoldable pub actor : Action → ℕ
actor (found a g k) = a
actor (add a o g) = a
actor (leave a g) = a
actor (enter a c s day) = a
actor (put_in a g c) = a
actor (take_out a g c) = a
actor (change a c s day) = a
actor (delete a c) = a
actor (acknowledge a c) = a
actor (absorb a o c) = a

-- "actor, 0 to 7; other user, 0 to 7; crew, 0 to 15; cost, 0 to 511"; "Founding a crew takes rule 1 or 2"; "Kinds 4 and 7 carry the day"
unfoldable pub fields_fit : Action → Bool
fields_fit (found a g k) = all_of (ltb a user_count ∷ ltb g group_count ∷ a_rule k ∷ [])
fields_fit (add a o g) = all_of (ltb a user_count ∷ ltb o user_count ∷ ltb g group_count ∷ [])
fields_fit (leave a g) = all_of (ltb a user_count ∷ ltb g group_count ∷ [])
fields_fit (enter a c s day) = all_of (ltb a user_count ∷ ltb c expense_count ∷ day_fits day ∷ [])
fields_fit (put_in a g c) = all_of (ltb a user_count ∷ ltb g group_count ∷ ltb c expense_count ∷ [])
fields_fit (take_out a g c) = all_of (ltb a user_count ∷ ltb g group_count ∷ ltb c expense_count ∷ [])
fields_fit (change a c s day) = all_of (ltb a user_count ∷ ltb c expense_count ∷ day_fits day ∷ [])
fields_fit (delete a c) = all_of (ltb a user_count ∷ ltb c expense_count ∷ [])
fields_fit (acknowledge a c) = all_of (ltb a user_count ∷ ltb c expense_count ∷ [])
fields_fit (absorb a o c) = all_of (ltb a user_count ∷ ltb o user_count ∷ ltb c expense_count ∷ [])
