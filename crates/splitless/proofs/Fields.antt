-- The fields of the action that a record gives are in range.
use mathlib.Core.Path.{◌≡◌, refl, sym, ap, ◌∙◌}
use mathlib.Core.Bool.{Bool, true, false, cond, ◌||◌}
use mathlib.Core.Option.{none, some, some-ne-none, some-injective}
use Prim.Native.Nat.{ℕ, zero, suc, ◌≤◌, ◌<◌}
use native.Mathlib.Omega.{arith}
use lib.Dec.{leb, eqb}
use lib.ListN.{length}
use Rattle.format.specs.Layout.{Version, v1, v2, v3, undated, last_day, action_size}
use Rattle.format.specs.Bytes.{Bytes, shares_of, kind_in, actor_in, other_in, group_in, expense_in, rest_in}
use Rattle.rules.specs.Action.{Action, fields_fit}
use Rattle.rules.specs.Sound.{a_rule, day_fits}
use Rattle.rules.specs.Tests.{eight_at}
use Rattle.images.specs.Record.{rest_fits, rule_named, day_named, fields_fit_in, record_fits_in, kinds, read_action_in}
use Rattle.rules.proofs.Basics.{clash, and_right, or_left}
use Rattle.rules.proofs.Accepted.{test}
use Rattle.rules.proofs.Sound.{of_each, leb_le}

-- The rule that a founding names is one.
named_rule : (v : Version) (z : ℕ) → rest_fits v 1 z ≡ true → a_rule (rule_named v z) ≡ true
named_rule v1 z h = refl
named_rule v2 z h = h
named_rule v3 z h = h

-- And the day that an expense names is one.
named_day : (v : Version) (k z : ℕ) → eqb k 1 ≡ false → (eqb k 4 || eqb k 7) ≡ true → rest_fits v k z ≡ true → day_fits (day_named v z) ≡ true
named_day v1 k z a b h = refl
named_day v2 k z a b h = refl
named_day v3 k z a b h = or_left (leb z last_day) (eqb z undated) (rw (a, b) at h)

module _ (v : Version) (a o g c z : ℕ) (un : Bool) (s : ℕ → ℕ) where
  none_beyond : (k : ℕ) → 10 < k → fields_fit_in v k a o g c z un ≡ true → ⊥
  none_beyond k j h = let y : k ≤ 10 = leb_le k 10 (test _ h 1) in omega arith

  -- Kind by kind: the tests that each uses are the actor's (2), the other's (3), the group's (4) and the expense's (5).
  kinds_fit : (k : ℕ) → fields_fit_in v k a o g c z un ≡ true → fields_fit (kinds k a o g c (rule_named v z) (day_named v z) s) ≡ true
  unfolding fields_fit
  kinds_fit zero h = absurd (clash (test _ h 0) refl)
  kinds_fit (suc zero) h = of_each _ (test _ h 2, (test _ h 4, (named_rule v z (test _ h 6), tt)))
  kinds_fit (suc (suc zero)) h = of_each _ (test _ h 2, (test _ h 3, (test _ h 4, tt)))
  kinds_fit (suc (suc (suc zero))) h = of_each _ (test _ h 2, (test _ h 4, tt))
  kinds_fit (suc (suc (suc (suc zero)))) h = of_each _ (test _ h 2, (test _ h 5, (named_day v 4 z refl refl (test _ h 6), tt)))
  kinds_fit (suc (suc (suc (suc (suc zero))))) h = of_each _ (test _ h 2, (test _ h 4, (test _ h 5, tt)))
  kinds_fit (suc (suc (suc (suc (suc (suc zero)))))) h = of_each _ (test _ h 2, (test _ h 4, (test _ h 5, tt)))
  kinds_fit (suc (suc (suc (suc (suc (suc (suc zero))))))) h = of_each _ (test _ h 2, (test _ h 5, (named_day v 7 z refl refl (test _ h 6), tt)))
  kinds_fit (suc (suc (suc (suc (suc (suc (suc (suc zero)))))))) h = of_each _ (test _ h 2, (test _ h 5, tt))
  kinds_fit (suc (suc (suc (suc (suc (suc (suc (suc (suc zero))))))))) h = of_each _ (test _ h 2, (test _ h 5, tt))
  kinds_fit (suc (suc (suc (suc (suc (suc (suc (suc (suc (suc zero)))))))))) h = of_each _ (test _ h 2, (test _ h 3, (test _ h 5, tt)))
  kinds_fit (suc (suc (suc (suc (suc (suc (suc (suc (suc (suc (suc n))))))))))) h = absurd (none_beyond (suc (suc (suc (suc (suc (suc (suc (suc (suc (suc (suc n))))))))))) (omega arith) h)

pub read_fits : (v : Version) (x : Bytes) (a : Action) → read_action_in v x ≡ some a → fields_fit a ≡ true
unfolding read_action_in record_fits_in
read_fits v x a e = go (record_fits_in v x) refl
  where
    the : Action
    the = kinds (kind_in x) (actor_in x) (other_in x) (group_in x) (expense_in x) (rule_named v (rest_in x)) (day_named v (rest_in x)) (eight_at (shares_of x))

    go : (b : Bool) → record_fits_in v x ≡ b → fields_fit a ≡ true
    go true p =
        let q : the ≡ a = some-injective the a (sym (ap (λ t. cond t (some the) none) p) ∙ e) in
        let f = kinds_fit v (actor_in x) (other_in x) (group_in x) (expense_in x) (rest_in x) _ (eight_at (shares_of x)) (kind_in x) (and_right (eqb (length x) action_size) _ p) in
        ap fields_fit (sym q) ∙ f
    go false p = absurd (some-ne-none a (sym e ∙ ap (λ t. cond t (some the) none) p))
