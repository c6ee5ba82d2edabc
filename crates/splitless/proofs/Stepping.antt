-- The product's actions and the module's Next: an enabled action is a step of Next, a step of Next is an action (a rejoin kind 2), a merge with oneself is no change.
use mathlib.Core.Path.{◌≡◌, refl, sym, ap, ◌∙◌, subst}
use mathlib.Core.Bool.{Bool, true, false, cond, ◌||◌}
use mathlib.Core.Option.{Option, none, some}
use mathlib.Core.List.{[], ◌∷◌}
use Prim.Native.Nat.{ℕ, ◌≤◌, ◌<◌}
use native.Mathlib.Omega.{arith}
use lib.Dec.{ltb, eqb}
use Rattle.format.specs.Layout.{Version, replica_count, equal_rule}
use Rattle.rules.specs.Tests.{all_of}
use Rattle.rules.specs.Ledger.{Expense, Ledger}
use Rattle.rules.specs.Action.{Action, found, add, leave, enter, put_in, take_out, change, delete, acknowledge, absorb, fields_fit}
use Rattle.rules.specs.Merge.{merge_expense, merge_ledger}
use Rattle.rules.specs.Sound.{day_fits}
use Rattle.rules.proofs.Basics.{ltb_true, ltb_false}
use Rattle.rules.proofs.Theory.{merged_eq, ledger_path, acks_path}
use Rattle.rules.proofs.Accepted.{test, ltb_lt}
use Rattle.rules.proofs.Sound.{of_each}
use Rattle.images.proofs.Range.{Told, told_equal}
use Rattle.splitless.specs.Module as M
use Rattle.splitless.specs.Shown.{show, Enabled, effect}
use Rattle.splitless.proofs.Facts.{numbers_at, numbers_path}
use Rattle.splitless.proofs.Records.{Names, names_fit}
use Rattle.splitless.proofs.Merging.{tie_merge}
use Rattle.splitless.proofs.Rejoining.{rejoin_adds}

-- An enabled action is a step of Next.
pub next_of : (home : ℕ → ℕ) (rid : ℕ) (replicas replicas' : M.Replicas) (a : Action) → rid < replica_count → fields_fit a ≡ true → Enabled home rid replicas a
    → replicas' ≡ M.except replicas rid (effect a (replicas rid)) → M.Next home replicas replicas'
unfolding fields_fit Enabled effect
next_of home rid R R' (found a g n) k fi en e = let f = test _ fi in M.create_group a g rid (ltb_lt a 8 (f 0)) (ltb_lt g 16 (f 1)) k en e
next_of home rid R R' (add a o g) k fi en e = let f = test _ fi in M.add_member a o g rid (ltb_lt a 8 (f 0)) (ltb_lt o 8 (f 1)) (ltb_lt g 16 (f 2)) k en e
next_of home rid R R' (leave a g) k fi en e = let f = test _ fi in M.leave_group a g rid (ltb_lt a 8 (f 0)) (ltb_lt g 16 (f 1)) k en e
next_of home rid R R' (enter a c s day) k fi en e = let f = test _ fi in M.create_expense a s c rid (ltb_lt a 8 (f 0)) (ltb_lt c 512 (f 1)) k en e
next_of home rid R R' (put_in a g c) k fi en e = let f = test _ fi in M.add_expense_to_group a c g rid (ltb_lt a 8 (f 0)) (ltb_lt c 512 (f 2)) (ltb_lt g 16 (f 1)) k en e
next_of home rid R R' (take_out a g c) k fi en e = let f = test _ fi in M.remove_expense_from_group a c g rid (ltb_lt a 8 (f 0)) (ltb_lt c 512 (f 2)) (ltb_lt g 16 (f 1)) k en e
next_of home rid R R' (change a c s day) k fi en e = let f = test _ fi in M.modify_expense_parameters a s c rid (ltb_lt a 8 (f 0)) (ltb_lt c 512 (f 1)) k en e
next_of home rid R R' (delete a c) k fi en e = let f = test _ fi in M.delete_expense a c rid (ltb_lt a 8 (f 0)) (ltb_lt c 512 (f 1)) k en e
next_of home rid R R' (acknowledge a c) k fi en e = let f = test _ fi in M.acknowledge_share a c rid (ltb_lt a 8 (f 0)) (ltb_lt c 512 (f 1)) k en e
next_of home rid R R' (absorb a o c) k fi en e = let f = test _ fi in M.payer_absorbs_left_member_share a c o rid (ltb_lt a 8 (f 0)) (ltb_lt c 512 (f 2)) (ltb_lt o 8 (f 1)) k en e

-- An action's rule or day is one that a record of the version names, and its shares are those of eight users.
abbrev pub Told8 : Version → Action → Type 0
Told8 v (found a g k) = Told v k
Told8 v (add a o g) = Unit {0}
Told8 v (leave a g) = Unit {0}
Told8 v (enter a c s day) = ((u : ℕ) → 8 ≤ u → s u ≡ 0) × Names v day
Told8 v (put_in a g c) = Unit {0}
Told8 v (take_out a g c) = Unit {0}
Told8 v (change a c s day) = ((u : ℕ) → 8 ≤ u → s u ≡ 0) × Names v day
Told8 v (delete a c) = Unit {0}
Told8 v (acknowledge a c) = Unit {0}
Told8 v (absorb a o c) = Unit {0}

-- A step of Next is an enabled action with its fields in range that the acting replica's version can tell, a merge of two replicas, or no change.
pub data Sorted (home : ℕ → ℕ) (version : ℕ → Version) (replicas replicas' : M.Replicas) : Type 0 where
  action : (rid : ℕ) (a : Action) → rid < replica_count → fields_fit a ≡ true → Told8 (version rid) a → Enabled home rid replicas a → replicas' ≡ M.except replicas rid (effect a (replicas rid)) → Sorted home version replicas replicas'
  merging : (r f : ℕ) → r < replica_count → f < replica_count → replicas' ≡ M.except replicas r (M.new_merge_replicas (replicas r) (replicas f)) → Sorted home version replicas replicas'
  nothing : replicas' ≡ replicas → Sorted home version replicas replicas'

two : (a m b n : ℕ) → a < m → b < n → all_of (ltb a m ∷ ltb b n ∷ []) ≡ true
two a m b n x y = of_each _ (ltb_true a m x, (ltb_true b n y, tt))

three : (a m b n c k : ℕ) → a < m → b < n → c < k → all_of (ltb a m ∷ ltb b n ∷ ltb c k ∷ []) ≡ true
three a m b n c k x y z = of_each _ (ltb_true a m x, (ltb_true b n y, (ltb_true c k z, tt)))

numbers_twice : (s : ℕ → ℕ) → M.numbers (M.numbers s) ≡ M.numbers s
numbers_twice s = numbers_path (M.numbers s) s (numbers_at s)

numbers_end : (s : ℕ → ℕ) (u : ℕ) → 8 ≤ u → M.numbers s u ≡ 0
numbers_end s u k = rw (ltb_false u 8 k)

-- The module's step has no day: any will do that the version can tell.
module _ (home : ℕ → ℕ) (version : ℕ → Version) (day : ℕ → ℕ) (named : (rid : ℕ) → Names (version rid) (day rid)) where
  dated : (a c rid : ℕ) → a < 8 → c < 512 → all_of (ltb a 8 ∷ ltb c 512 ∷ day_fits (day rid) ∷ []) ≡ true
  dated a c rid x y = of_each _ (ltb_true a 8 x, (ltb_true c 512 y, (names_fit (version rid) (day rid) (named rid), tt)))

  pub sorted : (replicas replicas' : M.Replicas) → M.Next home replicas replicas' → Sorted home version replicas replicas'
  unfolding fields_fit Enabled effect
  sorted R R' (M.create_group a g rid x y k en e) = action rid (found a g equal_rule) k (of_each _ (ltb_true a 8 x, (ltb_true g 16 y, (refl, tt)))) (told_equal (version rid)) en e
  sorted R R' (M.add_member a o g rid x y z k en e) = action rid (add a o g) k (three a 8 o 8 g 16 x y z) tt en e
  sorted R R' (M.leave_group a g rid x y k en e) = action rid (leave a g) k (two a 8 g 16 x y) tt en e
  sorted R R' (M.create_expense a s c rid x y k en e) =
      action rid (enter a c (M.numbers s) (day rid)) k (dated a c rid x y) (numbers_end s, named rid) (subst (λ f. M.CreateExpense home rid R a f c) (sym (numbers_twice s)) en) (e ∙ ap (λ f. M.except R rid (M.new_create_expense a f c (R rid))) (sym (numbers_twice s)))
  sorted R R' (M.add_expense_to_group a c g rid x y z k en e) = action rid (put_in a g c) k (three a 8 g 16 c 512 x z y) tt en e
  sorted R R' (M.remove_expense_from_group a c g rid x y z k en e) = action rid (take_out a g c) k (three a 8 g 16 c 512 x z y) tt en e
  sorted R R' (M.modify_expense_parameters a s c rid x y k en e) =
      action rid (change a c (M.numbers s) (day rid)) k (dated a c rid x y) (numbers_end s, named rid) (subst (λ f. M.ModifyExpenseParameters home rid R a f c) (sym (numbers_twice s)) en) (e ∙ ap (λ f. M.except R rid (M.new_modify_expense_parameters a f c (R rid))) (sym (numbers_twice s)))
  sorted R R' (M.delete_expense a c rid x y k en e) = action rid (delete a c) k (two a 8 c 512 x y) tt en e
  sorted R R' (M.acknowledge_share a c rid x y k en e) = action rid (acknowledge a c) k (two a 8 c 512 x y) tt en e
  sorted R R' (M.payer_absorbs_left_member_share a c o rid x y z k en e) = action rid (absorb a o c) k (three a 8 o 8 c 512 x z y) tt en e
  sorted R R' (M.rejoin_to_acknowledge a o g rid x y z k en e) = action rid (add a o g) k (three a 8 o 8 g 16 x y z) tt (rejoin_adds home rid R a o g en) e
  sorted R R' (M.merge_replicas r f x y ne e) = merging r f x y e
  sorted R R' (M.unchanged e) = nothing e

-- Merging a ledger with itself changes nothing.
or_same : (b : Bool) → (b || b) ≡ b
or_same true = refl
or_same false = refl

cond_same : {A : Type 0} (b : Bool) (x : A) → cond b x x ≡ x
cond_same true x = refl
cond_same false x = refl

merge_same : (l : Ledger) → merge_ledger l l ≡ l
merge_same l = ledger_path (merge_ledger l l) l (λ g u. omega arith) (λ g. cond_same (eqb (l.rule g) 0) (l.rule g)) (λ c. go (l.expense c))
  where
    go : (o : Option Expense) → merge_expense o o ≡ o
    go none = refl
    go (some e) = ap some (merged_eq e e refl ∙ acks_path e _ _ (λ w. or_same (e.acknowledged w)))

pub merge_self : (r : ℕ) (l : Ledger) → M.new_merge_replicas (show r l) (show r l) ≡ show r l
merge_self r l = sym (tie_merge r r l l) ∙ ap (show r) (merge_same l)
