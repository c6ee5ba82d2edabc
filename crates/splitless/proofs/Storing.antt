-- What is known of the gifts that the groups of a replica store, and that every action and the merge keep it. Proved of ledgers:
-- a recalculation stores the gifts of the moment, and where an action leaves the gifts alone, nobody's excess in a group is changed.
use mathlib.Core.Path.{◌≡◌, refl, sym, ap, ◌∙◌, subst}
use mathlib.Core.Bool.{Bool, true, false, not, cond, ◌&&◌}
use mathlib.Core.Option.{Option, none, some}
use mathlib.Core.Logic.{◌⊎◌, inl, inr, ⊎_elim, ◌≢◌}
use Prim.Native.Nat.{ℕ, suc, ◌-◌, ◌%◌, ◌<◌}
use native.Mathlib.Omega.{arith}
use lib.Dec.{eqb}
use lib.IntN.{ℤ}
use Rattle.format.specs.Layout.{equal_rule}
use Rattle.rules.specs.Tests.{sum8, only}
use Rattle.rules.specs.Ledger.{Expense, Ledger, member, group_absent, absent_option, absent, at, in_group}
use Rattle.rules.specs.Sound.{sound}
use Rattle.rules.specs.Balance.{paid_in, held_in, paid, held, gift}
use Rattle.rules.specs.Action.{Action, found, add, leave, enter, put_in, take_out, change, delete, acknowledge, absorb, fields_fit}
use Rattle.rules.specs.Step.{founds, counts, states, apply, gives, ledger_after}
use Rattle.rules.specs.Merge.{merge_ledger}
use Rattle.rules.proofs.Basics.{clash, Same, eqb_true, same?, same, other}
use Rattle.rules.proofs.Accepted.{test, ltb_lt, there_is, not_false}
use Rattle.rules.proofs.Sums.{sum_8}
use Rattle.rules.proofs.Sound.{Good, GoodOption, good_ledger}
use Rattle.splitless.specs.Module as M
use Rattle.splitless.specs.Shown.{shown_group, show, Enabled, effect, Granted, here}
use Rattle.splitless.specs.Stored.{stored_after}
use Rattle.splitless.proofs.Facts.{sum_function}
use Rattle.splitless.proofs.Showing.{absent_zero, shown_counter, none_group, some_group, none_expense, some_expense, ungrouped, of_ungrouped, group_of}
use Rattle.splitless.proofs.Strict.{strict, sound_strict}
use Rattle.splitless.proofs.Raw.{tie_gift}
use Rattle.splitless.proofs.Merging.{merge_absent, tie_merge}
use Rattle.splitless.proofs.Invariants.{never_paid}
use Rattle.splitless.proofs.Owned.{HasGroup, counts_from}
use Rattle.splitless.proofs.Excess.{excess, out_paid, out_held, lone_even, states_excess, absent_out, Apart, merged_own, merged_other}
use Rattle.splitless.proofs.Spread.{Covers}

-- A stored gift n of user u in group g: the user's excess, or nothing for a member.
abbrev pub Held : Ledger → (g u n : ℕ) → Type 0
Held l g u n = (n ≡ excess l g u) ⊎ ((n ≡ 0) × M.IsMember (l.counter g u))

-- So for all users of a group that stores x, and its total is theirs; and so for each group that there is.
pub record KeepsIn (l : Ledger) (g : ℕ) (x : M.GroupGifts) : Type 0 where
  pub sent : (u : ℕ) → u < 8 → Held l g u (x.individual_gifts_sent u)
  pub total : x.total_gifted ≡ sum8 x.individual_gifts_sent

abbrev pub Keeps : Ledger → M.Stored → Type 0
Keeps l s = (g : ℕ) → g < 16 → HasGroup l g → KeepsIn l g (s g)

-- The gifts stay, where nobody's excess is changed and no member leaves.
still : (l l' : Ledger) (g : ℕ) (x : M.GroupGifts) → ((u : ℕ) → u < 8 → excess l' g u ≡ excess l g u) → ((u : ℕ) → u < 8 → M.IsMember (l.counter g u) → M.IsMember (l'.counter g u)) → KeepsIn l g x → KeepsIn l' g x
still l l' g x e m i = record { sent = λ u k. go u k (i.sent u k); total = i.total }
  where
    go : (u : ℕ) → u < 8 → Held l g u (x.individual_gifts_sent u) → Held l' g u (x.individual_gifts_sent u)
    go u k (inl p) = inl (p ∙ sym (e u k))
    go u k (inr p) = inr (p.0, m u k p.1)

-- The gifts of the moment.
held_fresh : (l : Ledger) (g u : ℕ) → Held l g u (gift (strict l) g u)
unfolding gift excess
held_fresh l g u = go (member l g u) refl
  where
    go : (b : Bool) → member l g u ≡ b → Held l g u (only (not b) (paid (strict l) g u - held (strict l) g u))
    go true p = inr (refl, eqb_true (l.counter g u % 2) 1 p)
    go false p = inl refl

total_sent : (grp : M.Group) (balances : ℕ → ℤ) → M.new_total_gifted grp balances ≡ sum8 (M.new_individual_gifts grp balances)
total_sent grp balances = sum_function 8 _ _ (M.new_individual_gifts grp balances) (λ u k. refl) ∙ sym (sum_8 (M.new_individual_gifts grp balances))

recalculated : (r : ℕ) (l : Ledger) (R : M.Replica) → show r l ≡ R → Keeps l (M.RecalcGifts R)
unfolding M.RecalcGifts M.individual_gifts_sent
recalculated r l R e g k there = subst (λ x. KeepsIn l g (M.RecalcGifts x g)) e (record {
  sent = λ u j. subst (Held l g u) (sym (tie_gift r l g k u j)) (held_fresh l g u);
  total = total_sent (M.group (show r l) g) (M.ComputeBalances (M.group (show r l) g) (show r l).recorded_expenses);
})

-- A user who is no member gets another counter.
module _ (l : Ledger) (s : M.Stored) (g o n : ℕ) where
  counted_keeps : HasGroup l g → (¬ M.IsMember (l.counter g o)) → Keeps l s → Keeps (apply (counts g o n) l) s
  unfolding excess paid held
  counted_keeps there out i k k16 now = still l (apply (counts g o n) l) k (s k) (λ u u8. refl) (λ u u8. stays u (same? k g) (same? u o)) (i k k16 before)
    where
      before : HasGroup l k
      before = ⊎_elim (λ q. subst (HasGroup l) (sym q) there) (λ j. j) (counts_from l g o n k now)

      stays : (u : ℕ) → Same k g → Same u o → M.IsMember (l.counter k u) → M.IsMember (cond (eqb k g && eqb u o) n (l.counter k u))
      stays u (same p _) (same q _) m = absurd (out (rw (p, q) at m))
      stays u (same p x) (other q y) m = rw (x, y) m
      stays u (other p x) _ m = rw x m

  -- A new group: nobody has paid in it yet.
  founded_keeps : (home : ℕ → ℕ) → sound home l ≡ true → g < 16 → group_absent l g ≡ true → Keeps l s → Keeps (apply (founds g o n) l) (M.except s g M.no_gifts)
  unfolding excess paid held
  founded_keeps home so g16 ab i k k16 now = go (same? k g)
    where
      nothing : (u : ℕ) → u < 8 → excess l g u ≡ 0
      nothing u u8 = let z = never_paid home (strict l) (sound_strict home l so) g u g16 u8 (absent_zero 0 l g u u8 ab) in omega arith

      go : Same k g → KeepsIn (apply (founds g o n) l) k (M.except s g M.no_gifts k)
      go (same p q) =
          subst (λ b. KeepsIn (apply (founds g o n) l) k (cond b M.no_gifts (s k))) (sym q)
          (record { sent = λ u u8. inl (sym (ap (λ j. excess l j u) p ∙ nothing u u8)); total = refl })
      go (other p q) =
          subst (λ b. KeepsIn (apply (founds g o n) l) k (cond b M.no_gifts (s k))) (sym q)
          (still l (apply (founds g o n) l) k (s k) (λ u u8. refl) (λ u u8 m. rw q m) (i k k16 (⊎_elim (λ x. absurd (p x)) (λ j. j) (counts_from l g o 1 k now))))

-- An expense stated anew, outside of all groups before: out of all groups again, or put in while only its payer has acknowledged.
module _ (l : Ledger) (c : ℕ) (e : Expense) (c512 : c < 512) (gone : (g u : ℕ) → g < 16 → (paid_in equal_rule g u (l.expense c) ≡ 0) × (held_in equal_rule g u (l.expense c) ≡ 0)) where
  outside_keeps : (s : M.Stored) → e.group ≡ 255 → Keeps l s → Keeps (apply (states c e) l) s
  outside_keeps s q i g g16 there = still l (apply (states c e) l) g (s g) (λ u u8.
      let z = gone g u g16 in
      let ne : e.group ≢ g = λ x. let y : 255 ≡ g = sym q ∙ x in omega arith in
      let x = out_paid g u e ne in
      let y = out_held g u e ne in
      states_excess l c e g u c512 (omega arith)) (λ u u8 m. m) (i g g16 there)

  put_keeps : (s : M.Stored) → e.payer < 8 → ((w : ℕ) → w < 8 → e.acknowledged w ≡ true → w ≡ e.payer) → Keeps l s → Keeps (apply (states c e) l) s
  put_keeps s p8 lone i g g16 there = still l (apply (states c e) l) g (s g) (λ u u8.
      let z = gone g u g16 in
      let x = lone_even g u u8 e p8 lone in
      states_excess l c e g u c512 (omega arith)) (λ u u8 m. m) (i g g16 there)

none_adds : (o : Option Expense) → absent_option o ≡ true → (g u : ℕ) → (paid_in equal_rule g u o ≡ 0) × (held_in equal_rule g u o ≡ 0)
none_adds none p g u = (refl, refl)
none_adds (some e) p g u = absurd (clash p refl)

out_adds : (o : Option Expense) (e : Expense) → o ≡ some e → e.group ≡ 255 → (g u : ℕ) → g < 16 → (paid_in equal_rule g u o ≡ 0) × (held_in equal_rule g u o ≡ 0)
out_adds o e p q g u g16 =
    let ne : e.group ≢ g = λ x. let y : 255 ≡ g = sym q ∙ x in omega arith in
    rw p (out_paid g u e ne, out_held g u e ne)

-- Every action that is granted.
module _ (home : ℕ → ℕ) (r : ℕ) (l : Ledger) (so : sound home l ≡ true) where
  its_good : (c : ℕ) → c < 512 → absent l c ≡ false → Good home l c (at l c)
  its_good c k ab = subst (GoodOption home l c) (there_is l c ab) (good_ledger home l so c k)

  ungrouped_255 : (c : ℕ) → in_group (at l c) ≡ false → (at l c).group ≡ 255
  ungrouped_255 c p = eqb_true (at l c).group 255 (not_false _ p)

  pub act_keeps : (x : Action) (s : M.Stored) → fields_fit x ≡ true → Granted home r (here (show r l)) l x → show r (ledger_after x l) ≡ effect x (show r l)
      → Keeps l s → Keeps (ledger_after x l) (stored_after x (show r l) s)
  unfolding fields_fit Enabled Granted stored_after gives
  act_keeps (found a g k) s fi h e i = founded_keeps l s g a k home so (ltb_lt g 16 (test _ fi 1)) (none_group r l g (h.0.1 0 (omega arith))) i
  act_keeps (add a o g) s fi h e i =
      counted_keeps l s g o (suc (l.counter g o)) (some_group r l g h.0.1) (λ m. h.0.3 (subst M.IsMember (sym (shown_counter r l g o (ltb_lt o 8 (test _ fi 1)))) m)) i
  act_keeps (leave a g) s fi h e i = recalculated r _ _ e
  act_keeps (enter a c t day) s fi h e i = outside_keeps l c _ (ltb_lt c 512 (test _ fi 1)) (λ g u k. none_adds (l.expense c) (none_expense r l c (h.0.2 0 (omega arith))) g u) s refl i
  act_keeps (put_in a g c) s fi h e i =
      let c512 = ltb_lt c 512 (test _ fi 2) in
      let ab = some_expense r l c h.0.2 in
      let gd = its_good c c512 ab in
      let q = ungrouped_255 c (of_ungrouped r l c ab h.0.5) in
      put_keeps l c _ c512 (out_adds (l.expense c) (at l c) (there_is l c ab) q) s gd.payer8 (gd.lone q) i
  act_keeps (take_out a g c) s fi h e i = recalculated r _ _ e
  act_keeps (change a c t day) s fi h e i = go (in_group (at l c)) refl
    where
      ab : absent l c ≡ false
      ab = some_expense r l c h.0.1

      go : (b : Bool) → in_group (at l c) ≡ b
          → Keeps (ledger_after (change a c t day) l) (M.if_grouped (M.expense (show r l) c).group (M.RecalcGifts (effect (change a c t day) (show r l))) s)
      go true ig = rw (group_of r l c ab ig) (recalculated r _ _ e)
      go false ig =
          let q = ungrouped_255 c ig in
          rw (ungrouped r l c ab ig) (outside_keeps l c _ (ltb_lt c 512 (test _ fi 1)) (out_adds (l.expense c) (at l c) (there_is l c ab) q) s q i)
  act_keeps (delete a c) s fi h e i = recalculated r _ _ e
  act_keeps (acknowledge a c) s fi h e i = recalculated r _ _ e
  act_keeps (absorb a o c) s fi h e i = recalculated r _ _ e

-- The merge: where one side has the group alone, its gifts are taken over, and so is everybody's excess, for the other side has no part in the group.
module _ (home : ℕ → ℕ) (l m : Ledger) (sl : sound home l ≡ true) (sm : sound home m ≡ true) where
  apart : Covers l m → (g : ℕ) → g < 16 → group_absent m g ≡ true → Apart g l m
  apart cov g g16 ab c k =
      (λ f p. absent_out home m sm g g16 ab c f k p, λ e f p q v x. clash (subst (λ j. group_absent m j ≡ true) (sym x) ab) (cov c e f k p q v (omega arith)))

pub merge_keeps : (home : ℕ → ℕ) (r w : ℕ) (l m : Ledger) (s t : M.Stored) → sound home l ≡ true → sound home m ≡ true → Covers l m → Covers m l
    → Keeps l s → Keeps m t → Keeps (merge_ledger l m) (M.gifts_merge_replicas (show r l) (show w m) s t)
unfolding M.gifts_merge_replicas show
merge_keeps home r w l m s t sl sm lm ml i j g g16 now = go (group_absent l g) (group_absent m g) refl refl
  where
    fresh : M.GroupGifts
    fresh = M.RecalcGifts (M.new_merge_replicas (show r l) (show w m)) g

    go : (a b : Bool) → group_absent l g ≡ a → group_absent m g ≡ b
        → KeepsIn (merge_ledger l m) g (M.MergeGifts (shown_group g (l.counter g) a) (shown_group g (m.counter g) b) (s g) (t g) fresh)
    go true true p q = absurd (clash (merge_absent l m g true true p q) now)
    go false true p q = still l (merge_ledger l m) g (s g) (λ u k. merged_own l m g u (apart home l m sl sm lm g g16 q)) (λ u k x. let z = absent_zero 0 m g u k q in subst M.IsMember (omega arith) x) (i g g16 p)
    go true false p q = still m (merge_ledger l m) g (t g) (λ u k. merged_other l m g u (apart home m l sm sl ml g g16 p)) (λ u k x. let z = absent_zero 0 l g u k p in subst M.IsMember (omega arith) x) (j g g16 q)
    go false false p q = recalculated r (merge_ledger l m) _ (tie_merge r w l m) g g16 now
