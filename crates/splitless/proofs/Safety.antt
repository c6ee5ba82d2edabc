-- The module's three safety properties (578 to 618) hold of each of its actions and of its merge, on any replica.
use mathlib.Core.Path.{◌≡◌, refl, ap, ◌∙◌}
use mathlib.Core.Bool.{true, cond}
use mathlib.Core.Option.{Option, none, some, some-ne-none}
use mathlib.Core.Logic.{◌≢◌}
use Prim.Native.Nat.{ℕ, suc, ◌≤◌, ◌<◌}
use native.Mathlib.Omega.{arith}
use lib.Dec.{eqb}
use Rattle.rules.specs.Ledger.{Ledger}
use Rattle.rules.specs.Action.{Action, found, add, leave, enter, put_in, take_out, change, delete, acknowledge, absorb}
use Rattle.rules.proofs.Basics.{Same, same?, Less, less?, ltb_true, same, other, less, more}
use Rattle.splitless.specs.Module as M
use Rattle.splitless.specs.Shown.{Enabled, effect, Granted, here}
use Rattle.splitless.proofs.Merging.{choice_max}

-- The three properties of one replica before and after a step.
pub record Safe (r r' : M.Replica) : Type 0 where
  pub versions : (c : ℕ) → r.recorded_expenses c ≢ none → (r'.recorded_expenses c ≢ none) × ((M.expense r c).version ≤ (M.expense r' c).version)
  pub counters : (g u : ℕ) → u < 8 → r.groups g ≢ none → (r'.groups g ≢ none) × ((M.group r g).members u ≤ (M.group r' g).members u)
  pub acks : (c u : ℕ) → u < 8 → r.recorded_expenses c ≢ none → (M.expense r c).version ≡ (M.expense r' c).version
      → (M.expense r c).acknowledged_shares u ≡ true → (M.expense r' c).acknowledged_shares u ≡ true

pub safe_same : (r : M.Replica) → Safe r r
safe_same r = record { versions = λ c h. (h, omega arith); counters = λ g u k h. (h, omega arith); acks = λ c u k h v a. a }

-- A group set anew: where it was there, no counter falls.
safe_group : (g : ℕ) (new : M.Group) (r : M.Replica) → (r.groups g ≢ none → (u : ℕ) → u < 8 → (M.group r g).members u ≤ new.members u) → Safe r (M.groups_to g new r)
unfolding M.expense M.group
safe_group g new r h = record { versions = λ c x. (x, omega arith); counters = λ x u k there. go x u k there (same? x g); acks = λ c u k x v a. a }
  where
    go : (x u : ℕ) → u < 8 → r.groups x ≢ none → Same x g
        → (cond (eqb x g) (some new) (r.groups x) ≢ none) × ((M.group_or x (r.groups x)).members u ≤ (M.group_or x (cond (eqb x g) (some new) (r.groups x))).members u)
    go x u k there (same p q) = rw (q, p) (some-ne-none new, h (λ z. there (ap r.groups p ∙ z)) u k)
    go x u k there (other p q) = rw q (there, omega arith)

-- An expense set anew: where it was there, its version does not fall, and with the version no acknowledgement goes.
safe_expense : (c : ℕ) (new : M.Expense) (r : M.Replica)
    → (r.recorded_expenses c ≢ none → (M.expense r c).version ≤ new.version)
    → (r.recorded_expenses c ≢ none → (M.expense r c).version ≡ new.version → (u : ℕ) → u < 8 → (M.expense r c).acknowledged_shares u ≡ true → new.acknowledged_shares u ≡ true)
    → Safe r (M.expenses_to c new r)
unfolding M.expense M.group
safe_expense c new r up keep = record {
  versions = λ d there. versions d there (same? d c);
  counters = λ g u k x. (x, omega arith);
  acks = λ d u k there v a. acks d u k there (same? d c) v a;
}
  where
    after : ℕ → Option M.Expense
    after d = cond (eqb d c) (some new) (r.recorded_expenses d)

    versions : (d : ℕ) → r.recorded_expenses d ≢ none → Same d c → (after d ≢ none) × ((M.expense_or (r.recorded_expenses d)).version ≤ (M.expense_or (after d)).version)
    versions d there (same p q) = rw (q, p) (some-ne-none new, up (λ z. there (ap r.recorded_expenses p ∙ z)))
    versions d there (other p q) = rw q (there, omega arith)

    acks : (d u : ℕ) → u < 8 → r.recorded_expenses d ≢ none → Same d c → (M.expense_or (r.recorded_expenses d)).version ≡ (M.expense_or (after d)).version
        → (M.expense_or (r.recorded_expenses d)).acknowledged_shares u ≡ true → (M.expense_or (after d)).acknowledged_shares u ≡ true
    acks d u k there (same p q) v a =
        let v' : (M.expense_or (r.recorded_expenses c)).version ≡ new.version = rw (q, p) at v in
        let a' : (M.expense_or (r.recorded_expenses c)).acknowledged_shares u ≡ true = rw p at a in
        rw q (keep (λ z. there (ap r.recorded_expenses p ∙ z)) v' u k a')
    acks d u k there (other p q) v a = rw q a

-- A higher version leaves nothing to be said of acknowledgements.
safe_edit : (c : ℕ) (new : M.Expense) (r : M.Replica) → new.version ≡ suc (M.expense r c).version → Safe r (M.expenses_to c new r)
safe_edit c new r e = safe_expense c new r (λ x. omega arith) (λ x v u k a. absurd (omega arith))

safe_up : (g u : ℕ) (r : M.Replica) → Safe r (M.member_up g u r)
safe_up g u r = safe_group g _ r (λ there w k. go w (same? w u))
  where
    go : (w : ℕ) → Same w u → (M.group r g).members w ≤ M.except (M.group r g).members u (suc ((M.group r g).members u)) w
    go w (same p q) = rw (q, p) (omega arith)
    go w (other p q) = rw q (omega arith)

-- Every action that is granted.
pub safe_effect : (home : ℕ → ℕ) (rid : ℕ) (r : M.Replica) (l : Ledger) (a : Action) → Granted home rid (here r) l a → Safe r (effect a r)
unfolding Granted Enabled effect
safe_effect home rid r l (found a g k) h = safe_group g _ r (λ there. absurd (there (h.0.1 0 (omega arith))))
safe_effect home rid r l (add a o g) h = safe_up g o r
safe_effect home rid r l (leave a g) h = safe_up g a r
safe_effect home rid r l (enter a c s day) h = safe_expense c _ r (λ there. absurd (there (h.0.2 0 (omega arith)))) (λ there. absurd (there (h.0.2 0 (omega arith))))
safe_effect home rid r l (put_in a g c) h = safe_edit c _ r refl
safe_effect home rid r l (take_out a g c) h = safe_edit c _ r refl
safe_effect home rid r l (change a c s day) h = safe_edit c _ r refl
safe_effect home rid r l (delete a c) h = safe_edit c _ r refl
safe_effect home rid r l (acknowledge a c) h = safe_expense c _ r (λ there. omega arith) (λ there v u k x. go u (same? u a) x)
  where
    go : (u : ℕ) → Same u a → (M.expense r c).acknowledged_shares u ≡ true → M.except (M.expense r c).acknowledged_shares a true u ≡ true
    go u (same p q) x = rw q
    go u (other p q) x = rw q x
safe_effect home rid r l (absorb a o c) h = safe_edit c _ r refl

-- The merge.
merged_version : (o p : Option M.Expense) → o ≢ none → (M.MergeExpense o p ≢ none) × ((M.expense_or o).version ≤ (M.expense_or (M.MergeExpense o p)).version)
merged_version none p there = absurd (there refl)
merged_version (some e) none there = (some-ne-none e, omega arith)
merged_version (some e) (some f) there = go (less? f.version e.version) (less? e.version f.version)
  where
    go : Less f.version e.version → Less e.version f.version → (M.MergeExpense (some e) (some f) ≢ none) × (e.version ≤ (M.expense_or (M.MergeExpense (some e) (some f))).version)
    go (less k x) s = rw x (some-ne-none e, omega arith)
    go (more k x) (less j y) = rw (x, y) (some-ne-none f, omega arith)
    go (more k x) (more j y) = rw (x, y) (some-ne-none _, omega arith)

merged_acks : (o p : Option M.Expense) (u : ℕ) → u < 8 → o ≢ none → (M.expense_or o).version ≡ (M.expense_or (M.MergeExpense o p)).version
    → (M.expense_or o).acknowledged_shares u ≡ true → (M.expense_or (M.MergeExpense o p)).acknowledged_shares u ≡ true
merged_acks none p u k there v a = absurd (there refl)
merged_acks (some e) none u k there v a = a
merged_acks (some e) (some f) u k there v a = go (less? f.version e.version) (less? e.version f.version)
  where
    go : Less f.version e.version → Less e.version f.version → (M.expense_or (M.MergeExpense (some e) (some f))).acknowledged_shares u ≡ true
    go (less m x) s = rw x a
    go (more m x) (less j y) = absurd (let z : e.version ≡ f.version = rw (x, y) at v in omega arith)
    go (more m x) (more j y) = rw (x, y, ltb_true u 8 k, a)

merged_counter : (g : ℕ) (o p : Option M.Group) (u : ℕ) → u < 8 → o ≢ none → (M.MergeGroup o p ≢ none) × ((M.group_or g o).members u ≤ (M.group_or g (M.MergeGroup o p)).members u)
merged_counter g none p u k there = absurd (there refl)
merged_counter g (some x) none u k there = (some-ne-none x, omega arith)
merged_counter g (some x) (some y) u k there = (some-ne-none _, rw (ltb_true u 8 k) (rw (← choice_max (x.members u) (y.members u)) (omega arith)))

pub safe_merge : (own got : M.Replica) → Safe own (M.new_merge_replicas own got)
unfolding M.expense M.group
safe_merge own got = record {
  versions = λ c. merged_version (own.recorded_expenses c) (got.recorded_expenses c);
  counters = λ g u. merged_counter g (own.groups g) (got.groups g) u;
  acks = λ c u. merged_acks (own.recorded_expenses c) (got.recorded_expenses c) u;
}

-- Replicas that are each safe make a safe step.
pub safe_all : (replicas replicas' : M.Replicas) → ((rid : ℕ) → rid < 8 → Safe (replicas rid) (replicas' rid)) → M.Safety replicas replicas'
safe_all replicas replicas' h = record {
  expense_versions_non_decreasing = λ rid c k j. (h rid k).versions c;
  group_members_counter_non_decreasing = λ rid g u k j i. (h rid k).counters g u i;
  acknowledged_shares_non_decreasing_for_same_version = λ rid c u k j i there still. (h rid k).acks c u i there;
}
