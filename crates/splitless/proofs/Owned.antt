-- Owned numbers: a group or an expense that any replica ever held stands on its owner's replica now. So a number absent there is absent everywhere,
-- which is the module's test of all replicas (130, 184). Proved of the history of ledgers.
use mathlib.Core.Path.{◌≡◌, refl, sym, ap, ◌∙◌, subst}
use mathlib.Core.Bool.{Bool, true, false, cond, ◌&&◌}
use mathlib.Core.Option.{Option, none, some}
use mathlib.Core.Logic.{◌⊎◌, inl, inr, ⊎_elim, ⊎_map}
use mathlib.Core.List.{List, [], ◌∷◌}
use Prim.Native.Nat.{ℕ, suc, ◌+◌, ◌/◌, ◌≤◌}
use native.Mathlib.Omega.{arith}
use native.Mathlib.Nat.{add-zero, add-suc, suc-add, zero-add}
use lib.Dec.{eqb}
use lib.ListN.{length}
use Rattle.format.specs.Layout.{Version}
use Rattle.rules.specs.Ledger.{Expense, Ledger, empty, group_absent, absent_option, absent}
use Rattle.rules.specs.Sound.{sound}
use Rattle.rules.specs.Action.{Action, found, add, leave, enter, put_in, take_out, change, delete, acknowledge, absorb}
use Rattle.rules.specs.Step.{Given, founds, counts, states, acks, add_ack, apply, gives, ledger_after}
use Rattle.rules.specs.Refusal.{checks, answer}
use Rattle.rules.specs.Merge.{merge_expense, merge_ledger}
use Rattle.images.specs.Record.{read_action_in}
use Rattle.history.specs.History.{Call, callee, after, act, merge, raise}
use Rattle.history.proofs.Run.{sized, answer_to, ok, acted_on, outcome, proceed, upgrade, run_from, run}
use Rattle.history.proofs.Soundness.{sound_one, empty_sound}
use Rattle.history.proofs.Steps.{after_both, after_here, after_now}
use Rattle.rules.proofs.Basics.{clash, Same, eqb_true, same?, false_of, same, other}
use Rattle.rules.proofs.Accepted.{Fits, nobody_zero, pass, not_false, fits}
use Rattle.images.proofs.Checked.{or_else_zero}
use Rattle.splitless.proofs.Showing.{absent_zero}
use Rattle.splitless.proofs.Merging.{zero_absent, merge_absent}

-- Something P that ledgers hold under numbers: the start has none, no step loses one, and only its owner brings a new one in.
record Law (home : ℕ → ℕ) (P : Ledger → ℕ → Type 0) (owner : ℕ → ℕ) : Type 0 where
  start : (k : ℕ) → P empty k → ⊥
  merge_grows : (a b : Ledger) (k : ℕ) → P a k → P (merge_ledger a b) k
  merge_from : (a b : Ledger) (k : ℕ) → P (merge_ledger a b) k → P a k ⊎ P b k
  act_grows : (r : ℕ) (x : Action) (l : Ledger) → sound home l ≡ true → answer home r (some x) l ≡ 0 → (k : ℕ) → P l k → P (ledger_after x l) k
  act_from : (r : ℕ) (x : Action) (l : Ledger) → sound home l ≡ true → answer home r (some x) l ≡ 0 → (k : ℕ) → P (ledger_after x l) k → P l k ⊎ (owner k ≡ r)

module _ (home : ℕ → ℕ) (P : Ledger → ℕ → Type 0) (owner : ℕ → ℕ) (law : Law home P owner) where
  -- What any replica held at any moment, its owner holds now.
  abbrev Known : ℕ → (ℕ → ℕ → Ledger) → Type 0
  Known n stood = (m w k : ℕ) → P (stood m w) k → P (stood n (owner k)) k

  known_step : (n : ℕ) (stood : ℕ → ℕ → Ledger) → Known n stood → (r : ℕ) (new : Ledger) → ((k : ℕ) → P (stood n r) k → P new k) → ((k : ℕ) → P new k → P (stood n (owner k)) k ⊎ (owner k ≡ r))
      → Known (suc n) (after stood n r new)
  known_step n stood i r new grows from m w k =
      after_both (λ x y. P x k → P (after stood n r new (suc n) (owner k)) k) stood stood n r new new
      (λ m' w' j. kept (i m' w' k j))
      (λ j. ⊎_elim kept (λ o. subst (λ v. P (after stood n r new (suc n) v) k) (sym o) (subst (λ y. P y k) (sym (after_here stood n r new)) j)) (from k j))
      m w
    where
      kept : P (stood n (owner k)) k → P (after stood n r new (suc n) (owner k)) k
      kept j = after_now stood n r new (λ y. P y k) (owner k) (λ p. grows k (subst (λ v. P (stood n v) k) p j)) j

  known_act : (n : ℕ) (stood : ℕ → ℕ → Ledger) → Known n stood → (r : ℕ) (o : Option Action) → sound home (stood n r) ≡ true → answer home r o (stood n r) ≡ 0 → Known (suc n) (after stood n r (acted_on o (stood n r)))
  unfolding acted_on
  known_act n stood i r none so e = known_step n stood i r (stood n r) (λ k j. j) (λ k j. inl (i n r k j))
  known_act n stood i r (some a) so e =
      known_step n stood i r _ (law.act_grows r a (stood n r) so e) (λ k j. ⊎_map (i n r k) (λ o. o) (law.act_from r a (stood n r) so e k j))

  known_call : (n : ℕ) (at : ℕ → ℕ → Version) (stood : ℕ → ℕ → Ledger) → Known n stood → ((m r : ℕ) → sound home (stood m r) ≡ true) → (c : Call) → ok home n at stood c ≡ true
      → Known (suc n) (after stood n (callee c) (outcome n stood c))
  unfolding ok answer_to callee outcome
  known_call n at stood i so (act v r x) p = known_act n stood i r (read_action_in v x) (so n r) (or_else_zero (sized (at n r) v) _ (eqb_true _ 0 p)).1
  known_call n at stood i so (merge v r f m w) p =
      known_step n stood i r _ (law.merge_grows (stood n r) (stood m f)) (λ k j. inl (⊎_elim (i n r k) (i m f k) (law.merge_from (stood n r) (stood m f) k j)))
  known_call n at stood i so (raise v r d) p = known_step n stood i r (stood n r) (λ k j. j) (λ k j. inl (i n r k j))

  known_one : (n : ℕ) (at : ℕ → ℕ → Version) (stood : ℕ → ℕ → Ledger) → Known n stood → ((m r : ℕ) → sound home (stood m r) ≡ true) → (c : Call) → Known (suc n) (proceed home n at stood c)
  unfolding proceed
  known_one n at stood i so c = go (ok home n at stood c) refl
    where
      go : (b : Bool) → ok home n at stood c ≡ b → Known (suc n) (after stood n (callee c) (cond b (outcome n stood c) (stood n (callee c))))
      go true p = known_call n at stood i so c p
      go false p = known_step n stood i (callee c) (stood n (callee c)) (λ k j. j) (λ k j. inl (i n (callee c) k j))

  known_all : (h : List Call) (n : ℕ) (at : ℕ → ℕ → Version) (stood : ℕ → ℕ → Ledger) → Known n stood → ((m r : ℕ) → sound home (stood m r) ≡ true) → Known (n + length h) (run_from home n at stood h)
  unfolding run_from
  known_all [] n at stood i so = rw add-zero i
  known_all (c ∷ h) n at stood i so =
      rw (add-suc n (length h), ← suc-add n (length h)) (known_all h (suc n) (upgrade home n at stood c) (proceed home n at stood c) (known_one n at stood i so c) (sound_one home n at stood so c))

  known : (made : ℕ → Version) (h : List Call) → Known (length h) (run home made h)
  unfolding run
  known made h = let t = known_all h 0 (λ m r. made r) (λ m r. empty) (λ m w k j. absurd (law.start k j)) (empty_sound home) in rw zero-add at t

-- Groups: held where a counter is above zero, owned by replica g div 2.
abbrev pub HasGroup : Ledger → ℕ → Type 0
HasGroup l g = group_absent l g ≡ false

abbrev group_owner : ℕ → ℕ
group_owner g = g / 2

set_grows : (l : Ledger) (g u n : ℕ) → l.counter g u ≤ n → (h w : ℕ) → l.counter h w ≤ cond (eqb h g && eqb w u) n (l.counter h w)
set_grows l g u n le h w = go (same? h g) (same? w u)
  where
    go : Same h g → Same w u → l.counter h w ≤ cond (eqb h g && eqb w u) n (l.counter h w)
    go (same p q) (same p' q') = rw (q, q', p, p') le
    go (same p q) (other p' q') = rw (q, q') (omega arith)
    go (other p q) _ = rw q (omega arith)

pub counter_grows : (r : ℕ) (l : Ledger) (y : Given) → Fits r l y → (h w : ℕ) → l.counter h w ≤ (apply y l).counter h w
counter_grows r l (founds g u k) ft h w = set_grows l g u 1 (let z = nobody_zero (l.counter g) ft.2 u ft.1 in omega arith) h w
counter_grows r l (counts g u n) ft h w = set_grows l g u n ft h w
counter_grows r l (states c e) ft h w = omega arith
counter_grows r l (acks c v u) ft h w = omega arith

pub more_present : (l l' : Ledger) (g : ℕ) → ((u : ℕ) → l.counter g u ≤ l'.counter g u) → HasGroup l g → HasGroup l' g
more_present l l' g h p = false_of _ (λ z. clash (zero_absent l g (λ u k. let x = absent_zero 0 l' g u k z in let y = h u in omega arith)) p)

pub counts_from : (l : Ledger) (g u n k : ℕ) → HasGroup (apply (counts g u n) l) k → (k ≡ g) ⊎ HasGroup l k
counts_from l g u n k h = go (same? k g)
  where
    go : Same k g → (k ≡ g) ⊎ HasGroup l k
    go (same p q) = inl p
    go (other p q) = inr (rw q at h)

group_from : (home : ℕ → ℕ) (r : ℕ) (x : Action) (l : Ledger) → answer home r (some x) l ≡ 0 → (k : ℕ) → HasGroup (ledger_after x l) k → HasGroup l k ⊎ (group_owner k ≡ r)
unfolding answer checks gives
group_from home r (found a g n) l e k h =
    let p = pass _ tt e in
    ⊎_elim (λ q. inr (ap group_owner q ∙ eqb_true (g / 2) r (not_false _ (p 2)))) (λ j. inl j) (counts_from l g a 1 k h)
group_from home r (add a o g) l e k h =
    let p = pass _ tt e in
    ⊎_elim (λ q. inl (subst (λ v. HasGroup l v) (sym q) (p 2))) (λ j. inl j) (counts_from l g o _ k h)
group_from home r (leave a g) l e k h =
    let p = pass _ tt e in
    ⊎_elim (λ q. inl (subst (λ v. HasGroup l v) (sym q) (p 2))) (λ j. inl j) (counts_from l g a _ k h)
group_from home r (enter a c s day) l e k h = inl h
group_from home r (put_in a g c) l e k h = inl h
group_from home r (take_out a g c) l e k h = inl h
group_from home r (change a c s day) l e k h = inl h
group_from home r (delete a c) l e k h = inl h
group_from home r (acknowledge a c) l e k h = inl h
group_from home r (absorb a o c) l e k h = inl h

merge_group_from : (a b : Ledger) (k : ℕ) → HasGroup (merge_ledger a b) k → HasGroup a k ⊎ HasGroup b k
merge_group_from a b k h = go (group_absent a k) (group_absent b k) refl refl
  where
    go : (x y : Bool) → group_absent a k ≡ x → group_absent b k ≡ y → HasGroup a k ⊎ HasGroup b k
    go false y p q = inl p
    go true false p q = inr q
    go true true p q = absurd (clash (merge_absent a b k true true p q) h)

group_law : (home : ℕ → ℕ) → Law home HasGroup group_owner
group_law home = record {
  start = λ k h. clash (zero_absent empty k (λ u j. refl)) h;
  merge_grows = λ a b k. more_present a (merge_ledger a b) k (λ u. omega arith);
  merge_from = merge_group_from;
  act_grows = λ r x l so e k. more_present l (ledger_after x l) k (counter_grows r l (gives x l) (fits home r x l so e) k);
  act_from = λ r x l so. group_from home r x l;
}

-- Expenses: held where there is one, owned by replica c div 64.
abbrev HasExpense : Ledger → ℕ → Type 0
HasExpense l c = absent l c ≡ false

abbrev expense_owner : ℕ → ℕ
expense_owner c = c / 64

ack_absent : (u : ℕ) (o : Option Expense) → absent_option (add_ack u o) ≡ absent_option o
ack_absent u none = refl
ack_absent u (some e) = refl

step_grows : (r : ℕ) (l : Ledger) (y : Given) → (k : ℕ) → HasExpense l k → HasExpense (apply y l) k
step_grows r l (founds g u n) k h = h
step_grows r l (counts g u n) k h = h
step_grows r l (states c e) k h = go (eqb k c)
  where
    go : (b : Bool) → absent_option (cond b (some e) (l.expense k)) ≡ false
    go true = refl
    go false = h
step_grows r l (acks c v u) k h = go (eqb k c)
  where
    go : (b : Bool) → absent_option (cond b (add_ack u (l.expense k)) (l.expense k)) ≡ false
    go true = ack_absent u (l.expense k) ∙ h
    go false = h

step_from : (r : ℕ) (l : Ledger) (y : Given) → Fits r l y → (k : ℕ) → HasExpense (apply y l) k → HasExpense l k ⊎ (expense_owner k ≡ r)
step_from r l (founds g u n) ft k h = inl h
step_from r l (counts g u n) ft k h = inl h
step_from r l (states c e) ft k h = go (same? k c)
  where
    go : Same k c → HasExpense l k ⊎ (expense_owner k ≡ r)
    go (same p q) = inr (ap expense_owner p ∙ ft.0)
    go (other p q) = inl (rw q at h)
step_from r l (acks c v u) ft k h = inl (go (eqb k c) h)
  where
    go : (b : Bool) → absent_option (cond b (add_ack u (l.expense k)) (l.expense k)) ≡ false → HasExpense l k
    go true j = sym (ack_absent u (l.expense k)) ∙ j
    go false j = j

merge_grows_lem : (o p : Option Expense) → absent_option o ≡ false → absent_option (merge_expense o p) ≡ false
merge_grows_lem none p h = absurd (clash refl h)
merge_grows_lem (some e) none h = refl
merge_grows_lem (some e) (some f) h = refl

merge_from_lem : (o p : Option Expense) → absent_option (merge_expense o p) ≡ false → (absent_option o ≡ false) ⊎ (absent_option p ≡ false)
merge_from_lem none p h = inr h
merge_from_lem (some e) none h = inl refl
merge_from_lem (some e) (some f) h = inl refl

expense_law : (home : ℕ → ℕ) → Law home HasExpense expense_owner
expense_law home = record {
  start = λ k h. clash refl h;
  merge_grows = λ a b k. merge_grows_lem (a.expense k) (b.expense k);
  merge_from = λ a b k. merge_from_lem (a.expense k) (b.expense k);
  act_grows = λ r x l so e k. step_grows r l (gives x l) k;
  act_from = λ r x l so e k. step_from r l (gives x l) (fits home r x l so e) k;
}

-- A number that is absent on its own replica now is absent on every replica at every moment so far.
module _ (home : ℕ → ℕ) (made : ℕ → Version) (h : List Call) where
  pub group_unused : (g m w : ℕ) → group_absent (run home made h (length h) (g / 2)) g ≡ true → group_absent (run home made h m w) g ≡ true
  group_unused g m w p = go (group_absent (run home made h m w) g) refl
    where
      go : (b : Bool) → group_absent (run home made h m w) g ≡ b → group_absent (run home made h m w) g ≡ true
      go true q = q
      go false q = absurd (clash p (known home HasGroup group_owner (group_law home) made h m w g q))

  pub expense_unused : (c m w : ℕ) → absent (run home made h (length h) (c / 64)) c ≡ true → absent (run home made h m w) c ≡ true
  expense_unused c m w p = go (absent (run home made h m w) c) refl
    where
      go : (b : Bool) → absent (run home made h m w) c ≡ b → absent (run home made h m w) c ≡ true
      go true q = q
      go false q = absurd (clash p (known home HasExpense expense_owner (expense_law home) made h m w c q))
