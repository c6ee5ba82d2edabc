-- Nothing that others do makes a leaver's raw balance fall below what it was at the leave: of each expense the leaver has paid no less after it, and comes to hold
-- no more (Owed).
use mathlib.Core.Path.{◌≡◌, refl, sym, ap, ◌∙◌, subst}
use mathlib.Core.Bool.{Bool, true, false, not, cond, ◌&&◌, ◌||◌}
use mathlib.Core.Option.{Option, none, some}
use mathlib.Core.List.{List, [], ◌∷◌}
use mathlib.Core.Logic.{◌≢◌}
use Prim.Native.Nat.{ℕ, suc, ◌+◌, ◌-◌, ◌%◌, ◌≤◌, ◌<◌}
use native.Mathlib.Omega.{arith}
use lib.Dec.{ltb, eqb}
use lib.IntN.{pos, sub_ℕ, ◌+ℤ◌}
use Rattle.format.specs.Layout.{user_count, group_count, expense_count}
use Rattle.rules.specs.Ledger.{Expense, Ledger, ever_in, nobody, member, in_group, absent_option, absent, at}
use Rattle.rules.specs.Balance.{paid_in, held_in, paid, held, raw}
use Rattle.rules.specs.Pending.{pending}
use Rattle.rules.specs.Action.{Action, found, add, leave, enter, put_in, take_out, change, delete, acknowledge, absorb, actor, fields_fit}
use Rattle.rules.specs.Step.{add_ack, entered, gives, ledger_after}
use Rattle.rules.specs.Refusal.{stranger_in, checks, answer}
use Rattle.rules.specs.Leaver.{after_all, AtLeast, ByOthers, LeaverKept}
use Rattle.rules.proofs.Basics.{clash, Same, same, other, same?, Less, less, more, less?, eqb_true, eqb_self, ltb_true}
use Rattle.rules.proofs.Accepted.{pass, not_false, test, ltb_lt, every_8, there_is}
use Rattle.rules.proofs.Sound.{eqb_other, or_else, not_zero, in_group_lem}
use Rattle.rules.proofs.Sums.{none_below, sum_le}
use Rattle.rules.proofs.Balance.{diff_sub, diff_shift, diff_add, diff_pos, diff_same}
use Rattle.rules.proofs.Owed.{NoWorse, no_worse_same, no_worse_then, held_owed, clear_owed, paid_zero, no_worse_aside, no_worse_acknowledged, no_worse_moved}

-- One accepted action of another user, on a ledger where u was once a member of g and is none.
module _ (g u : ℕ) (g16 : g < group_count) (u8 : u < user_count) (l : Ledger) (once : 0 < l.counter g u) (out : member l g u ≡ false) where
  abbrev rule_here : ℕ
  rule_here = l.rule g

  absent_paid : (c : ℕ) → not (absent_option (l.expense c)) ≡ false → paid_in rule_here g u (l.expense c) ≡ 0
  absent_paid c ab = go (l.expense c) (not_false _ ab)
    where
      go : (o : Option Expense) → absent_option o ≡ true → paid_in rule_here g u o ≡ 0
      go none q = refl
      go (some e) q = absurd (clash q refl)

  -- What another pays, as its number's expense.
  other_pays : (a c : ℕ) → a ≢ u → not (eqb (at l c).payer a) ≡ false → paid_in rule_here g u (some (at l c)) ≡ 0
  other_pays a c ne pa = paid_zero rule_here g u (at l c) (λ q. ne (sym (eqb_true (at l c).payer a (not_false _ pa)) ∙ q))

  other_paid : (a c : ℕ) → a ≢ u → absent l c ≡ false → not (eqb (at l c).payer a) ≡ false → paid_in rule_here g u (l.expense c) ≡ 0
  other_paid a c ne ab pa = ap (paid_in rule_here g u) (there_is l c ab) ∙ other_pays a c ne pa

  no_share : (s : ℕ → ℕ) (h : ℕ) → h ≡ g → stranger_in (l.counter h) s ≡ false → 0 < s u → ⊥
  no_share s h q st k = clash (or_else (eqb (s u) 0) (member l h u) (every_8 (λ w. eqb (s w) 0 || member l h w) (not_false _ st) u u8) (not_zero (s u) k)) (ap (λ n. member l n u) q ∙ out)

  stated : (c : ℕ) (e : Expense) → NoWorse rule_here g u (l.expense c) (some e) → (d : ℕ) → NoWorse rule_here g u (l.expense d) (cond (eqb d c) (some e) (l.expense d))
  stated c e k d = go (same? d c)
    where
      go : Same d c → NoWorse rule_here g u (l.expense d) (cond (eqb d c) (some e) (l.expense d))
      go (same p q) = rw q (rw p k)
      go (other p q) = rw q (no_worse_same rule_here g u (l.expense d))

  no_worse_step : (home : ℕ → ℕ) (r : ℕ) (x : Action) → answer home r (some x) l ≡ 0 → actor x ≢ u → (d : ℕ) → NoWorse rule_here g u (l.expense d) ((ledger_after x l).expense d)
  unfolding answer checks gives fields_fit actor
  no_worse_step home r (found a h k) e ne d = no_worse_same rule_here g u (l.expense d)
  no_worse_step home r (add a o h) e ne d = no_worse_same rule_here g u (l.expense d)
  no_worse_step home r (leave a h) e ne d = no_worse_same rule_here g u (l.expense d)
  no_worse_step home r (enter a c s day) e ne d = stated c (entered a s day) (no_worse_aside rule_here g u (l.expense c) (entered a s day) (absent_paid c (pass _ tt e 3)) (λ i _ _. omega arith)) d
  no_worse_step home r (put_in a h c) e ne d =
      let p = pass _ tt e in
      stated c _ (no_worse_aside rule_here g u (l.expense c) _ (other_paid a c ne (p 3) (p 5)) (λ i _ s. no_share (at l c).shares h i (p 7) s)) d
  no_worse_step home r (take_out a h c) e ne d =
      let p = pass _ tt e in
      stated c _ (no_worse_aside rule_here g u (l.expense c) _ (other_paid a c ne (p 3) (p 6)) (λ i _ _. omega arith)) d
  no_worse_step home r (change a c s day) e ne d =
      let p = pass _ tt e in
      stated c _ (no_worse_aside rule_here g u (l.expense c) _ (other_paid a c ne (p 2) (p 3)) (λ i _ k. no_share s (at l c).group i (grouped i (p 6)) k)) d
    where
      grouped : (at l c).group ≡ g → (in_group (at l c) && stranger_in (l.counter (at l c).group) s) ≡ false → stranger_in (l.counter (at l c).group) s ≡ false
      grouped i q = sym (ap (λ t. t && stranger_in (l.counter (at l c).group) s) (in_group_lem (at l c) (λ z. omega arith))) ∙ q
  no_worse_step home r (delete a c) e ne d =
      let p = pass _ tt e in
      stated c _ (no_worse_aside rule_here g u (l.expense c) _ (other_paid a c ne (p 2) (p 3)) (λ _ q _. clash refl q)) d
  no_worse_step home r (acknowledge a c) e ne d = go (same? d c) (there_is l c (pass _ tt e 2))
    where
      go : Same d c → l.expense c ≡ some (at l c) → NoWorse rule_here g u (l.expense d) (cond (eqb d c) (add_ack a (l.expense d)) (l.expense d))
      go (same p q) is = rw q (rw p (rw is (no_worse_acknowledged rule_here g u a ne (at l c))))
      go (other p q) is = rw q (no_worse_same rule_here g u (l.expense d))
  no_worse_step home r (absorb a o c) e ne d =
      let p = pass _ tt e in
      let m = no_worse_moved rule_here g u a o ne (at l c) (other_pays a c ne (p 5)) in
      stated c _ (rw (there_is l c (p 3)) m) d

  -- The user's counter stays, and the group's rule, for the group is there.
  counter_kept : (h w n : ℕ) → (g ≡ h → u ≡ w → ⊥) → cond (eqb g h && eqb u w) n (l.counter g u) ≡ l.counter g u
  counter_kept h w n un = go (same? g h) (same? u w)
    where
      go : Same g h → Same u w → cond (eqb g h && eqb u w) n (l.counter g u) ≡ l.counter g u
      go (same p _) (same q _) = absurd (un p q)
      go (same _ x) (other _ y) = rw (x, y)
      go (other _ x) _ = rw x

  counter_stays : (x : Action) → actor x ≢ u → ((a : ℕ) → x ≢ add a u g) → (ledger_after x l).counter g u ≡ l.counter g u
  unfolding gives actor
  counter_stays (found a h k) ne un = counter_kept h a 1 (λ _ q. ne (sym q))
  counter_stays (add a o h) ne un = counter_kept h o (suc (l.counter h o)) (λ p q. un a (λ i. add a (sym q i) (sym p i)))
  counter_stays (leave a h) ne un = counter_kept h a (suc (l.counter h a)) (λ _ q. ne (sym q))
  counter_stays (enter a c s day) ne un = refl
  counter_stays (put_in a h c) ne un = refl
  counter_stays (take_out a h c) ne un = refl
  counter_stays (change a c s day) ne un = refl
  counter_stays (delete a c) ne un = refl
  counter_stays (acknowledge a c) ne un = refl
  counter_stays (absorb a o c) ne un = refl

  rule_stays : (home : ℕ → ℕ) (r : ℕ) (x : Action) → answer home r (some x) l ≡ 0 → (ledger_after x l).rule g ≡ l.rule g
  unfolding answer checks gives
  rule_stays home r (found a h k) e = go (same? g h) (not_false _ (pass _ tt e 3))
    where
      go : Same g h → nobody (l.counter h) ≡ true → cond (eqb g h) k (l.rule g) ≡ l.rule g
      go (same p _) z = absurd (clash (every_8 (λ w. not (ever_in (l.counter g) w)) (ap (λ n. nobody (l.counter n)) p ∙ z) u u8) (ap not (ltb_true 0 (l.counter g u) once)))
      go (other _ q) z = rw q
  rule_stays home r (add a o h) e = refl
  rule_stays home r (leave a h) e = refl
  rule_stays home r (enter a c s day) e = refl
  rule_stays home r (put_in a h c) e = refl
  rule_stays home r (take_out a h c) e = refl
  rule_stays home r (change a c s day) e = refl
  rule_stays home r (delete a c) e = refl
  rule_stays home r (acknowledge a c) e = refl
  rule_stays home r (absorb a o c) e = refl

-- The group keeps its rule, and no expense is worse for the user by it.
pub record Kept (g u : ℕ) (l m : Ledger) : Type 0 where
  pub ruled : m.rule g ≡ l.rule g
  pub each : (c : ℕ) → NoWorse (l.rule g) g u (l.expense c) (m.expense c)

-- More paid and less held is a raw no lower.
module _ (l m : Ledger) (g u : ℕ) where
  raw_at_least : paid l g u ≤ paid m g u → held m g u ≤ held l g u → AtLeast (raw l g u) (raw m g u)
  unfolding raw
  raw_at_least p h =
      let k : ℕ = (paid m g u + held l g u) - (paid l g u + held m g u) in
      (k, diff_same (diff_sub (paid m g u) (held m g u)) (diff_shift (paid m g u) (held m g u) (diff_add (diff_sub (paid l g u) (held l g u)) (diff_pos k)) (omega arith)))

  kept_raw : u < user_count → pending l g u ≡ false → Kept g u l m → AtLeast (raw l g u) (raw m g u)
  unfolding paid held pending
  kept_raw u8 z h =
      let k = l.rule g in
      let p = sum_le expense_count (λ c. paid_in k g u (l.expense c)) (λ c. paid_in k g u (m.expense c)) (λ c _. (h.each c).pays) in
      let q = sum_le expense_count (λ c. held_in k g u (m.expense c)) (λ c. held_in k g u (l.expense c)) (λ c j. one c j) in
      raw_at_least (rw h.ruled p) (rw h.ruled q)
    where
      one : (c : ℕ) → c < expense_count → held_in (l.rule g) g u (m.expense c) ≤ held_in (l.rule g) g u (l.expense c)
      one c j =
          let x = held_owed (l.rule g) g u u8 (m.expense c) in
          let y = (h.each c).owes in
          let w = clear_owed (l.rule g) g u (l.expense c) (none_below expense_count _ z c j) in
          omega arith

abbrev is_add : Action → Bool
is_add (found a g k) = false
is_add (add a o g) = true
is_add (leave a g) = false
is_add (enter a c s day) = false
is_add (put_in a g c) = false
is_add (take_out a g c) = false
is_add (change a c s day) = false
is_add (delete a c) = false
is_add (acknowledge a c) = false
is_add (absorb a o c) = false

acknowledge_adds : {a c b o g : ℕ} → acknowledge a c ≡ add b o g → ⊥
acknowledge_adds q = clash (ap is_add q) refl

-- All that others do, one step after the other.
others_keep : (home : ℕ → ℕ) (g u : ℕ) → g < group_count → u < user_count → (xs : List (ℕ × Action)) (l : Ledger) → 0 < l.counter g u → member l g u ≡ false
    → ByOthers home g u xs l → Kept g u l (after_all xs l)
unfolding after_all ByOthers
others_keep home g u g16 u8 [] l once out s = record { ruled = refl; each = λ c. no_worse_same (l.rule g) g u (l.expense c) }
others_keep home g u g16 u8 (x ∷ xs) l once out s =
    let m = ledger_after x.1 l in
    let n = counter_stays g u g16 u8 l once out x.1 s.1 s.2 in
    let k = rule_stays g u g16 u8 l once out home x.0 x.1 s.0 in
    let ih = others_keep home g u g16 u8 xs m (rw n once) (ap (λ t. eqb (t % 2) 1) n ∙ out) s.3 in
    record {
      ruled = ih.ruled ∙ k;
      each = λ c. no_worse_then (l.rule g) g u (l.expense c) (m.expense c) ((after_all xs m).expense c) (no_worse_step g u g16 u8 l once out home x.0 x.1 s.0 s.1 c)
          (subst (λ t. NoWorse t g u (m.expense c) ((after_all xs m).expense c)) k (ih.each c));
    }

-- Who has left is no member, owes nothing, and has nothing pending.
module _ (home : ℕ → ℕ) (r g u : ℕ) (l : Ledger) (e : answer home r (some (leave u g)) l ≡ 0) where
  fields : (u < user_count) × (g < group_count)
  unfolding answer checks fields_fit
  fields = let f = test _ (not_false _ (pass _ tt e 0)) in (ltb_lt u 8 (f 0), ltb_lt g 16 (f 1))

  settles : pending l g u ≡ false
  unfolding answer checks
  settles = pass _ tt e 5

  leaves_out : member (ledger_after (leave u g) l) g u ≡ false
  unfolding answer checks gives
  leaves_out =
      let p = pass _ tt e in
      let m = eqb_true (l.counter g u % 2) 1 (not_false _ (p 3)) in
      rw (eqb_self g, eqb_self u) (eqb_other (suc (l.counter g u) % 2) 1 (omega arith))

  was_in : 0 < (ledger_after (leave u g) l).counter g u
  unfolding gives
  was_in = rw (eqb_self g, eqb_self u) (omega arith)

  after_leaving : (xs : List (ℕ × Action)) → ByOthers home g u xs (ledger_after (leave u g) l) → AtLeast (raw (ledger_after (leave u g) l) g u) (raw (after_all xs (ledger_after (leave u g) l)) g u)
  unfolding gives pending
  after_leaving xs s =
      let m = ledger_after (leave u g) l in
      kept_raw m (after_all xs m) g u fields.0 settles (others_keep home g u fields.1 fields.0 xs m was_in leaves_out s)

  even_after : (k : ℕ) × (raw (ledger_after (leave u g) l) g u ≡ pos k)
  unfolding answer checks gives raw paid held
  even_after = go (less? (paid l g u) (held l g u)) (pass _ tt e 4)
    where
      go : Less (paid l g u) (held l g u) → ltb (paid l g u) (held l g u) ≡ false → (k : ℕ) × (sub_ℕ (paid l g u) (held l g u) ≡ pos k)
      go (less _ q) z = absurd (clash q z)
      go (more _ q) z = (paid l g u - held l g u, rw q)

  pub leaver_kept : LeaverKept home r g u l
  unfolding after_all ByOthers
  leaver_kept = record {
    settled = settles;
    acknowledged = λ w a c ne x. after_leaving ((w, acknowledge a c) ∷ []) (x, (λ q. ne (unfold actor in q)), (λ b q. acknowledge_adds q), tt);
    kept = after_leaving;
    owes_nothing = λ xs s. let a = even_after in let b = after_leaving xs s in (a.0 + b.0, b.1 ∙ ap (λ z. z +ℤ pos b.0) a.1);
  }
