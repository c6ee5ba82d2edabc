-- Every ledger of a history fits the image of a version: its numbers fit their fields, nothing stands outside of them, each group has a rule that fits it, and
-- what the version leaves out is what reading gives back.
use mathlib.Core.Path.{◌≡◌, refl, sym, ap, subst}
use mathlib.Core.Bool.{Bool, true, false, cond, ◌&&◌, and-false}
use mathlib.Core.Option.{Option, none, some}
use Prim.Native.Nat.{ℕ, suc, ◌%◌, ◌≤◌, ◌<◌}
use native.Mathlib.Omega.{arith}
use lib.Dec.{eqb}
use Rattle.format.specs.Layout.{Version, v1, v2, v3, equal_rule}
use Rattle.rules.proofs.Basics.{same?, Same, same, other, eqb_true, eqb_self, eqb_false, false_of}
use Rattle.rules.specs.Tests.{all_of, every8}
use Rattle.rules.specs.Ledger.{Expense, Ledger, empty, nobody, at, absent}
use Rattle.rules.specs.Sound.{a_rule, rule_fits}
use Rattle.images.specs.Meaning.{rule_in, day_in}
use Rattle.rules.specs.Action.{Action, found, add, leave, enter, put_in, take_out, change, delete, acknowledge, absorb, actor, fields_fit}
use Rattle.rules.specs.Step.{Given, founds, counts, states, acks, add_ack, set_counter, apply, payer_ack, moved, gives}
use Rattle.rules.specs.Refusal.{checks, answer, at_last_version}
use Rattle.rules.proofs.Accepted.{pass, test, ltb_lt, not_false, there_is, nobody_zero, rule_two}
use Rattle.rules.proofs.Sound.{eqb_other, of_every8}

-- A day that the version can tell.
abbrev pub Dated : Version → ℕ → Type 0
Dated v d = day_in v d ≡ d

pub record Plain (v : Version) (e : Expense) : Type 0 where
  pub version32 : e.version < 4_294_967_296
  pub shares8 : (u : ℕ) → 8 ≤ u → e.shares u ≡ 0
  pub acked8 : (u : ℕ) → 8 ≤ u → e.acknowledged u ≡ false
  pub dated : Dated v e.day

abbrev pub PlainOption : Version → Option Expense → Type 0
PlainOption v none = Unit {0}
PlainOption v (some e) = Plain v e

-- A group with counters f and rule k, in version v.
pub record Ruled (v : Version) (f : ℕ → ℕ) (k : ℕ) : Type 0 where
  pub fits : rule_fits f k ≡ true
  pub kept : rule_in v f k ≡ k

pub record Encodable (v : Version) (l : Ledger) : Type 0 where
  pub counters16 : (g u : ℕ) → l.counter g u < 65_536
  pub groups16 : (g u : ℕ) → 16 ≤ g → l.counter g u ≡ 0
  pub users8 : (g u : ℕ) → 8 ≤ u → l.counter g u ≡ 0
  pub ruled : (g : ℕ) → Ruled v (l.counter g) (l.rule g)
  pub expenses512 : (c : ℕ) → 512 ≤ c → l.expense c ≡ none
  pub plain : (c : ℕ) → PlainOption v (l.expense c)

-- A group is absent where all its counters are zero, and present with one that is not.
pub nobody_of : (f : ℕ → ℕ) → ((u : ℕ) → u < 8 → f u ≡ 0) → nobody f ≡ true
nobody_of f h = of_every8 _ (λ u k. rw (h u k))

pub somebody : (f : ℕ → ℕ) (u : ℕ) → u < 8 → 0 < f u → nobody f ≡ false
somebody f u k pos = false_of (nobody f) (λ e. let z = nobody_zero f e u k in omega arith)

-- An absent group has rule 0, in every version; a present one has one of the rules that the version can tell.
pub absent_ruled : (v : Version) (f : ℕ → ℕ) → nobody f ≡ true → Ruled v f 0
absent_ruled v1 f e = record { fits = rw e; kept = rw e }
absent_ruled v2 f e = record { fits = rw e; kept = refl }
absent_ruled v3 f e = record { fits = rw e; kept = refl }

abbrev pub Told : Version → ℕ → Type 0
Told v k = rule_in v (λ u. 1) k ≡ k

pub told_equal : (v : Version) → Told v equal_rule
unfolding every8 all_of
told_equal v1 = refl
told_equal v2 = refl
told_equal v3 = refl

present_ruled : (v : Version) (f : ℕ → ℕ) (k : ℕ) → nobody f ≡ false → a_rule k ≡ true → Told v k → Ruled v f k
unfolding every8 all_of
present_ruled v1 f k e a t = record { fits = rw e a; kept = rw e t }
present_ruled v2 f k e a t = record { fits = rw e a; kept = refl }
present_ruled v3 f k e a t = record { fits = rw e a; kept = refl }

told : (v : Version) (f : ℕ → ℕ) (k : ℕ) → nobody f ≡ false → rule_in v f k ≡ k → Told v k
unfolding every8 all_of
told v1 f k e h = rw e at h
told v2 f k e h = refl
told v3 f k e h = refl

module _ {v : Version} {f : ℕ → ℕ} {k : ℕ} (r : Ruled v f k) where
  pub absent_zero : nobody f ≡ true → k ≡ 0
  absent_zero e = eqb_true k 0 (rw e at r.fits)

  pub present_rule : nobody f ≡ false → a_rule k ≡ true
  present_rule e = rw e at r.fits

  pub rule_small : k < 3
  rule_small = go (nobody f) refl
    where
      go : (b : Bool) → nobody f ≡ b → k < 3
      go true e = let z = absent_zero e in omega arith
      go false e = (rule_two k (present_rule e)).1

  -- A present group stays under its rule, whatever its counters become.
  pub ruled_on : (f' : ℕ → ℕ) → nobody f ≡ false → nobody f' ≡ false → Ruled v f' k
  ruled_on f' e e' = present_ruled v f' k e' (present_rule e) (told v f k e r.kept)

pub empty_encodable : (v : Version) → Encodable v empty
empty_encodable v = record {
  counters16 = λ g u. omega arith;
  groups16 = λ g u h. refl;
  users8 = λ g u h. refl;
  ruled = λ g. absent_ruled v (λ u. 0) (nobody_of (λ u. 0) (λ u k. refl));
  expenses512 = λ c h. refl;
  plain = λ c. tt;
}

-- A step that fits.
abbrev pub Tidy : Version → Ledger → Given → Type 0
Tidy v l (founds g u k) = (g < 16) × (u < 8) × (a_rule k ≡ true) × Told v k
Tidy v l (counts g u n) = (g < 16) × (u < 8) × (n < 65_536) × (0 < n) × (nobody (l.counter g) ≡ false)
Tidy v l (states c e) = (c < 512) × Plain v e
Tidy v l (acks c w u) = u < 8

-- An action's shares are those of the eight users, and its rule or its day is one that the version can tell.
abbrev pub Narrow : Version → Action → Type 0
Narrow v (found a g k) = Told v k
Narrow v (add a o g) = Unit {0}
Narrow v (leave a g) = Unit {0}
Narrow v (enter a c s day) = ((u : ℕ) → 8 ≤ u → s u ≡ 0) × Dated v day
Narrow v (put_in a g c) = Unit {0}
Narrow v (take_out a g c) = Unit {0}
Narrow v (change a c s day) = ((u : ℕ) → 8 ≤ u → s u ≡ 0) × Dated v day
Narrow v (delete a c) = Unit {0}
Narrow v (acknowledge a c) = Unit {0}
Narrow v (absorb a o c) = Unit {0}

one_counter : (P : ℕ → Type 0) (l : Ledger) (g u n h w : ℕ) → (h ≡ g → w ≡ u → P n) → P (l.counter h w) → P (cond (eqb h g && eqb w u) n (l.counter h w))
one_counter P l g u n h w new old = go (same? h g) (same? w u)
  where
    go : Same h g → Same w u → P (cond (eqb h g && eqb w u) n (l.counter h w))
    go (same p a) (same q b) = rw (a, b) (new p q)
    go (same p a) (other q b) = rw (a, b) old
    go (other p a) _ = rw a old

one_expense : (P : Option Expense → Type 0) (l : Ledger) (c d : ℕ) (o : Option Expense) → (d ≡ c → P o) → P (l.expense d) → P (cond (eqb d c) o (l.expense d))
one_expense P l c d o new old = go (same? d c)
  where
    go : Same d c → P (cond (eqb d c) o (l.expense d))
    go (same p a) = rw a (new p)
    go (other p a) = rw a old

more_acks : (v : Version) (u : ℕ) → u < 8 → (o : Option Expense) → PlainOption v o → PlainOption v (add_ack u o)
more_acks v u k none p = tt
more_acks v u k (some e) p = record {
  version32 = p.version32;
  shares8 = p.shares8;
  acked8 = λ w j. rw (p.acked8 w j) (eqb_other w u (omega arith));
  dated = p.dated;
}

none_acks : (u : ℕ) (o : Option Expense) → o ≡ none → add_ack u o ≡ none
none_acks u o p = rw p

-- A group of which one counter is set: present, where the counter is above zero.
set_present : (l : Ledger) (g u n : ℕ) → u < 8 → 0 < n → nobody (set_counter l g u n g) ≡ false
set_present l g u n k pos = somebody (set_counter l g u n g) u k (rw (eqb_self g, eqb_self u) pos)

-- What holds at g, and at any h that is no g, holds at h.
one_group : (P : ℕ → Type 0) (g h : ℕ) → P g → (eqb h g ≡ false → P h) → P h
one_group P g h new old = go (same? h g)
  where
    go : Same h g → P h
    go (same p a) = subst P (sym p) new
    go (other p a) = old a

pub apply_encodable : {v : Version} (l : Ledger) (x : Given) → Encodable v l → Tidy v l x → Encodable v (apply x l)
apply_encodable {v} l (founds g u k) i t = record {
  counters16 = λ h w. one_counter (λ n. n < 65_536) l g u 1 h w (λ p q. omega arith) (i.counters16 h w);
  groups16 = λ h w j. one_counter (λ m. m ≡ 0) l g u 1 h w (λ p q. let z = t.0 in absurd (omega arith)) (i.groups16 h w j);
  users8 = λ h w j. one_counter (λ m. m ≡ 0) l g u 1 h w (λ p q. let z = t.1 in absurd (omega arith)) (i.users8 h w j);
  ruled = λ h. one_group (λ x. Ruled v (λ w. cond (eqb x g && eqb w u) 1 (l.counter x w)) (cond (eqb x g) k (l.rule x))) g h
      (subst (Ruled v (set_counter l g u 1 g)) (ap (λ b. cond b k (l.rule g)) (sym (eqb_self g))) (present_ruled v _ k (set_present l g u 1 t.1 (omega arith)) t.2 t.3))
      (λ a. rw a (i.ruled h));
  expenses512 = i.expenses512;
  plain = i.plain;
}
apply_encodable {v} l (counts g u n) i t = record {
  counters16 = λ h w. one_counter (λ k. k < 65_536) l g u n h w (λ p q. t.2) (i.counters16 h w);
  groups16 = λ h w k. one_counter (λ m. m ≡ 0) l g u n h w (λ p q. let z = t.0 in absurd (omega arith)) (i.groups16 h w k);
  users8 = λ h w k. one_counter (λ m. m ≡ 0) l g u n h w (λ p q. let z = t.1 in absurd (omega arith)) (i.users8 h w k);
  ruled = λ h. one_group (λ x. Ruled v (λ w. cond (eqb x g && eqb w u) n (l.counter x w)) (l.rule x)) g h (ruled_on (i.ruled g) _ t.4 (set_present l g u n t.1 t.3)) (λ a. rw a (i.ruled h));
  expenses512 = i.expenses512;
  plain = i.plain;
}
apply_encodable {v} l (states c e) i t = record {
  counters16 = i.counters16;
  groups16 = i.groups16;
  users8 = i.users8;
  ruled = i.ruled;
  expenses512 = λ d k. one_expense (λ o. o ≡ none) l c d (some e) (λ p. let z = t.0 in absurd (omega arith)) (i.expenses512 d k);
  plain = λ d. one_expense (PlainOption v) l c d (some e) (λ p. t.1) (i.plain d);
}
apply_encodable {v} l (acks c x u) i t = record {
  counters16 = i.counters16;
  groups16 = i.groups16;
  users8 = i.users8;
  ruled = i.ruled;
  expenses512 = λ d k. one_expense (λ o. o ≡ none) l c d (add_ack u (l.expense d)) (λ p. none_acks u (l.expense d) (i.expenses512 d k)) (i.expenses512 d k);
  plain = λ d. one_expense (PlainOption v) l c d (add_ack u (l.expense d)) (λ p. more_acks v u t (l.expense d) (i.plain d)) (i.plain d);
}

payer_acks : (a : ℕ) (s : ℕ → ℕ) → ((u : ℕ) → 8 ≤ u → s u ≡ 0) → (u : ℕ) → 8 ≤ u → payer_ack a s u ≡ false
payer_acks a s h u k = rw (h u k) (and-false (eqb u a))

moved_8 : (a o : ℕ) (s : ℕ → ℕ) → a < 8 → o < 8 → ((u : ℕ) → 8 ≤ u → s u ≡ 0) → (u : ℕ) → 8 ≤ u → moved a o s u ≡ 0
moved_8 a o s ka ko h u k = rw (eqb_other u a (omega arith), eqb_other u o (omega arith)) (h u k)

-- The old version of an edited expense, and its next version number.
module _ {v : Version} (l : Ledger) (c : ℕ) (i : Encodable v l) (ab : absent l c ≡ false) where
  old : Plain v (at l c)
  old = let z : PlainOption v (l.expense c) = i.plain c in rw (there_is l c ab) at z

  next : at_last_version (at l c) ≡ false → suc (at l c).version < 4_294_967_296
  next h = let z = eqb_false (at l c).version 4_294_967_295 h in let y = old.version32 in omega arith

pub tidy : {v : Version} (home : ℕ → ℕ) (replica : ℕ) (x : Action) (l : Ledger) → answer home replica (some x) l ≡ 0 → Narrow v x → Encodable v l → Tidy v l (gives x l)
unfolding answer checks gives fields_fit actor
tidy home replica (found a g k) l e w i =
    let p = pass _ tt e in
    let f = test _ (not_false _ (p 0)) in
    (ltb_lt g 16 (f 1), ltb_lt a 8 (f 0), f 2, w)
tidy home replica (add a o g) l e w i =
    let p = pass _ tt e in
    let f = test _ (not_false _ (p 0)) in
    let z = eqb_false (l.counter g o % 2) 1 (p 4) in
    let y = i.counters16 g o in
    (ltb_lt g 16 (f 2), ltb_lt o 8 (f 1), omega arith, omega arith, p 2)
tidy home replica (leave a g) l e w i =
    let p = pass _ tt e in
    let f = test _ (not_false _ (p 0)) in
    let z = eqb_false (l.counter g a) 65_535 (p 6) in
    let y = i.counters16 g a in
    (ltb_lt g 16 (f 1), ltb_lt a 8 (f 0), omega arith, omega arith, p 2)
tidy home replica (enter a c s day) l e w i =
    let p = pass _ tt e in
    let f = test _ (not_false _ (p 0)) in
    (ltb_lt c 512 (f 1), record { version32 = omega arith; shares8 = w.0; acked8 = payer_acks a s w.0; dated = w.1 })
tidy home replica (put_in a g c) l e w i =
    let p = pass _ tt e in
    let f = test _ (not_false _ (p 0)) in
    let o = old l c i (p 3) in
    (ltb_lt c 512 (f 2), record { version32 = next l c i (p 3) (p 8); shares8 = o.shares8; acked8 = o.acked8; dated = o.dated })
tidy home replica (take_out a g c) l e w i =
    let p = pass _ tt e in
    let f = test _ (not_false _ (p 0)) in
    let o = old l c i (p 3) in
    (ltb_lt c 512 (f 2), record { version32 = next l c i (p 3) (p 7); shares8 = o.shares8; acked8 = payer_acks a (at l c).shares o.shares8; dated = o.dated })
tidy home replica (change a c s day) l e w i =
    let p = pass _ tt e in
    let f = test _ (not_false _ (p 0)) in
    (ltb_lt c 512 (f 1), record { version32 = next l c i (p 2) (p 7); shares8 = w.0; acked8 = payer_acks a s w.0; dated = w.1 })
tidy home replica (delete a c) l e w i =
    let p = pass _ tt e in
    let f = test _ (not_false _ (p 0)) in
    let o = old l c i (p 2) in
    (ltb_lt c 512 (f 1), record { version32 = next l c i (p 2) (p 6); shares8 = o.shares8; acked8 = o.acked8; dated = o.dated })
tidy home replica (acknowledge a c) l e w i =
    let p = pass _ tt e in
    ltb_lt a 8 (test _ (not_false _ (p 0)) 0)
tidy home replica (absorb a o c) l e w i =
    let p = pass _ tt e in
    let f = test _ (not_false _ (p 0)) in
    let d = old l c i (p 3) in (
      ltb_lt c 512 (f 2),
      record {
        version32 = next l c i (p 3) (p 11);
        shares8 = moved_8 a o (at l c).shares (ltb_lt a 8 (f 0)) (ltb_lt o 8 (f 1)) d.shares8;
        acked8 = d.acked8;
        dated = d.dated;
      },
    )
