-- Document 01, 'Steps, and what stops them': what an accepted action gives, and the ledger after it.
use Rattle.std.specs.Prelude.{Bool, true, false, cond, ◌&&◌, ◌||◌, ℕ, suc, ◌+◌, ltb, eqb}
use Rattle.std.proofs.Math.Option.{Option, map, some}
use Rattle.format.specs.Layout.{no_group}
use Rattle.rules.specs.Ledger.{Expense, with_acks, Ledger, at}
use Rattle.rules.specs.Action.{Action, found, add, leave, enter, put_in, take_out, change, delete, acknowledge, absorb}

-- One step founds a group under a rule by its first member, or gives a counter of a user in a group, a whole expense, or a user's acknowledgement of one
-- version of an expense.
pub data Given : Type 0 where
  founds : (group user rule : ℕ) → Given
  counts : (group user n : ℕ) → Given
  states : (number : ℕ) → Expense → Given
  acks : (number version user : ℕ) → Given

-- A ledger after one step.
abbrev pub add_ack : ℕ → Option Expense → Option Expense
add_ack u o = map (λ e. with_acks e (λ w. e.acknowledged w || eqb w u)) o

abbrev pub set_counter : Ledger → (g u n : ℕ) → ℕ → ℕ → ℕ
set_counter l g u n h w = cond (eqb h g && eqb w u) n (l.counter h w)

abbrev pub apply : Given → Ledger → Ledger
apply (founds g u k) l = record { counter = set_counter l g u 1; rule = λ h. cond (eqb h g) k (l.rule h); expense = l.expense }
apply (counts g u n) l = record { counter = set_counter l g u n; rule = l.rule; expense = l.expense }
apply (states c e) l = record { counter = l.counter; rule = l.rule; expense = λ d. cond (eqb d c) (some e) (l.expense d) }
apply (acks c v u) l = record { counter = l.counter; rule = l.rule; expense = λ d. cond (eqb d c) (add_ack u (l.expense d)) (l.expense d) }

-- "the payer's positive share is acknowledged, nothing else"
abbrev pub payer_ack : ℕ → (ℕ → ℕ) → ℕ → Bool
payer_ack p s u = eqb u p && ltb 0 (s u)

-- "Version 0, payer the actor, no crew, not deleted"
abbrev pub entered : (actor : ℕ) → (ℕ → ℕ) → (day : ℕ) → Expense
entered a s day = record { payer = a; group = no_group; deleted = false; acknowledged = payer_ack a s; version = 0; shares = s; day = day }

-- The next version of an expense: "Kinds 5 to 8 and 10 raise the version by 1."
abbrev pub edited : Expense → (group : ℕ) (deleted : Bool) (acknowledged : ℕ → Bool) (shares : ℕ → ℕ) (day : ℕ) → Expense
edited e g d a s day = record { payer = e.payer; group = g; deleted = d; acknowledged = a; version = suc e.version; shares = s; day = day }

-- "The share moves to the payer": a's share and o's are a's, and o has none.
abbrev pub moved : ℕ → ℕ → (ℕ → ℕ) → ℕ → ℕ
moved a o s u = cond (eqb u a) (s a + s o) (cond (eqb u o) 0 (s u))

-- What an accepted action gives.
unfoldable pub gives : Action → Ledger → Given
-- 1: "Actor's counter becomes 1", and the rule that of the action. 2: "Other's counter goes up by 1." 3: "Counter up by 1."
gives (found a g k) l = founds g a k
gives (add a o g) l = counts g o (suc (l.counter g o))
gives (leave a g) l = counts g a (suc (l.counter g a))
-- 4: a new expense. 5: "Sets crew." 6: "Crew none, acknowledgements as for kind 4."
gives (enter a c s day) l = states c (entered a s day)
gives (put_in a g c) l = states c (edited (at l c) g (at l c).deleted (at l c).acknowledged (at l c).shares (at l c).day)
gives (take_out a g c) l = states c (edited (at l c) no_group (at l c).deleted (payer_ack a (at l c).shares) (at l c).shares (at l c).day)
-- 7: "New shares, acknowledgements as for kind 4." 8: "Sets deleted; crew and acknowledgements remain."
gives (change a c s day) l = states c (edited (at l c) (at l c).group (at l c).deleted (payer_ack a s) s day)
gives (delete a c) l = states c (edited (at l c) (at l c).group true (at l c).acknowledged (at l c).shares (at l c).day)
-- 9: "Sets the bit; the version remains." 10: "The share moves to the payer, other bits remain."
gives (acknowledge a c) l = acks c (at l c).version a
gives (absorb a o c) l = states c (edited (at l c) (at l c).group (at l c).deleted (at l c).acknowledged (moved a o (at l c).shares) (at l c).day)

-- The ledger after an accepted action.
abbrev pub ledger_after : Action → Ledger → Ledger
ledger_after x l = apply (gives x l) l
