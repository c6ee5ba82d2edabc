-- How a ledger shows a replica of the module, which of the module's actions each kind is, and the papers' limits with their refusals.
-- Rests on the rules' definitions and on Module.
use Rattle.std.specs.Prelude.{◌≡◌, Bool, true, false, cond, ◌&&◌, ◌≢◌, ℕ, ◌/◌, ◌≤◌, ◌<◌, ltb, eqb}
use Rattle.std.proofs.Math.Option.{Option, some, map}
use Rattle.format.specs.Layout.{Version, current, expense_count, no_group, groups_each, expenses_each, most_total, last_counter, last_version, use_rule}
use Rattle.format.specs.Bytes.{Bytes}
use Rattle.rules.specs.Ledger.{Expense, with_acks, Ledger, member, total, group_absent}
use Rattle.rules.specs.Balance.{counts_acknowledged, raw}
use Rattle.rules.specs.Pending.{pending}
use Rattle.rules.specs.Action.{Action, found, add, leave, enter, put_in, take_out, change, delete, acknowledge, absorb}
use Rattle.images.specs.Image.{decode_in, replica_of}
use Rattle.images.specs.Calls.{raised_in}
use Rattle.splitless.specs.Module as M

-- The number of an expense's group: the paper's 255 is the module's NO_GROUP.
abbrev pub shown_id : ℕ → Option ℕ
shown_id g = cond (eqb g no_group) M.no_group_id (some g)

-- Expense c. "The amount is the total of the shares and isn't stored."
abbrev pub shown_expense : ℕ → Expense → M.Expense
shown_expense c e = record {
  id = c;
  group = shown_id e.group;
  version = e.version;
  payer = e.payer;
  amount = total e;
  shares = M.numbers e.shares;
  acknowledged_shares = M.flags e.acknowledged;
  deleted = e.deleted;
}

-- Group g with these counters. "A crew is absent when all eight are zero."
abbrev pub shown_group : ℕ → (ℕ → ℕ) → Bool → Option M.Group
shown_group g counter absent = cond absent M.NO_GROUP (some (record { id = g; members = M.numbers counter }))

-- The replica that a ledger shows.
unfoldable pub show : (replica : ℕ) → Ledger → M.Replica
show r l = record {
  id = r;
  recorded_expenses = λ c. map (shown_expense c) (l.expense c);
  groups = λ g. shown_group g (l.counter g) (group_absent l g);
}

-- The replica that an image of a version shows. (A group's rule and an expense's day are not the module's, and are not shown.)
unfoldable pub shown_in : Version → Bytes → M.Replica
shown_in v b = show (replica_of b) (decode_in v b)

-- And that an image of any version shows, "compared after raising": in the current.
unfoldable pub shown : Bytes → M.Replica
shown b = shown_in current (raised_in current b)

-- The module enables this kind on replica rid. Kind 2 is AddMember: "The module's rejoin step has the same effect and is covered by this."
unfoldable pub Enabled : (home : ℕ → ℕ) (rid : ℕ) → M.Replicas → Action → Type 0
Enabled home rid replicas (found a g k) = M.CreateGroup home rid replicas a g
Enabled home rid replicas (add a o g) = M.AddMember home rid replicas a o g
Enabled home rid replicas (leave a g) = M.LeaveGroup home rid replicas a g
Enabled home rid replicas (enter a c s day) = M.CreateExpense home rid replicas a (M.numbers s) c
Enabled home rid replicas (put_in a g c) = M.AddExpenseToGroup home rid replicas a c g
Enabled home rid replicas (take_out a g c) = M.RemoveExpenseFromGroup home rid replicas a c g
Enabled home rid replicas (change a c s day) = M.ModifyExpenseParameters home rid replicas a (M.numbers s) c
Enabled home rid replicas (delete a c) = M.DeleteExpense home rid replicas a c
Enabled home rid replicas (acknowledge a c) = M.AcknowledgeShare home rid replicas a c
Enabled home rid replicas (absorb a o c) = M.PayerAbsorbsLeftMemberShare home rid replicas a c o

-- The acting replica after the module's action.
unfoldable pub effect : Action → M.Replica → M.Replica
effect (found a g k) = M.new_create_group a g
effect (add a o g) = M.new_add_member o g
effect (leave a g) = M.new_leave_group a g
effect (enter a c s day) = M.new_create_expense a (M.numbers s) c
effect (put_in a g c) = M.new_add_expense_to_group c g
effect (take_out a g c) = M.new_remove_expense_from_group a c
effect (change a c s day) = M.new_modify_expense_parameters a (M.numbers s) c
effect (delete a c) = M.new_delete_expense c
effect (acknowledge a c) = M.new_acknowledge_share a c
effect (absorb a o c) = M.new_payer_absorbs_left_member_share a c o

-- 27: "version is 4,294,967,295"
abbrev pub VersionLeft : M.Replica → ℕ → Type 0
VersionLeft r c = (M.expense r c).version ≢ last_version

-- 19: "total outside 1 to 1,000,000,000". That it is no less than 1 is the module's own (183, 250).
abbrev pub TotalFits : (ℕ → ℕ) → Type 0
TotalFits s = M.SumShares (M.numbers s) ≤ most_total

-- 34, document 02's A2: "an acknowledged positive share in a cost of that crew that is neither deleted nor valid". Valid is the module's 61 to 68.
abbrev pub Waits : M.Replica → (gid u eid : ℕ) → Type 0
Waits r gid u eid =
    (r.recorded_expenses eid ≢ M.NO_EXPENSE) × ((M.expense r eid).acknowledged_shares u ≡ true) × (0 < (M.expense r eid).shares u) × ((M.expense r eid).group ≡ some gid)
    × ((M.expense r eid).deleted ≡ false) × (M.GroupExpenseIds gid r.recorded_expenses eid ≡ false)

abbrev pub NothingWaits : M.Replica → (gid u : ℕ) → Type 0
NothingWaits r gid u = (eid : ℕ) → eid < expense_count → ¬ Waits r gid u eid

-- Document 01's limits on replica r, over the module's conditions, and A2's test: "leaving is compared with the module plus this test". Behind each the refusal
-- that it gives.
unfoldable pub Limits : ℕ → Action → M.Replica → Type 0
Limits r (found a g k) m = g / groups_each ≡ r  -- 8
Limits r (add a o g) m = Unit {0}
Limits r (leave a g) m = NothingWaits m g a × ((M.group m g).members a ≢ last_counter)  -- 34, 14
Limits r (enter a c s day) m = (c / expenses_each ≡ r) × TotalFits s  -- 15, 19
Limits r (put_in a g c) m = VersionLeft m c  -- 27
Limits r (take_out a g c) m = VersionLeft m c  -- 27
Limits r (change a c s day) m = TotalFits s × VersionLeft m c  -- 19, 27
Limits r (delete a c) m = VersionLeft m c  -- 27
Limits r (acknowledge a c) m = Unit {0}
Limits r (absorb a o c) m = VersionLeft m c  -- 27

-- Document 02's A4: "The module remains the comparison for crews of rule 1." Of all kinds leaving alone looks at validity. On ledger l of replica r, whatever the
-- group's rule: raw and what is pending are by that rule. Behind each the refusal that it gives.
abbrev pub Leaves : (home : ℕ → ℕ) (r : ℕ) → Ledger → (actor group : ℕ) → Type 0
Leaves home r l a g =
    (home a ≡ r)  -- 7
    × (group_absent l g ≡ false)  -- 10
    × (member l g a ≡ true)  -- 11
    × M.AtLeastZero (raw l g a)  -- 13
    × (pending l g a ≡ false)  -- 34
    × (l.counter g a ≢ last_counter)  -- 14

-- The ledger with a bit for every positive share that counts as acknowledged.
abbrev pub nodded : Ledger → Ledger
nodded l = record {
  counter = l.counter;
  rule = l.rule;
  expense = λ c. map (λ e. with_acks e (λ u. ltb 0 (e.shares u) && counts_acknowledged (l.rule e.group) (e.shares u) (e.acknowledged u))) (l.expense c);
}

-- The ledger with other days of its expenses.
abbrev pub with_day : ℕ → Expense → Expense
with_day d e = record { payer = e.payer; group = e.group; deleted = e.deleted; acknowledged = e.acknowledged; version = e.version; shares = e.shares; day = d }

abbrev pub redated : (days : ℕ → ℕ) → Ledger → Ledger
redated days l = record { counter = l.counter; rule = l.rule; expense = λ c. map (with_day (days c)) (l.expense c) }

-- The module's condition within the limits; and what decides an action on ledger l of replica r, among all replicas: just that, but for leaving.
abbrev pub AsModule : (home : ℕ → ℕ) (r : ℕ) → M.Replicas → Action → Type 0
AsModule home r replicas x = Enabled home r replicas x × Limits r x (replicas r)

unfoldable pub Granted : (home : ℕ → ℕ) (r : ℕ) → M.Replicas → Ledger → Action → Type 0
Granted home r replicas l (found a g k) = AsModule home r replicas (found a g k)
Granted home r replicas l (add a o g) = AsModule home r replicas (add a o g)
Granted home r replicas l (leave a g) = Leaves home r l a g
Granted home r replicas l (enter a c s day) = AsModule home r replicas (enter a c s day)
Granted home r replicas l (put_in a g c) = AsModule home r replicas (put_in a g c)
Granted home r replicas l (take_out a g c) = AsModule home r replicas (take_out a g c)
Granted home r replicas l (change a c s day) = AsModule home r replicas (change a c s day)
Granted home r replicas l (delete a c) = AsModule home r replicas (delete a c)
Granted home r replicas l (acknowledge a c) = AsModule home r replicas (acknowledge a c)
Granted home r replicas l (absorb a o c) = AsModule home r replicas (absorb a o c)

-- The module is the comparison: the action is no leaving from a group of rule 2.
abbrev pub Compared : Ledger → Action → Type 0
Compared l x = (a g : ℕ) → x ≡ leave a g → l.rule g ≢ use_rule

-- The replicas as one of them sees them: of the module's test of all replicas (130, 184) the test of this one is left.
-- "Owned numbers stand in for the module's fleet-wide test for an unused number."
abbrev pub here : M.Replica → M.Replicas
here r other = r

-- Two expenses of one number, as a join meets them: with equal versions they differ in acknowledgements only. (31 otherwise.)
abbrev pub Alike : Option M.Expense → Option M.Expense → Type 0
Alike own other = (e f : M.Expense) → own ≡ some e → other ≡ some f → e.version ≡ f.version → M.acknowledged_to f.acknowledged_shares e ≡ f

-- And they have one day, of which the module knows nothing: "joins compare the day with the rest of a cost". (31 otherwise.)
abbrev pub SameDay : Option Expense → Option Expense → Type 0
SameDay own other = (e f : Expense) → own ≡ some e → other ≡ some f → e.version ≡ f.version → e.day ≡ f.day
