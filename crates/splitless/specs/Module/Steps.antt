-- The SplitLess module, lines 382 to 468 and 624: the merge of two replicas, Next, and what Spec reaches.
use Rattle.std.specs.Prelude.{◌≡◌, cond, ◌||◌, ◌≢◌, ℕ, ◌<◌, ltb, leb}
use Rattle.std.proofs.Math.Option.{Option, none, some}
use Rattle.splitless.specs.Module.State.{USERS, POSSIBLE_EXPENSE_IDS, POSSIBLE_GROUP_IDS, POSSIBLE_REPLICA_IDS, numbers, flags, except, Expense, Group, Replica, Replicas, NO_EXPENSE, NO_GROUP, Init}
use Rattle.splitless.specs.Module.Actions.{acknowledged_to, CreateGroup, new_create_group, AddMember, new_add_member, LeaveGroup, new_leave_group, CreateExpense, new_create_expense, AddExpenseToGroup, new_add_expense_to_group, RemoveExpenseFromGroup, new_remove_expense_from_group, ModifyExpenseParameters, new_modify_expense_parameters, DeleteExpense, new_delete_expense, AcknowledgeShare, new_acknowledge_share, PayerAbsorbsLeftMemberShare, new_payer_absorbs_left_member_share, RejoinToAcknowledge, new_rejoin_to_acknowledge}

-- 382 to 397
abbrev pub MergeExpense : Option Expense → Option Expense → Option Expense
MergeExpense none none = NO_EXPENSE  -- 383, 384
MergeExpense (some expOwn) none = some expOwn  -- 385, 386
MergeExpense none (some expOther) = some expOther  -- 387, 388
MergeExpense (some expOwn) (some expOther) =
    cond (ltb expOther.version expOwn.version) (some expOwn)  -- 389, 390
    (cond (ltb expOwn.version expOther.version) (some expOther)  -- 391, 392
    (some (acknowledged_to (flags (λ u. expOwn.acknowledged_shares u || expOther.acknowledged_shares u)) expOwn)))  -- 393 to 397

-- CHOOSE n ∈ {a, b} : n ≥ a ∧ n ≥ b, in 418. Only the larger of the two is such an n (proofs, choice-spec).
abbrev pub choice : ℕ → ℕ → ℕ
choice a b = cond (leb b a) a b

-- 408 to 421; mergedExpenses and gid serve the stored gifts alone
abbrev pub MergeGroup : Option Group → Option Group → Option Group
MergeGroup none none = NO_GROUP  -- 409, 410
MergeGroup (some grpOwn) none = some grpOwn  -- 411, 412
MergeGroup none (some grpOther) = some grpOther  -- 413, 414
MergeGroup (some grpOwn) (some grpOther) =
    some (record { id = grpOwn.id; members = numbers (λ u. choice (grpOwn.members u) (grpOther.members u)) })  -- 416 to 419

-- 430 to 446: newReplica
abbrev pub new_merge_replicas : Replica → Replica → Replica
new_merge_replicas own other = record {
  id = own.id;  -- 443, 444
  recorded_expenses = λ eid. MergeExpense (own.recorded_expenses eid) (other.recorded_expenses eid);  -- 431 to 434, 446
  groups = λ gid. MergeGroup (own.groups gid) (other.groups gid);  -- 436 to 441, 445
}

-- 455 to 468: a step from `replicas` to replicas', with the ranges of its quantified variables. Every action but the last sets replicas' to
-- [replicas EXCEPT ![rid] = newReplica] (138, 152, ..).
pub data Next (ASSIGNED_REPLICA : ℕ → ℕ) (replicas replicas' : Replicas) : Type 0 where
  -- 456; 125 to 138
  create_group : (actor gid rid : ℕ) → actor < USERS → gid < POSSIBLE_GROUP_IDS → rid < POSSIBLE_REPLICA_IDS
      → CreateGroup ASSIGNED_REPLICA rid replicas actor gid → replicas' ≡ except replicas rid (new_create_group actor gid (replicas rid)) → Next ASSIGNED_REPLICA replicas replicas'
  -- 457; 142 to 152
  add_member : (actor newMember gid rid : ℕ) → actor < USERS → newMember < USERS → gid < POSSIBLE_GROUP_IDS → rid < POSSIBLE_REPLICA_IDS
      → AddMember ASSIGNED_REPLICA rid replicas actor newMember gid → replicas' ≡ except replicas rid (new_add_member newMember gid (replicas rid)) → Next ASSIGNED_REPLICA replicas replicas'
  -- 458; 156 to 169
  leave_group : (actor gid rid : ℕ) → actor < USERS → gid < POSSIBLE_GROUP_IDS → rid < POSSIBLE_REPLICA_IDS
      → LeaveGroup ASSIGNED_REPLICA rid replicas actor gid → replicas' ≡ except replicas rid (new_leave_group actor gid (replicas rid)) → Next ASSIGNED_REPLICA replicas replicas'
  -- 459; 178 to 196
  create_expense : (actor : ℕ) (shares : ℕ → ℕ) (eid rid : ℕ) → actor < USERS → eid < POSSIBLE_EXPENSE_IDS → rid < POSSIBLE_REPLICA_IDS
      → CreateExpense ASSIGNED_REPLICA rid replicas actor (numbers shares) eid → replicas' ≡ except replicas rid (new_create_expense actor (numbers shares) eid (replicas rid))
      → Next ASSIGNED_REPLICA replicas replicas'
  -- 460; 200 to 218
  add_expense_to_group : (actor eid gid rid : ℕ) → actor < USERS → eid < POSSIBLE_EXPENSE_IDS → gid < POSSIBLE_GROUP_IDS → rid < POSSIBLE_REPLICA_IDS
      → AddExpenseToGroup ASSIGNED_REPLICA rid replicas actor eid gid → replicas' ≡ except replicas rid (new_add_expense_to_group eid gid (replicas rid)) → Next ASSIGNED_REPLICA replicas replicas'
  -- 461; 222 to 239
  remove_expense_from_group : (actor eid gid rid : ℕ) → actor < USERS → eid < POSSIBLE_EXPENSE_IDS → gid < POSSIBLE_GROUP_IDS → rid < POSSIBLE_REPLICA_IDS
      → RemoveExpenseFromGroup ASSIGNED_REPLICA rid replicas actor eid gid → replicas' ≡ except replicas rid (new_remove_expense_from_group actor eid (replicas rid))
      → Next ASSIGNED_REPLICA replicas replicas'
  -- 462; 243 to 269
  modify_expense_parameters : (actor : ℕ) (shares : ℕ → ℕ) (eid rid : ℕ) → actor < USERS → eid < POSSIBLE_EXPENSE_IDS → rid < POSSIBLE_REPLICA_IDS
      → ModifyExpenseParameters ASSIGNED_REPLICA rid replicas actor (numbers shares) eid
      → replicas' ≡ except replicas rid (new_modify_expense_parameters actor (numbers shares) eid (replicas rid)) → Next ASSIGNED_REPLICA replicas replicas'
  -- 463; 273 to 290
  delete_expense : (actor eid rid : ℕ) → actor < USERS → eid < POSSIBLE_EXPENSE_IDS → rid < POSSIBLE_REPLICA_IDS
      → DeleteExpense ASSIGNED_REPLICA rid replicas actor eid → replicas' ≡ except replicas rid (new_delete_expense eid (replicas rid)) → Next ASSIGNED_REPLICA replicas replicas'
  -- 464; 294 to 311
  acknowledge_share : (actor eid rid : ℕ) → actor < USERS → eid < POSSIBLE_EXPENSE_IDS → rid < POSSIBLE_REPLICA_IDS
      → AcknowledgeShare ASSIGNED_REPLICA rid replicas actor eid → replicas' ≡ except replicas rid (new_acknowledge_share actor eid (replicas rid)) → Next ASSIGNED_REPLICA replicas replicas'
  -- 465; 318 to 352
  payer_absorbs_left_member_share : (actor eid leftMember rid : ℕ) → actor < USERS → eid < POSSIBLE_EXPENSE_IDS → leftMember < USERS → rid < POSSIBLE_REPLICA_IDS
      → PayerAbsorbsLeftMemberShare ASSIGNED_REPLICA rid replicas actor eid leftMember
      → replicas' ≡ except replicas rid (new_payer_absorbs_left_member_share actor eid leftMember (replicas rid)) → Next ASSIGNED_REPLICA replicas replicas'
  -- 466; 358 to 374
  rejoin_to_acknowledge : (inviter rejoiner gid rid : ℕ) → inviter < USERS → rejoiner < USERS → gid < POSSIBLE_GROUP_IDS → rid < POSSIBLE_REPLICA_IDS
      → RejoinToAcknowledge ASSIGNED_REPLICA rid replicas inviter rejoiner gid → replicas' ≡ except replicas rid (new_rejoin_to_acknowledge rejoiner gid (replicas rid))
      → Next ASSIGNED_REPLICA replicas replicas'
  -- 467; 427 to 447, with 429
  merge_replicas : (ownRid otherRid : ℕ) → ownRid < POSSIBLE_REPLICA_IDS → otherRid < POSSIBLE_REPLICA_IDS → ownRid ≢ otherRid
      → replicas' ≡ except replicas ownRid (new_merge_replicas (replicas ownRid) (replicas otherRid)) → Next ASSIGNED_REPLICA replicas replicas'
  -- 468
  unchanged : replicas' ≡ replicas → Next ASSIGNED_REPLICA replicas replicas'

-- 624: the values of `replicas` that a behaviour of Spec comes to, from Init by steps of Next.
pub data Reached (ASSIGNED_REPLICA : ℕ → ℕ) : Replicas → Type 0 where
  initial : Reached ASSIGNED_REPLICA Init
  further : {replicas replicas' : Replicas} → Reached ASSIGNED_REPLICA replicas → Next ASSIGNED_REPLICA replicas replicas' → Reached ASSIGNED_REPLICA replicas'
