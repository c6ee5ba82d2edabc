-- The SplitLess module, lines 124 to 375: the eleven actions. Of each, first the conjuncts that enable it, for the replica `rid` among all `replicas`;
-- then the newReplica that takes the place of replicas[rid]. The ranges of the quantified variables (125 to 127, ..) stand in Next, in Steps.
use Rattle.std.specs.Prelude.{◌≡◌, Bool, true, false, cond, ◌&&◌, ◌≢◌, ℕ, suc, ◌+◌, ◌<◌, ltb, eqb}
use Rattle.std.proofs.Math.Option.{Option, some}
use Rattle.splitless.specs.Module.State.{USERS, POSSIBLE_EXPENSE_IDS, POSSIBLE_REPLICA_IDS, numbers, flags, except, Expense, Group, Replica, Replicas, NO_EXPENSE, NO_GROUP, no_group_id, expense, group, id_or, its_group, IsMember, WasEverMember, SumShares, Balance, AtLeastZero}

-- [e EXCEPT !.group = g], and so for the other fields.
abbrev pub group_to : Option ℕ → Expense → Expense
group_to g e = record { id = e.id; group = g; version = e.version; payer = e.payer; amount = e.amount; shares = e.shares; acknowledged_shares = e.acknowledged_shares; deleted = e.deleted }

abbrev pub shares_to : (ℕ → ℕ) → Expense → Expense
shares_to s e = record { id = e.id; group = e.group; version = e.version; payer = e.payer; amount = e.amount; shares = s; acknowledged_shares = e.acknowledged_shares; deleted = e.deleted }

abbrev pub amount_to : ℕ → Expense → Expense
amount_to n e = record { id = e.id; group = e.group; version = e.version; payer = e.payer; amount = n; shares = e.shares; acknowledged_shares = e.acknowledged_shares; deleted = e.deleted }

abbrev pub acknowledged_to : (ℕ → Bool) → Expense → Expense
acknowledged_to p e = record { id = e.id; group = e.group; version = e.version; payer = e.payer; amount = e.amount; shares = e.shares; acknowledged_shares = p; deleted = e.deleted }

abbrev pub deleted_to : Bool → Expense → Expense
deleted_to d e = record { id = e.id; group = e.group; version = e.version; payer = e.payer; amount = e.amount; shares = e.shares; acknowledged_shares = e.acknowledged_shares; deleted = d }

-- !.version = @ + 1
abbrev pub version_up : Expense → Expense
version_up e = record { id = e.id; group = e.group; version = suc e.version; payer = e.payer; amount = e.amount; shares = e.shares; acknowledged_shares = e.acknowledged_shares; deleted = e.deleted }

-- [replica EXCEPT !.groups = [@ EXCEPT ![gid] = g]] and [replica EXCEPT !.recorded_expenses = [@ EXCEPT ![eid] = e]]
abbrev pub groups_to : ℕ → Group → Replica → Replica
groups_to gid g r = record { id = r.id; recorded_expenses = r.recorded_expenses; groups = except r.groups gid (some g) }

abbrev pub expenses_to : ℕ → Expense → Replica → Replica
expenses_to eid e r = record { id = r.id; recorded_expenses = except r.recorded_expenses eid (some e); groups = r.groups }

-- [replica EXCEPT !.groups = [@ EXCEPT ![gid].members[u] = @ + 1]]
abbrev pub member_up : ℕ → ℕ → Replica → Replica
member_up gid u r = groups_to gid (record { id = (group r gid).id; members = except (group r gid).members u (suc ((group r gid).members u)) }) r

-- [u ∈ USERS ↦ IF u = actor ∧ shares[u] > 0 THEN TRUE ELSE FALSE]
abbrev pub only_actor : ℕ → (ℕ → ℕ) → ℕ → Bool
only_actor actor shares = flags (λ u. cond (eqb u actor && ltb 0 (shares u)) true false)

-- 124 to 139
abbrev pub CreateGroup : (ℕ → ℕ) → ℕ → Replicas → (actor gid : ℕ) → Type 0
CreateGroup ASSIGNED_REPLICA rid replicas actor gid =
    (ASSIGNED_REPLICA actor ≡ rid)  -- 128
    × ((otherRid : ℕ) → otherRid < POSSIBLE_REPLICA_IDS → (replicas otherRid).groups gid ≡ NO_GROUP)  -- 130

abbrev pub new_create_group : (actor gid : ℕ) → Replica → Replica
new_create_group actor gid r =
    groups_to gid (record {  -- 131, 136, 137
      id = gid;  -- 132
      members = numbers (λ u. cond (eqb u actor) 1 0);  -- 133
    }) r

-- 141 to 153
abbrev pub AddMember : (ℕ → ℕ) → ℕ → Replicas → (actor newMember gid : ℕ) → Type 0
AddMember ASSIGNED_REPLICA rid replicas actor newMember gid =
    (ASSIGNED_REPLICA actor ≡ rid)  -- 145
    × ((replicas rid).groups gid ≢ NO_GROUP)  -- 146
    × IsMember ((group (replicas rid) gid).members actor)  -- 147
    × (¬ IsMember ((group (replicas rid) gid).members newMember))  -- 148

abbrev pub new_add_member : (newMember gid : ℕ) → Replica → Replica
new_add_member newMember gid r = member_up gid newMember r  -- 149 to 151

-- 155 to 170
abbrev pub LeaveGroup : (ℕ → ℕ) → ℕ → Replicas → (actor gid : ℕ) → Type 0
LeaveGroup ASSIGNED_REPLICA rid replicas actor gid =
    (ASSIGNED_REPLICA actor ≡ rid)  -- 159
    × ((replicas rid).groups gid ≢ NO_GROUP)  -- 160
    × IsMember ((group (replicas rid) gid).members actor)  -- 161
    × AtLeastZero (Balance actor gid (replicas rid))  -- 162

abbrev pub new_leave_group : (actor gid : ℕ) → Replica → Replica
new_leave_group actor gid r = member_up gid actor r  -- 163 to 165, 167, 168

-- 177 to 197
abbrev pub CreateExpense : (ℕ → ℕ) → ℕ → Replicas → (actor : ℕ) (shares : ℕ → ℕ) (eid : ℕ) → Type 0
CreateExpense ASSIGNED_REPLICA rid replicas actor shares eid =
    (ASSIGNED_REPLICA actor ≡ rid)  -- 182
    × (0 < SumShares shares)  -- 183
    × ((otherRid : ℕ) → otherRid < POSSIBLE_REPLICA_IDS → (replicas otherRid).recorded_expenses eid ≡ NO_EXPENSE)  -- 184

abbrev pub new_create_expense : (actor : ℕ) (shares : ℕ → ℕ) (eid : ℕ) → Replica → Replica
new_create_expense actor shares eid r =
    expenses_to eid (record {  -- 185, 194, 195
      id = eid;  -- 186
      group = no_group_id;  -- 187
      version = 0;  -- 188
      payer = actor;  -- 189
      amount = SumShares shares;  -- 190
      shares = shares;  -- 191
      acknowledged_shares = only_actor actor shares;  -- 192
      deleted = false;  -- 193
    }) r

-- 199 to 219
abbrev pub AddExpenseToGroup : (ℕ → ℕ) → ℕ → Replicas → (actor eid gid : ℕ) → Type 0
AddExpenseToGroup ASSIGNED_REPLICA rid replicas actor eid gid =
    (ASSIGNED_REPLICA actor ≡ rid)  -- 204
    × ((replicas rid).groups gid ≢ NO_GROUP)  -- 205
    × ((replicas rid).recorded_expenses eid ≢ NO_EXPENSE)  -- 206
    × IsMember ((group (replicas rid) gid).members actor)  -- 207
    × ((expense (replicas rid) eid).payer ≡ actor)  -- 208
    × ((expense (replicas rid) eid).group ≡ no_group_id)  -- 209
    × ((u : ℕ) → u < USERS → 0 < (expense (replicas rid) eid).shares u → IsMember ((group (replicas rid) gid).members u))  -- 210, 211

abbrev pub new_add_expense_to_group : (eid gid : ℕ) → Replica → Replica
new_add_expense_to_group eid gid r = expenses_to eid (version_up (group_to (some gid) (expense r eid))) r  -- 212 to 217

-- 221 to 240
abbrev pub RemoveExpenseFromGroup : (ℕ → ℕ) → ℕ → Replicas → (actor eid gid : ℕ) → Type 0
RemoveExpenseFromGroup ASSIGNED_REPLICA rid replicas actor eid gid =
    (ASSIGNED_REPLICA actor ≡ rid)  -- 226
    × ((replicas rid).groups gid ≢ NO_GROUP)  -- 227
    × ((replicas rid).recorded_expenses eid ≢ NO_EXPENSE)  -- 228
    × IsMember ((group (replicas rid) gid).members actor)  -- 229
    × ((expense (replicas rid) eid).group ≡ some gid)  -- 230
    × ((expense (replicas rid) eid).payer ≡ actor)  -- 231

abbrev pub new_remove_expense_from_group : (actor eid : ℕ) → Replica → Replica
new_remove_expense_from_group actor eid r =
    expenses_to eid  -- 235, 237
    (acknowledged_to (only_actor actor (expense r eid).shares)  -- 234
    (version_up  -- 233
    (group_to no_group_id (expense r eid)))) r  -- 232

-- 242 to 270
abbrev pub ModifyExpenseParameters : (ℕ → ℕ) → ℕ → Replicas → (actor : ℕ) (shares : ℕ → ℕ) (eid : ℕ) → Type 0
ModifyExpenseParameters ASSIGNED_REPLICA rid replicas actor shares eid =
    (ASSIGNED_REPLICA actor ≡ rid)  -- 247
    × ((replicas rid).recorded_expenses eid ≢ NO_EXPENSE)  -- 248
    × ((expense (replicas rid) eid).payer ≡ actor)  -- 249
    × (0 < SumShares shares)  -- 250
    × ((expense (replicas rid) eid).deleted ≡ false)  -- 251
    × ((expense (replicas rid) eid).group ≢ no_group_id → (u : ℕ) → u < USERS → 0 < shares u → IsMember ((its_group (replicas rid) eid).members u))  -- 252 to 255

abbrev pub new_modify_expense_parameters : (actor : ℕ) (shares : ℕ → ℕ) (eid : ℕ) → Replica → Replica
new_modify_expense_parameters actor shares eid r =
    expenses_to eid  -- 256, 257, 266, 267
    (version_up  -- 261
    (amount_to (SumShares shares)  -- 260
    (acknowledged_to (only_actor actor shares)  -- 259
    (shares_to shares (expense r eid))))) r  -- 258

-- 272 to 291
abbrev pub DeleteExpense : (ℕ → ℕ) → ℕ → Replicas → (actor eid : ℕ) → Type 0
DeleteExpense ASSIGNED_REPLICA rid replicas actor eid =
    (ASSIGNED_REPLICA actor ≡ rid)  -- 276
    × ((replicas rid).recorded_expenses eid ≢ NO_EXPENSE)  -- 277
    × ((expense (replicas rid) eid).payer ≡ actor)  -- 278
    × ((expense (replicas rid) eid).deleted ≡ false)  -- 279
    × ((expense (replicas rid) eid).group ≢ no_group_id → IsMember ((its_group (replicas rid) eid).members actor))  -- 280 to 282

abbrev pub new_delete_expense : (eid : ℕ) → Replica → Replica
new_delete_expense eid r = expenses_to eid (version_up (deleted_to true (expense r eid))) r  -- 283, 284, 287, 288

-- 293 to 313
abbrev pub AcknowledgeShare : (ℕ → ℕ) → ℕ → Replicas → (actor eid : ℕ) → Type 0
AcknowledgeShare ASSIGNED_REPLICA rid replicas actor eid =
    (ASSIGNED_REPLICA actor ≡ rid)  -- 297
    × ((replicas rid).recorded_expenses eid ≢ NO_EXPENSE)  -- 298
    × ((expense (replicas rid) eid).deleted ≡ false)  -- 299
    × ((expense (replicas rid) eid).group ≢ no_group_id)  -- 300
    × IsMember ((its_group (replicas rid) eid).members actor)  -- 301
    × (0 < (expense (replicas rid) eid).shares actor)  -- 302
    × ((expense (replicas rid) eid).acknowledged_shares actor ≡ false)  -- 303

abbrev pub new_acknowledge_share : (actor eid : ℕ) → Replica → Replica
new_acknowledge_share actor eid r =
    expenses_to eid (acknowledged_to (except (expense r eid).acknowledged_shares actor true) (expense r eid)) r  -- 304, 305, 308, 309

-- 317 to 353
abbrev pub PayerAbsorbsLeftMemberShare : (ℕ → ℕ) → ℕ → Replicas → (actor eid leftMember : ℕ) → Type 0
PayerAbsorbsLeftMemberShare ASSIGNED_REPLICA rid replicas actor eid leftMember =
    (ASSIGNED_REPLICA actor ≡ rid)  -- 322
    × (actor ≢ leftMember)  -- 323
    × ((replicas rid).recorded_expenses eid ≢ NO_EXPENSE)  -- 324
    × ((expense (replicas rid) eid).deleted ≡ false)  -- 325
    × ((expense (replicas rid) eid).payer ≡ actor)  -- 326
    × (0 < (expense (replicas rid) eid).shares leftMember)  -- 327
    × ((expense (replicas rid) eid).acknowledged_shares leftMember ≡ false)  -- 328
    × ((expense (replicas rid) eid).group ≢ no_group_id)  -- 329
    × ((replicas rid).groups (id_or (expense (replicas rid) eid).group) ≢ NO_GROUP)  -- 330, 331
    × IsMember ((its_group (replicas rid) eid).members actor)  -- 332
    × (¬ IsMember ((its_group (replicas rid) eid).members leftMember))  -- 333
    × WasEverMember ((its_group (replicas rid) eid).members leftMember)  -- 334

-- 335 to 340
abbrev pub new_shares : (actor leftMember : ℕ) → (ℕ → ℕ) → ℕ → ℕ
new_shares actor leftMember oldShares =
    numbers (λ u.  -- 337
    cond (eqb u actor) (oldShares u + oldShares leftMember)  -- 336, 338
    (cond (eqb u leftMember) 0  -- 339
    (oldShares u)))  -- 340

abbrev pub new_payer_absorbs_left_member_share : (actor eid leftMember : ℕ) → Replica → Replica
new_payer_absorbs_left_member_share actor eid leftMember r =
    expenses_to eid  -- 341, 342, 349, 350
    (version_up  -- 347
    (acknowledged_to (flags (λ u. cond (eqb u leftMember) false ((expense r eid).acknowledged_shares u)))  -- 344 to 346
    (shares_to (new_shares actor leftMember (expense r eid).shares)  -- 335, 343
    (expense r eid)))) r

-- 357 to 375
abbrev pub RejoinToAcknowledge : (ℕ → ℕ) → ℕ → Replicas → (inviter rejoiner gid : ℕ) → Type 0
RejoinToAcknowledge ASSIGNED_REPLICA rid replicas inviter rejoiner gid =
    (ASSIGNED_REPLICA inviter ≡ rid)  -- 361
    × ((replicas rid).groups gid ≢ NO_GROUP)  -- 362
    × IsMember ((group (replicas rid) gid).members inviter)  -- 363
    × (¬ IsMember ((group (replicas rid) gid).members rejoiner))  -- 364
    × WasEverMember ((group (replicas rid) gid).members rejoiner)  -- 365
    × ((eid : ℕ) × (eid < POSSIBLE_EXPENSE_IDS)  -- 366
    × ((replicas rid).recorded_expenses eid ≢ NO_EXPENSE)  -- 367
    × ((expense (replicas rid) eid).group ≡ some gid)  -- 368
    × (0 < (expense (replicas rid) eid).shares rejoiner)  -- 369
    × ((expense (replicas rid) eid).acknowledged_shares rejoiner ≡ false))  -- 370

abbrev pub new_rejoin_to_acknowledge : (rejoiner gid : ℕ) → Replica → Replica
new_rejoin_to_acknowledge rejoiner gid r = member_up gid rejoiner r  -- 371 to 373
