-- The SplitLess module, lines 476 to 618: its invariants, of one replica each, and its three safety properties, of one step each.
-- Hyphens stand for the module's underscores, which would make operators of these names.
use Rattle.std.specs.Prelude.{◌≡◌, true, false, ◌≢◌, ℕ, ◌≤◌, ◌<◌, ltb, pos, ◌+ℤ◌}
use Rattle.std.proofs.Math.Option.{some}
use Rattle.splitless.specs.Module.State.{USERS, POSSIBLE_EXPENSE_IDS, POSSIBLE_GROUP_IDS, POSSIBLE_REPLICA_IDS, Expense, Group, Replica, Replicas, NO_EXPENSE, NO_GROUP, expense, group, SumIntegers, SumShares, total_gifted, Balance}

-- e ∈ Expense, 20 to 29. (Versions and amounts are natural numbers, flags are Booleans by their types; from user 8 on there is nothing.)
abbrev pub OfExpense : Expense → Type 0
OfExpense e =
    (e.id < POSSIBLE_EXPENSE_IDS)  -- 21
    × ((gid : ℕ) → e.group ≡ some gid → gid < POSSIBLE_GROUP_IDS)  -- 22
    × (e.payer < USERS)  -- 24
    × ((u : ℕ) → USERS ≤ u → e.shares u ≡ 0)  -- 27
    × ((u : ℕ) → USERS ≤ u → e.acknowledged_shares u ≡ false)  -- 28

-- g ∈ Group, 31 to 33
abbrev pub OfGroup : Group → Type 0
OfGroup g =
    (g.id < POSSIBLE_GROUP_IDS)  -- 32
    × ((u : ℕ) → USERS ≤ u → g.members u ≡ 0)  -- 33

-- 476
abbrev pub TypeOK : Replica → Type 0
TypeOK r =
    ((eid : ℕ) → eid < POSSIBLE_EXPENSE_IDS → (e : Expense) → r.recorded_expenses eid ≡ some e → OfExpense e)  -- 478, 479
    × ((gid : ℕ) → gid < POSSIBLE_GROUP_IDS → (g : Group) → r.groups gid ≡ some g → OfGroup g)  -- 480, 481

-- 483
abbrev pub InvConservationOfAmount : Replica → Type 0
InvConservationOfAmount r =
    (eid : ℕ) → eid < POSSIBLE_EXPENSE_IDS  -- 485
    → r.recorded_expenses eid ≢ NO_EXPENSE  -- 486
    → (expense r eid).amount ≡ SumShares (expense r eid).shares  -- 487, 488

-- 490; 494 is a comment that lost its mark (Module)
abbrev pub InvExpenseGroupExists : Replica → Type 0
InvExpenseGroupExists r =
    (eid : ℕ) → eid < POSSIBLE_EXPENSE_IDS  -- 492
    → r.recorded_expenses eid ≢ NO_EXPENSE  -- 493
    → (gid : ℕ) → (expense r eid).group ≡ some gid  -- 495
    → r.groups gid ≢ NO_GROUP  -- 497

-- 500
abbrev pub InvGroupBalanceZero : Replica → Type 0
InvGroupBalanceZero r =
    (gid : ℕ) → gid < POSSIBLE_GROUP_IDS  -- 502
    → r.groups gid ≢ NO_GROUP  -- 503
    → SumIntegers USERS (λ u. ltb 0 ((group r gid).members u)) (λ u. Balance u gid r)  -- 504 to 508
    +ℤ pos (total_gifted r gid) ≡ pos 0  -- 509

-- 512
abbrev pub Inv : Replica → Type 0
Inv r =
    TypeOK r  -- 513
    × InvConservationOfAmount r  -- 514
    × InvExpenseGroupExists r  -- 515
    × InvGroupBalanceZero r  -- 516

-- 578
abbrev pub NoDecreaseExpenseVersion : (replicas replicas' : Replicas) → Type 0
NoDecreaseExpenseVersion replicas replicas' =
    (rid eid : ℕ) → rid < POSSIBLE_REPLICA_IDS → eid < POSSIBLE_EXPENSE_IDS  -- 579, 580
    → (replicas rid).recorded_expenses eid ≢ NO_EXPENSE  -- 581
    → ((replicas' rid).recorded_expenses eid ≢ NO_EXPENSE)  -- 583
    × ((expense (replicas rid) eid).version ≤ (expense (replicas' rid) eid).version)  -- 584, 585

-- 587
abbrev pub NoDecreaseGroupMembersCounter : (replicas replicas' : Replicas) → Type 0
NoDecreaseGroupMembersCounter replicas replicas' =
    (rid gid u : ℕ) → rid < POSSIBLE_REPLICA_IDS → gid < POSSIBLE_GROUP_IDS → u < USERS  -- 588 to 590
    → (replicas rid).groups gid ≢ NO_GROUP  -- 591
    → ((replicas' rid).groups gid ≢ NO_GROUP)  -- 593
    × ((group (replicas rid) gid).members u ≤ (group (replicas' rid) gid).members u)  -- 594, 595

-- 597
abbrev pub NoDecreaseAcknowledgedSharesSameVersion : (replicas replicas' : Replicas) → Type 0
NoDecreaseAcknowledgedSharesSameVersion replicas replicas' =
    (rid eid u : ℕ) → rid < POSSIBLE_REPLICA_IDS → eid < POSSIBLE_EXPENSE_IDS → u < USERS  -- 598 to 600
    → (replicas rid).recorded_expenses eid ≢ NO_EXPENSE  -- 601
    → (replicas' rid).recorded_expenses eid ≢ NO_EXPENSE  -- 602
    → (expense (replicas rid) eid).version ≡ (expense (replicas' rid) eid).version  -- 603
    → (expense (replicas rid) eid).acknowledged_shares u ≡ true  -- 604
    → (expense (replicas' rid) eid).acknowledged_shares u ≡ true  -- 606

-- 611 to 618: what each step must keep. A step that changes nothing keeps it, so the square brackets and their index add nothing.
pub record Safety (replicas replicas' : Replicas) : Type 0 where
  pub expense_versions_non_decreasing : NoDecreaseExpenseVersion replicas replicas'  -- 611, 612
  pub group_members_counter_non_decreasing : NoDecreaseGroupMembersCounter replicas replicas'  -- 614, 615
  pub acknowledged_shares_non_decreasing_for_same_version : NoDecreaseAcknowledgedSharesSameVersion replicas replicas'  -- 617, 618
