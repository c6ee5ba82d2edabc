-- The SplitLess module's stored gifts: lines 34, 35, 89, 107 to 117, 162 and 408 to 421. They stand beside State's replica, which has every other field.
-- What an action stores is RecalcGifts of its newReplica, or what was stored before (specs/Stored has the list).
use Rattle.std.specs.Prelude.{◌≡◌, ◌≢◌, ℕ, ◌<◌, ltb, ℤ, pos, ◌+ℤ◌, ◌-ℤ◌}
use Rattle.std.proofs.Math.Option.{Option, none, some}
use Rattle.splitless.specs.Module.State.{USERS, POSSIBLE_GROUP_IDS, Group, Replica, Replicas, NO_GROUP, group, IsMember, SumIntegers, paid_less_shares, ComputeBalances, new_total_gifted, new_individual_gifts, AtLeastZero}
use Rattle.splitless.specs.Module.Steps.{new_merge_replicas}

-- 34, 35: what a group stores.
pub record GroupGifts : Type 0 where
  pub total_gifted : ℕ  -- 34
  pub individual_gifts_sent : ℕ → ℕ  -- 35

-- What the groups of a replica store. Where there is NO_GROUP nothing is stored, and what stands here for it is never read.
abbrev pub Stored : Type 0
Stored = ℕ → GroupGifts

-- 134, 135: a new group's.
abbrev pub no_gifts : GroupGifts
no_gifts = record { total_gifted = 0; individual_gifts_sent = λ u. 0 }

-- 107, 108
abbrev pub ComputeGifts : Group → (ℕ → ℤ) → GroupGifts
ComputeGifts grp balances = record { total_gifted = new_total_gifted grp balances; individual_gifts_sent = new_individual_gifts grp balances }

-- 111 to 117, of a replica's groups and expenses: each action that calls it hands over those of its newReplica.
unfoldable pub RecalcGifts : Replica → Stored
RecalcGifts r gid = ComputeGifts (group r gid) (ComputeBalances (group r gid) r.recorded_expenses)  -- 114 to 116

-- 263 to 265: by the group that the expense was in.
abbrev pub if_grouped : Option ℕ → (recalculated stored : Stored) → Stored
if_grouped none recalculated stored = stored  -- 264
if_grouped (some gid) recalculated stored = recalculated  -- 265

-- 408 to 421, of one group: its stored gifts on both sides, and those of the merged group and the merged expenses.
abbrev pub MergeGifts : (own other : Option Group) (stored others recalculated : GroupGifts) → GroupGifts
MergeGifts none none stored others recalculated = stored  -- 410
MergeGifts (some grpOwn) none stored others recalculated = stored  -- 412
MergeGifts none (some grpOther) stored others recalculated = others  -- 414
MergeGifts (some grpOwn) (some grpOther) stored others recalculated = recalculated  -- 420, 421

unfoldable pub gifts_merge_replicas : (own other : Replica) (stored others : Stored) → Stored
gifts_merge_replicas own other stored others gid =
    MergeGifts (own.groups gid) (other.groups gid) (stored gid) (others gid) (RecalcGifts (new_merge_replicas own other) gid)  -- 436 to 441

-- 83 to 89
abbrev pub BalanceStored : ℕ → ℕ → Replica → Stored → ℤ
BalanceStored u gid replica stored =
    paid_less_shares gid replica.recorded_expenses u  -- 84 to 88
    -ℤ pos ((stored gid).individual_gifts_sent u)  -- 89

-- 155 to 162, with what replicas[rid] stores.
abbrev pub LeaveGroupStored : (ℕ → ℕ) → ℕ → Replicas → Stored → (actor gid : ℕ) → Type 0
LeaveGroupStored ASSIGNED_REPLICA rid replicas stored actor gid =
    (ASSIGNED_REPLICA actor ≡ rid)  -- 159
    × ((replicas rid).groups gid ≢ NO_GROUP)  -- 160
    × IsMember ((group (replicas rid) gid).members actor)  -- 161
    × AtLeastZero (BalanceStored actor gid (replicas rid) stored)  -- 162

-- 500, with what the groups store.
abbrev pub GroupBalanceZeroStored : Replica → Stored → Type 0
GroupBalanceZeroStored r stored =
    (gid : ℕ) → gid < POSSIBLE_GROUP_IDS  -- 502
    → r.groups gid ≢ NO_GROUP  -- 503
    → SumIntegers USERS (λ u. ltb 0 ((group r gid).members u)) (λ u. BalanceStored u gid r stored)  -- 504 to 508
    +ℤ pos (stored gid).total_gifted ≡ pos 0  -- 509
