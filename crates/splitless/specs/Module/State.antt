-- The SplitLess module, lines 4 to 117: constants, records, Init, helper functions. Rests on the kit alone.
use Rattle.std.specs.Prelude.{◌≡◌, Bool, true, false, not, cond, ◌&&◌, ◌||◌, ℕ, zero, suc, ◌+◌, ◌%◌, ◌<◌, ltb, eqb, ℤ, pos, negsuc, ◌+ℤ◌, ◌-ℤ◌}
use Rattle.std.proofs.Math.Option.{Option, none, some}
use Rattle.std.proofs.Math.IntN.{sub_ℕ}

-- CONSTANTS, 4 to 12, with the values that document 01 gives: users, expenses, groups and replicas are the numbers below these.
-- POSSIBLE_SHARES (6) is every function of the users. ASSIGNED_REPLICA (12) is a parameter of each action.
abbrev pub USERS : ℕ
USERS = 8  -- 5

abbrev pub POSSIBLE_EXPENSE_IDS : ℕ
POSSIBLE_EXPENSE_IDS = 512  -- 7

abbrev pub POSSIBLE_GROUP_IDS : ℕ
POSSIBLE_GROUP_IDS = 16  -- 8

abbrev pub POSSIBLE_REPLICA_IDS : ℕ
POSSIBLE_REPLICA_IDS = 8  -- 11

-- [u ∈ USERS ↦ f[u]]: a function of the users is kept as one of all numbers that is 0, or FALSE, from 8 on. So two are the same just when they are equal.
abbrev pub numbers : (ℕ → ℕ) → ℕ → ℕ
numbers f u = cond (ltb u USERS) (f u) 0

abbrev pub flags : (ℕ → Bool) → ℕ → Bool
flags p u = cond (ltb u USERS) (p u) false

-- [f EXCEPT ![k] = v]
abbrev pub except : {A : Type 0} → (ℕ → A) → ℕ → A → ℕ → A
except f k v i = cond (eqb i k) v (f i)

-- 20 to 29. The group is NO_GROUP (`none`) or a number.
pub record Expense : Type 0 where
  pub id : ℕ  -- 21
  pub group : Option ℕ  -- 22
  pub version : ℕ  -- 23
  pub payer : ℕ  -- 24
  pub amount : ℕ  -- 25
  pub shares : ℕ → ℕ  -- 27
  pub acknowledged_shares : ℕ → Bool  -- 28
  pub deleted : Bool  -- 29

-- 31 to 35
pub record Group : Type 0 where
  pub id : ℕ  -- 32
  pub members : ℕ → ℕ  -- 33

-- 37 to 41
pub record Replica : Type 0 where
  pub id : ℕ  -- 38
  pub recorded_expenses : ℕ → Option Expense  -- 39
  pub groups : ℕ → Option Group  -- 40

-- The variable `replicas`, 14.
abbrev pub Replicas : Type 0
Replicas = ℕ → Replica

-- 9, 10: NO_EXPENSE, and NO_GROUP in place of a group and in place of a group's number.
abbrev pub NO_EXPENSE : Option Expense
NO_EXPENSE = none

abbrev pub NO_GROUP : Option Group
NO_GROUP = none

abbrev pub no_group_id : Option ℕ
no_group_id = none

-- 46 to 53
unfoldable pub Init : Replicas
Init rid = record {
  id = rid;  -- 49
  recorded_expenses = λ eid. NO_EXPENSE;  -- 50
  groups = λ gid. NO_GROUP;  -- 51
}

-- replicas[rid].recordedExpenses[eid] and replicas[rid].groups[gid] read as records. The module reads them behind a test that they are not NO_EXPENSE or NO_GROUP,
-- but for 254, 281 and 301, where its invariant 490 stands behind. A function needs something there otherwise: zeros, on which no condition comes to depend.
abbrev pub expense_or : Option Expense → Expense
expense_or none = record { id = 0; group = no_group_id; version = 0; payer = 0; amount = 0; shares = λ u. 0; acknowledged_shares = λ u. false; deleted = false }
expense_or (some e) = e

abbrev pub group_or : ℕ → Option Group → Group
group_or gid none = record { id = gid; members = λ u. 0 }
group_or gid (some g) = g

unfoldable pub expense : Replica → ℕ → Expense
expense r eid = expense_or (r.recorded_expenses eid)

unfoldable pub group : Replica → ℕ → Group
group r gid = group_or gid (r.groups gid)

-- replicas[rid].groups[replicas[rid].recordedExpenses[eid].group]
abbrev pub id_or : Option ℕ → ℕ
id_or none = 0
id_or (some gid) = gid

abbrev pub its_group : Replica → ℕ → Group
its_group r eid = group r (id_or (expense r eid).group)

-- 70, 71
abbrev pub IsMember : ℕ → Type 0
IsMember memberCounter = memberCounter % 2 ≡ 1

-- 73, 74
abbrev pub WasEverMember : ℕ → Type 0
WasEverMember memberCounter = 0 < memberCounter

-- 76 to 80: the sum of F over its domain, the numbers below n of which `domain` says yes.
unfoldable pub SumFunction : ℕ → (ℕ → Bool) → (ℕ → ℕ) → ℕ
SumFunction zero domain F = 0  -- 78
SumFunction (suc n) domain F = SumFunction n domain F + cond (domain n) (F n) 0  -- 79, 80

-- The same for a function whose values are integers (508).
unfoldable pub SumIntegers : ℕ → (ℕ → Bool) → (ℕ → ℤ) → ℤ
SumIntegers zero domain F = pos 0
SumIntegers (suc n) domain F = SumIntegers n domain F +ℤ cond (domain n) (F n) (pos 0)

-- SumFunction(shares), 183, 190, 250, 260, 488: its domain is USERS.
unfoldable pub SumShares : (ℕ → ℕ) → ℕ
SumShares shares = SumFunction USERS (λ u. true) shares

-- ∀ u ∈ DOMAIN shares : p(u), as a test of the numbers below n.
unfoldable pub every_user : ℕ → (ℕ → Bool) → Bool
every_user zero p = true
every_user (suc n) p = every_user n p && p n

-- The test recordedExpensesIn[eid].group = gid, 65.
abbrev pub is_id : ℕ → Option ℕ → Bool
is_id gid none = false
is_id gid (some h) = eqb h gid

-- 61 to 68, as a test of eid.
abbrev pub counted : ℕ → Option Expense → Bool
counted gid none = false  -- 63
counted gid (some e) =
    not e.deleted  -- 64
    && is_id gid e.group  -- 65
    && every_user USERS (λ u. not (ltb 0 (e.shares u)) || e.acknowledged_shares u)  -- 66 to 68

unfoldable pub GroupExpenseIds : ℕ → (ℕ → Option Expense) → ℕ → Bool
GroupExpenseIds gid recordedExpensesIn eid = counted gid (recordedExpensesIn eid)

-- 84 to 88, and again 94 to 98: what u paid of the group's expenses, less u's shares of them.
unfoldable pub paid_less_shares : ℕ → (ℕ → Option Expense) → ℕ → ℤ
paid_less_shares gid recordedExpensesIn u =
    sub_ℕ
    (SumFunction POSSIBLE_EXPENSE_IDS (GroupExpenseIds gid recordedExpensesIn)  -- 84, 85
    (λ eid. cond (eqb (expense_or (recordedExpensesIn eid)).payer u) (expense_or (recordedExpensesIn eid)).amount 0))  -- 86, 87
    (SumFunction POSSIBLE_EXPENSE_IDS (GroupExpenseIds gid recordedExpensesIn) (λ eid. (expense_or (recordedExpensesIn eid)).shares u))  -- 88

-- 92 to 99
unfoldable pub ComputeBalances : Group → (ℕ → Option Expense) → ℕ → ℤ
ComputeBalances grp recordedExpensesIn u = paid_less_shares grp.id recordedExpensesIn u

-- balances[u] > 0, and balances[u] where it is.
abbrev pub above_zero : ℤ → Bool
above_zero (pos n) = ltb 0 n
above_zero (negsuc n) = false

abbrev pub amount_of : ℤ → ℕ
amount_of (pos n) = n
amount_of (negsuc n) = 0

-- 102 to 106: ComputeGifts, the gifts of a group given its balances.
abbrev pub gifting_users : Group → (ℕ → ℤ) → ℕ → Bool
gifting_users grp balances u = not (eqb (grp.members u % 2) 1) && above_zero (balances u)  -- 104

abbrev pub new_total_gifted : Group → (ℕ → ℤ) → ℕ
new_total_gifted grp balances = SumFunction USERS (gifting_users grp balances) (λ u. amount_of (balances u))  -- 105

abbrev pub new_individual_gifts : Group → (ℕ → ℤ) → ℕ → ℕ
new_individual_gifts grp balances u = cond (gifting_users grp balances u) (amount_of (balances u)) 0  -- 106

-- The two fields that the module stores, 34 and 35, worked out afresh: ComputeGifts of ComputeBalances, as in 114 to 116.
unfoldable pub total_gifted : Replica → ℕ → ℕ
total_gifted replica gid = new_total_gifted (group replica gid) (ComputeBalances (group replica gid) replica.recorded_expenses)

unfoldable pub individual_gifts_sent : Replica → ℕ → ℕ → ℕ
individual_gifts_sent replica gid = new_individual_gifts (group replica gid) (ComputeBalances (group replica gid) replica.recorded_expenses)

-- 83 to 89
unfoldable pub Balance : ℕ → ℕ → Replica → ℤ
Balance u gid replica =
    paid_less_shares gid replica.recorded_expenses u  -- 84 to 88
    -ℤ pos (individual_gifts_sent replica gid u)  -- 89

-- Balance(..) ≥ 0, 162
abbrev pub AtLeastZero : ℤ → Type 0
AtLeastZero (pos n) = Unit {0}
AtLeastZero (negsuc n) = ⊥
