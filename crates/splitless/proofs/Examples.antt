-- Document 01's example C1, a rejoin and a stale gift, by the module's definitions alone (and the words of 34): no rule of ours is used here, so it tries the transcription and not the
-- tie.
-- "User 0 founds crew 0, adds user 1, enters cost 0 with shares 300 and 600 for users 0 and 1, puts it in; van 1 joins van 0's image; user 1 acknowledges on van 1;
-- van 0 joins van 1's image; user 0 leaves."
use mathlib.Core.Path.{◌≡◌, refl, sym}
use mathlib.Core.Bool.{Bool, true, false, cond}
use mathlib.Core.List.{[], ◌∷◌}
use mathlib.Core.Option.{some, some-ne-none}
use Prim.Native.Nat.{ℕ, ◌<◌}
use native.Mathlib.Omega.{arith}
use lib.Dec.{eqb}
use lib.IntN.{pos, negsuc}
use Rattle.splitless.specs.Module as M
use Rattle.splitless.specs.Shown.{Waits}

-- "homes u = u"
abbrev home : ℕ → ℕ
home u = u

abbrev shares : ℕ → ℕ
shares = M.numbers (λ u. cond (eqb u 0) 300 (cond (eqb u 1) 600 0))

-- Replica 0 once expense 0 is in the group; replica 1 once user 1 has acknowledged; replica 0 once it has heard of that, and once user 0 has left.
abbrev before : M.Replica
before = M.new_add_expense_to_group 0 0 (M.new_create_expense 0 shares 0 (M.new_add_member 1 0 (M.new_create_group 0 0 (M.Init 0))))

abbrev there : M.Replica
there = M.new_acknowledge_share 1 0 (M.new_merge_replicas (M.Init 1) before)

abbrev heard : M.Replica
heard = M.new_merge_replicas before there

abbrev end : M.Replica
end = M.new_leave_group 0 0 heard

counters : (M.group end 0).members 0 ∷ (M.group end 0).members 1 ∷ (M.group end 0).members 2 ∷ [] ≡ 2 ∷ 1 ∷ 0 ∷ []
unfolding M.Init M.group M.expense
counters = refl

versions : (M.expense before 0).version ∷ (M.expense end 0).version ∷ [] ≡ 1 ∷ 1 ∷ []
unfolding M.Init M.group M.expense
versions = refl

acknowledged : (M.expense before 0).acknowledged_shares 0 ∷ (M.expense before 0).acknowledged_shares 1 ∷ (M.expense end 0).acknowledged_shares 0 ∷ (M.expense end 0).acknowledged_shares 1 ∷ []
    ≡ true ∷ false ∷ true ∷ true ∷ []
unfolding M.Init M.group M.expense M.SumShares M.SumFunction
acknowledged = refl

-- The expense counts only once user 1 has acknowledged it. Then raw is 600 and −600.
balances : M.Balance 0 0 before ∷ M.Balance 0 0 heard ∷ M.Balance 1 0 heard ∷ [] ≡ pos 0 ∷ pos 600 ∷ negsuc 599 ∷ []
unfolding M.Init M.group M.expense M.SumShares M.SumFunction M.every_user M.GroupExpenseIds M.paid_less_shares M.ComputeBalances M.individual_gifts_sent M.Balance
balances = refl

-- "gifts 600": user 0's 600 are a gift after leaving, and the balances without parts are 0 and −600.
gifts : M.total_gifted end 0 ∷ M.individual_gifts_sent end 0 0 ∷ M.individual_gifts_sent end 0 1 ∷ [] ≡ 600 ∷ 600 ∷ 0 ∷ []
unfolding M.Init M.group M.expense M.SumShares M.SumFunction M.every_user M.GroupExpenseIds M.paid_less_shares M.ComputeBalances M.individual_gifts_sent M.total_gifted
gifts = refl

left_balances : M.Balance 0 0 end ∷ M.Balance 1 0 end ∷ [] ≡ pos 0 ∷ negsuc 599 ∷ []
unfolding M.Init M.group M.expense M.SumShares M.SumFunction M.every_user M.GroupExpenseIds M.paid_less_shares M.ComputeBalances M.individual_gifts_sent M.Balance
left_balances = refl

-- User 0 may leave, with 600 at stake; user 1, at −600, may not.
leaves : M.LeaveGroup home 0 (M.except M.Init 0 heard) 0 0
unfolding M.Init M.group M.expense M.SumShares M.SumFunction M.every_user M.GroupExpenseIds M.paid_less_shares M.ComputeBalances M.individual_gifts_sent M.Balance
leaves = (refl, some-ne-none _, refl, tt)

stays : (¬ M.LeaveGroup home 1 (M.except M.Init 1 heard) 1 0)
unfolding M.Init M.group M.expense M.SumShares M.SumFunction M.every_user M.GroupExpenseIds M.paid_less_shares M.ComputeBalances M.individual_gifts_sent M.Balance
stays h = h.3

-- Before user 1 has acknowledged, the module lets user 0 leave, whose own share is acknowledged from the start: the step that 34 stops.
leaves_early : M.LeaveGroup home 0 (M.except M.Init 0 before) 0 0
unfolding M.Init M.group M.expense M.SumShares M.SumFunction M.every_user M.GroupExpenseIds M.paid_less_shares M.ComputeBalances M.individual_gifts_sent M.Balance
leaves_early = (refl, some-ne-none _, refl, tt)

waits : Waits before 0 0 0
unfolding M.Init M.group M.expense M.SumShares M.SumFunction M.every_user M.GroupExpenseIds
waits = (some-ne-none _, refl, omega arith, refl, refl, refl)

-- User 1 leaves on replica 1 without having acknowledged, and replica 0 hears of it: user 0 may call user 1 back.
abbrev gone : M.Replica
gone = M.new_merge_replicas before (M.new_leave_group 1 0 (M.new_merge_replicas (M.Init 1) before))

called_back : M.RejoinToAcknowledge home 0 (M.except M.Init 0 gone) 0 1 0
unfolding M.Init M.group M.expense M.SumShares M.SumFunction
called_back = (refl, some-ne-none _, refl, λ h. omega arith, omega arith, (0, omega arith, some-ne-none _, refl, omega arith, refl))

back : (M.group (M.new_rejoin_to_acknowledge 1 0 gone) 0).members 1 ≡ 3
unfolding M.Init M.group M.expense
back = refl

-- Not user 1 while still a member (364), nor user 2, never one (365); nor user 1 who left before the expense was put in, with nothing to acknowledge (368).
still_there : (¬ M.RejoinToAcknowledge home 0 (M.except M.Init 0 before) 0 1 0)
unfolding M.Init M.group M.expense
still_there h = h.3 refl

never_there : (¬ M.RejoinToAcknowledge home 0 (M.except M.Init 0 gone) 0 2 0)
unfolding M.Init M.group M.expense
never_there h = let n : 0 < 0 = h.4 in omega arith

abbrev parted : M.Replica
parted = M.new_create_expense 0 shares 0 (M.new_leave_group 1 0 (M.new_add_member 1 0 (M.new_create_group 0 0 (M.Init 0))))

nothing_owed : (¬ M.RejoinToAcknowledge home 0 (M.except M.Init 0 parted) 0 1 0)
unfolding M.Init M.group M.expense
nothing_owed h = go h.5.0 (eqb h.5.0 0) refl h.5.3
  where
    go : (eid : ℕ) (b : Bool) → eqb eid 0 ≡ b → (M.expense parted eid).group ≡ some 0 → ⊥
    go eid true e p = some-ne-none 0 (sym (rw e at p))
    go eid false e p = some-ne-none 0 (sym (rw e at p))

-- A stale gift: users 0 and 1 are at home on replica 0. User 1 acknowledges and user 0 leaves, which stores 600 as given; user 1 adds user 0 again, which
-- recalculates nothing. With the stored gift user 0 has 0, with the gift of the moment 600: by either user 0 may leave.
abbrev house : ℕ → ℕ
house u = 0

abbrev left : M.Replica
left = M.new_leave_group 0 0 (M.new_acknowledge_share 1 0 before)

abbrev again : M.Replica
again = M.new_add_member 0 0 left

stale : (M.RecalcGifts left 0).individual_gifts_sent 0 ∷ M.individual_gifts_sent again 0 0 ∷ [] ≡ 600 ∷ 0 ∷ []
unfolding M.Init M.group M.expense M.SumShares M.SumFunction M.every_user M.GroupExpenseIds M.paid_less_shares M.ComputeBalances M.individual_gifts_sent M.RecalcGifts
stale = refl

stale_balances : M.BalanceStored 0 0 again (M.RecalcGifts left) ∷ M.Balance 0 0 again ∷ [] ≡ pos 0 ∷ pos 600 ∷ []
unfolding M.Init M.group M.expense M.SumShares M.SumFunction M.every_user M.GroupExpenseIds M.paid_less_shares M.ComputeBalances M.individual_gifts_sent M.RecalcGifts M.Balance
stale_balances = refl

leaves_stale : M.LeaveGroupStored house 0 (M.except M.Init 0 again) (M.RecalcGifts left) 0 0
unfolding M.Init M.group M.expense M.SumShares M.SumFunction M.every_user M.GroupExpenseIds M.paid_less_shares M.ComputeBalances M.RecalcGifts
leaves_stale = (refl, some-ne-none _, refl, tt)
