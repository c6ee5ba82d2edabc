-- The module's invariants hold of what a sound ledger shows.
use mathlib.Core.Path.{◌≡◌, refl, sym, subst}
use mathlib.Core.Bool.{Bool, true, false, not, cond, ◌&&◌, ◌||◌}
use mathlib.Core.Option.{Option, none, some, map, some-ne-none, some-injective}
use mathlib.Core.Logic.{◌≢◌}
use Prim.Native.Nat.{ℕ, zero, suc, ◌+◌, ◌-◌, ◌≤◌, ◌<◌}
use native.Mathlib.Omega.{arith}
use lib.Dec.{ltb, eqb}
use lib.IntN.{ℤ, pos}
use Rattle.rules.specs.Tests.{only, sum_below}
use Rattle.rules.specs.Ledger.{Expense, Ledger, member, group_absent, total, absent, at}
use Rattle.rules.specs.Sound.{sound}
use Rattle.rules.specs.Balance.{valid, paid_in, held_in, paid, held, raw, gift}
use Rattle.rules.proofs.Basics.{clash, Same, eqb_true, same?, Less, less?, ltb_false, and_left, and_right, false_of, same, other, less, more}
use Rattle.rules.proofs.Accepted.{there_is, ltb_lt}
use Rattle.rules.proofs.Sound.{Good, GoodOption, good_ledger, payers}
use Rattle.rules.proofs.Sums.{sum_8}
use Rattle.rules.proofs.Pending.{valid_group}
use Rattle.rules.proofs.Balance.{Diff, diff_sub, diff_shift, diff_add, diff_zero, diff_minus, diff_pos, raw_zero, gifts_sum, is_pos}
use Rattle.splitless.specs.Module as M
use Rattle.splitless.specs.Shown.{shown_id, shown_expense, shown_group, show}
use Rattle.splitless.proofs.Facts.{sum_shares}
use Rattle.splitless.proofs.Showing.{absent_zero, shown_counter, group_some, some_expense, shown_is}
use Rattle.splitless.proofs.Strict.{strict, sound_strict}
use Rattle.splitless.proofs.Raw.{tie_gifts, tie_balance}

-- The invariants of a replica.
module _ (home : ℕ → ℕ) (r : ℕ) (l : Ledger) (so : sound home l ≡ true) where
  is_good : (c : ℕ) → c < 512 → absent l c ≡ false → Good home l c (at l c)
  is_good c k ab = subst (λ o. GoodOption home l c o) (there_is l c ab) (good_ledger home l so c k)

  conserved : M.InvConservationOfAmount (show r l)
  conserved c k there = rw (shown_is r l c (some_expense r l c there)) (sym (sum_shares (at l c).shares))

  group_number : (c : ℕ) (e : Expense) → Good home l c e → (gid : ℕ) → shown_id e.group ≡ some gid → gid < 16
  group_number c e gd gid h = go (same? e.group 255)
    where
      either : (a b : Bool) → (a || b) ≡ true → b ≡ false → a ≡ true
      either true b x y = refl
      either false b x y = absurd (clash x y)

      go : Same e.group 255 → gid < 16
      go (same p q) = absurd (some-ne-none gid (sym (rw q at h)))
      go (other p q) =
          let same_id : e.group ≡ gid = some-injective e.group gid (rw q at h) in
          rw (← same_id) (ltb_lt e.group 16 (either (ltb e.group 16) (eqb e.group 255) gd.group16 q))

  types_ok : M.TypeOK (show r l)
  unfolding show
  types_ok = (λ c k e p. of_expense c k e (l.expense c) p (good_ledger home l so c k), λ g k m p. of_group g k m (group_absent l g) p)
    where
      none_from : (u : ℕ) → 8 ≤ u → ltb u 8 ≡ false
      none_from u k = ltb_false u 8 k

      of_expense : (c : ℕ) → c < 512 → (e : M.Expense) (o : Option Expense) → map (shown_expense c) o ≡ some e → GoodOption home l c o → M.OfExpense e
      of_expense c k e none p gd = absurd (some-ne-none e (sym p))
      of_expense c k e (some f) p gd = subst M.OfExpense (some-injective (shown_expense c f) e p) (
        k,
        group_number c f gd,
        gd.payer8,
        λ u j. rw (none_from u j),
        λ u j. rw (none_from u j),
      )

      of_group : (g : ℕ) → g < 16 → (m : M.Group) (b : Bool) → shown_group g (l.counter g) b ≡ some m → M.OfGroup m
      of_group g k m true p = absurd (some-ne-none m (sym p))
      of_group g k m false p = subst M.OfGroup (some-injective (record { id = g; members = M.numbers (l.counter g) }) m p) (k, λ u j. rw (none_from u j))

  -- It holds of deleted expenses too (494 is a comment). So the module reads no NO_GROUP in 254, 281 and 301.
  group_exists : M.InvExpenseGroupExists (show r l)
  group_exists c k there gid h = go (same? (at l c).group 255)
    where
      its : shown_id (at l c).group ≡ some gid
      its = rw (shown_is r l c (some_expense r l c there)) at h

      go : Same (at l c).group 255 → (show r l).groups gid ≢ none
      go (same p e) = absurd (some-ne-none gid (sym (rw e at its)))
      go (other p e) =
          let gd : Good home l c (at l c) = is_good c k (some_expense r l c there) in
          let q : (at l c).group ≡ gid = some-injective (at l c).group gid (rw e at its) in
          let z : 0 < l.counter (at l c).group (at l c).payer = gd.payer_in p in
          let y : group_absent l (at l c).group ≡ false = false_of _ (λ j. let x = absent_zero r l (at l c).group (at l c).payer gd.payer8 j in absurd (omega arith)) in
          group_some r l gid (rw q at y)

-- Who was never a member has paid and holds nothing.
only_none : (b : Bool) (n : ℕ) → (b ≡ true → n ≡ 0) → only b n ≡ 0
only_none true n h = h refl
only_none false n h = refl

sum_none : (n : ℕ) (f : ℕ → ℕ) → ((c : ℕ) → c < n → f c ≡ 0) → sum_below n f ≡ 0
unfolding sum_below
sum_none zero f h = refl
sum_none (suc n) f h = let x = sum_none n f (λ c k. h c (omega arith)) in let y = h n (omega arith) in omega arith

module _ (home : ℕ → ℕ) (l : Ledger) (so : sound home l ≡ true) (g u : ℕ) (g16 : g < 16) (u8 : u < 8) (z : l.counter g u ≡ 0) where
  pub never_paid : paid l g u ≡ 0
  unfolding paid
  never_paid = sum_none 512 _ (λ c k. go c (l.expense c) (good_ledger home l so c k))
    where
      go : (c : ℕ) (o : Option Expense) → GoodOption home l c o → paid_in (l.rule g) g u o ≡ 0
      go c none gd = refl
      go c (some e) gd = only_none (valid (l.rule g) g e && eqb e.payer u) (total e) (λ h.
          let p : e.group ≡ g = valid_group (l.rule g) g e (and_left (valid (l.rule g) g e) (eqb e.payer u) h) in
          let q : e.payer ≡ u = eqb_true e.payer u (and_right (valid (l.rule g) g e) (eqb e.payer u) h) in
          let y : 0 < l.counter e.group e.payer = gd.payer_in (omega arith) in
          let x : 0 < l.counter g u = rw (p, q) at y in
          absurd (omega arith))

  pub never_held : held l g u ≡ 0
  unfolding held
  never_held = sum_none 512 _ (λ c k. go c (l.expense c) (good_ledger home l so c k))
    where
      go : (c : ℕ) (o : Option Expense) → GoodOption home l c o → held_in (l.rule g) g u o ≡ 0
      go c none gd = refl
      go c (some e) gd = only_none (valid (l.rule g) g e) (e.shares u) (λ h. none_held (less? 0 (e.shares u)) (valid_group (l.rule g) g e h))
        where
          none_held : Less 0 (e.shares u) → e.group ≡ g → e.shares u ≡ 0
          none_held (less j x) p =
              let y : 0 < l.counter e.group u = gd.shares_in (omega arith) u u8 j in
              let w : 0 < l.counter g u = rw p at y in
              absurd (omega arith)
          none_held (more j x) p = omega arith

  never_gives : gift l g u ≡ 0
  unfolding gift
  never_gives = only_none (not (member l g u)) (paid l g u - held l g u) (λ h. let x = never_paid in omega arith)

pub diff_sum : (n : ℕ) (a b : ℕ → ℕ) (d : ℕ → Bool) (F : ℕ → ℤ) → ((u : ℕ) → u < n → Diff (a u) (b u) (cond (d u) (F u) (pos 0))) → Diff (sum_below n a) (sum_below n b) (M.SumIntegers n d F)
unfolding sum_below M.SumIntegers
diff_sum zero a b d F h = diff_pos 0
diff_sum (suc n) a b d F h = diff_add (diff_sum n a b d F (λ u k. h u (omega arith))) (h n (omega arith))

module _ (home : ℕ → ℕ) (r : ℕ) (l : Ledger) (so : sound home l ≡ true) where
  balance_zero : M.InvGroupBalanceZero (show r l)
  balance_zero g g16 there =
      let z = raw_zero (strict l) g (payers home l so) in
      let t = tie_gifts r l g g16 in
      let s = gifts_sum (strict l) g in
      let p = sum_8 (paid (strict l) g) in
      let q = sum_8 (λ u. held (strict l) g u + gift (strict l) g u) in
      diff_zero (diff_add (diff_sum 8 (paid (strict l) g) (λ u. held (strict l) g u + gift (strict l) g u) _ _ one) (diff_pos (M.total_gifted (show r l) g))) (omega arith)
    where
      one : (u : ℕ) → u < 8 → Diff (paid (strict l) g u) (held (strict l) g u + gift (strict l) g u) (cond (ltb 0 ((M.group (show r l) g).members u)) (M.Balance u g (show r l)) (pos 0))
      one u k = rw (shown_counter r l g u k) (go (less? 0 (l.counter g u)))
        where
          go : Less 0 (l.counter g u) → Diff (paid (strict l) g u) (held (strict l) g u + gift (strict l) g u) (cond (ltb 0 (l.counter g u)) (M.Balance u g (show r l)) (pos 0))
          go (less j e) = rw (e, tie_balance r l g g16 u k) (unfold raw in (diff_shift (paid (strict l) g u) (held (strict l) g u + gift (strict l) g u) (diff_add (diff_sub (paid (strict l) g u) (held (strict l) g u)) (diff_minus (gift (strict l) g u))) (omega arith)))
          go (more j e) =
              let z : l.counter g u ≡ 0 = omega arith in
              let a = never_paid home (strict l) (sound_strict home l so) g u g16 k z in
              let b = never_held home (strict l) (sound_strict home l so) g u g16 k z in
              let c = never_gives home (strict l) (sound_strict home l so) g u g16 k z in
              rw e (is_pos 0 (omega arith))

  -- The module's invariants, all four.
  pub tie_inv : M.Inv (show r l)
  tie_inv = (types_ok home r l so, conserved home r l so, group_exists home r l so, balance_zero)
