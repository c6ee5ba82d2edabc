-- What a ledger shows of the module: its groups and their counters, its expenses and their fields.
use mathlib.Core.Path.{◌≡◌, refl, sym, ap, ◌∙◌}
use mathlib.Core.Bool.{Bool, true, false, not}
use mathlib.Core.Option.{Option, none, some, map, some-ne-none, some-injective}
use mathlib.Core.Logic.{◌≢◌}
use Prim.Native.Nat.{ℕ, ◌≤◌, ◌<◌}
use native.Mathlib.Omega.{arith}
use lib.Dec.{leb, eqb}
use Rattle.rules.specs.Tests.{sum8}
use Rattle.rules.specs.Ledger.{Expense, Ledger, member, group_absent, in_group, absent_option, absent, at}
use Rattle.rules.specs.Refusal.{outside, stranger_in, at_last_version}
use Rattle.rules.proofs.Basics.{clash, eqb_true, eqb_false, Less, less?, and_left, and_right, false_of, less, more}
use Rattle.rules.proofs.Accepted.{not_false, there_is, every_8}
use Rattle.rules.proofs.Sound.{of_every8, or_else, of_or_else, leb_le, le_leb, eqb_other, positive, not_zero}
use Rattle.splitless.specs.Module as M
use Rattle.splitless.specs.Shown.{shown_id, shown_expense, shown_group, show, with_day, redated, VersionLeft}
use Rattle.splitless.proofs.Facts.{eqb_yes, odd_yes, yes_odd, numbers_at, flags_at, sum_shares}

-- Days are not shown.
pub show_redated : (r : ℕ) (l : Ledger) (days : ℕ → ℕ) → show r (redated days l) ≡ show r l
unfolding show
show_redated r l days = λ i. record { id = r; recorded_expenses = λ c. go c (l.expense c) i; groups = λ g. shown_group g (l.counter g) (group_absent l g) }
  where
    go : (c : ℕ) (o : Option Expense) → map (shown_expense c) (map (with_day (days c)) o) ≡ map (shown_expense c) o
    go c none = refl
    go c (some e) = refl

-- Groups: absent ones show NO_GROUP, and every counter is shown, of absent groups too. Then expenses: absent ones show NO_EXPENSE.
module _ (r : ℕ) (l : Ledger) where
  pub absent_zero : (g u : ℕ) → u < 8 → group_absent l g ≡ true → l.counter g u ≡ 0
  absent_zero g u k p = go (less? 0 (l.counter g u))
    where
      go : Less 0 (l.counter g u) → l.counter g u ≡ 0
      go (less j e) = absurd (clash (every_8 _ p u k) (ap not e))
      go (more j e) = omega arith

  pub shown_counter : (g u : ℕ) → u < 8 → (M.group (show r l) g).members u ≡ l.counter g u
  unfolding M.group show
  shown_counter g u k = go (group_absent l g) refl
    where
      go : (b : Bool) → group_absent l g ≡ b → (M.group_or g (shown_group g (l.counter g) b)).members u ≡ l.counter g u
      go true p = sym (absent_zero g u k p)
      go false p = numbers_at (l.counter g) u k

  pub shown_number : (g : ℕ) → (M.group (show r l) g).id ≡ g
  unfolding M.group show
  shown_number g = go (group_absent l g)
    where
      go : (b : Bool) → (M.group_or g (shown_group g (l.counter g) b)).id ≡ g
      go true = refl
      go false = refl

  pub group_none : (g : ℕ) → group_absent l g ≡ true → (show r l).groups g ≡ none
  unfolding show
  group_none g p = ap (shown_group g (l.counter g)) p

  pub group_some : (g : ℕ) → group_absent l g ≡ false → (show r l).groups g ≢ none
  unfolding show
  group_some g p q = some-ne-none _ (sym (ap (shown_group g (l.counter g)) p) ∙ q)

  pub none_group : (g : ℕ) → (show r l).groups g ≡ none → group_absent l g ≡ true
  none_group g q = go (group_absent l g) refl
    where
      go : (b : Bool) → group_absent l g ≡ b → group_absent l g ≡ true
      go true p = p
      go false p = absurd (group_some g p q)

  pub some_group : (g : ℕ) → (show r l).groups g ≢ none → group_absent l g ≡ false
  some_group g h = false_of _ (λ q. h (group_none g q))

  pub member_present : (g u : ℕ) → u < 8 → member l g u ≡ true → group_absent l g ≡ false
  member_present g u k h = false_of _ (λ q. clash h (rw (absent_zero g u k q) refl))

  pub expense_none : (c : ℕ) → absent l c ≡ true → (show r l).recorded_expenses c ≡ none
  unfolding show
  expense_none c p = go (l.expense c) refl
    where
      go : (o : Option Expense) → l.expense c ≡ o → map (shown_expense c) (l.expense c) ≡ none
      go none q = rw q
      go (some e) q = absurd (clash p (ap absent_option q))

  pub expense_some : (c : ℕ) → absent l c ≡ false → (show r l).recorded_expenses c ≢ none
  unfolding show
  expense_some c p q = some-ne-none _ (sym (ap (map (shown_expense c)) (there_is l c p)) ∙ q)

  pub none_expense : (c : ℕ) → (show r l).recorded_expenses c ≡ none → absent l c ≡ true
  none_expense c q = go (absent l c) refl
    where
      go : (b : Bool) → absent l c ≡ b → absent l c ≡ true
      go true p = p
      go false p = absurd (expense_some c p q)

  pub some_expense : (c : ℕ) → (show r l).recorded_expenses c ≢ none → absent l c ≡ false
  some_expense c h = false_of _ (λ q. h (expense_none c q))

  pub shown_is : (c : ℕ) → absent l c ≡ false → M.expense (show r l) c ≡ shown_expense c (at l c)
  unfolding M.expense show
  shown_is c ab = ap (λ o. M.expense_or (map (shown_expense c) o)) (there_is l c ab)

-- The fields of a present expense.
pub id_some : (g : ℕ) → eqb g 255 ≡ false → shown_id g ≡ some g
id_some g p = rw p

pub id_none : (g : ℕ) → eqb g 255 ≡ true → shown_id g ≡ none
id_none g p = rw p

module _ (r : ℕ) (l : Ledger) (c : ℕ) (ab : absent l c ≡ false) where
  pub field : {A : Type 0} (f : M.Expense → A) → f (M.expense (show r l) c) ≡ f (shown_expense c (at l c))
  field f = ap f (shown_is r l c ab)

  pub shares_of : (u : ℕ) → u < 8 → (M.expense (show r l) c).shares u ≡ (at l c).shares u
  shares_of u k = field (λ e. e.shares u) ∙ numbers_at (at l c).shares u k

  pub acks_of : (u : ℕ) → u < 8 → (M.expense (show r l) c).acknowledged_shares u ≡ (at l c).acknowledged u
  acks_of u k = field (λ e. e.acknowledged_shares u) ∙ flags_at (at l c).acknowledged u k

  pub group_of : in_group (at l c) ≡ true → (M.expense (show r l) c).group ≡ some (at l c).group
  group_of p = field (λ e. e.group) ∙ id_some (at l c).group (not_true p)
    where
      not_true : not (eqb (at l c).group 255) ≡ true → eqb (at l c).group 255 ≡ false
      not_true q = false_of _ (λ r. clash q (ap not r))

  pub grouped : in_group (at l c) ≡ true → (M.expense (show r l) c).group ≢ none
  grouped p q = some-ne-none _ (sym (group_of p) ∙ q)

  pub ungrouped : in_group (at l c) ≡ false → (M.expense (show r l) c).group ≡ none
  ungrouped p = field (λ e. e.group) ∙ id_none (at l c).group (not_false _ p)

  pub of_grouped : (M.expense (show r l) c).group ≢ none → in_group (at l c) ≡ true
  of_grouped h = go (in_group (at l c)) refl
    where
      go : (b : Bool) → in_group (at l c) ≡ b → in_group (at l c) ≡ true
      go true p = p
      go false p = absurd (h (ungrouped p))

  pub of_ungrouped : (M.expense (show r l) c).group ≡ none → in_group (at l c) ≡ false
  of_ungrouped q = false_of _ (λ p. grouped p q)

  pub its_id : in_group (at l c) ≡ true → M.id_or (M.expense (show r l) c).group ≡ (at l c).group
  its_id p = ap M.id_or (group_of p)

  pub its_counter : in_group (at l c) ≡ true → (u : ℕ) → u < 8 → (M.its_group (show r l) c).members u ≡ l.counter (at l c).group u
  its_counter p u k = ap (λ g. (M.group (show r l) g).members u) (its_id p) ∙ shown_counter r l (at l c).group u k

-- Membership of everyone with a positive share.
module _ (l : Ledger) (g : ℕ) (s : ℕ → ℕ) (t m : ℕ → ℕ) (st : (u : ℕ) → u < 8 → t u ≡ s u) (mc : (u : ℕ) → u < 8 → m u ≡ l.counter g u) where
  pub no_stranger : stranger_in (l.counter g) s ≡ false → (u : ℕ) → u < 8 → 0 < t u → M.IsMember (m u)
  no_stranger p u k h =
      let z : 0 < s u = rw (st u k) at h in
      odd_yes (m u) (l.counter g u) (mc u k) (or_else (eqb (s u) 0) (member l g u) (every_8 _ (not_false _ p) u k) (not_zero (s u) z))

  pub stranger_no : ((u : ℕ) → u < 8 → 0 < t u → M.IsMember (m u)) → stranger_in (l.counter g) s ≡ false
  stranger_no h = ap not (of_every8 _ (λ u k. of_or_else (eqb (s u) 0) (member l g u) (λ z. yes_odd (m u) (l.counter g u) (mc u k) (h u k (rw (st u k) (positive (s u) z))))))

-- A total within 1 to 1,000,000,000, in the module's sum.
pub inside : (s : ℕ → ℕ) → outside s ≡ false → (0 < M.SumShares (M.numbers s)) × (M.SumShares (M.numbers s) ≤ 1_000_000_000)
inside s p =
    let q = not_false _ p in
    rw (sum_shares s) (leb_le 1 (sum8 s) (and_left (leb 1 (sum8 s)) (leb (sum8 s) 1_000_000_000) q), leb_le (sum8 s) 1_000_000_000 (and_right (leb 1 (sum8 s)) (leb (sum8 s) 1_000_000_000) q))

pub of_inside : (s : ℕ → ℕ) → 0 < M.SumShares (M.numbers s) → M.SumShares (M.numbers s) ≤ 1_000_000_000 → outside s ≡ false
of_inside s a b = rw (le_leb 1 (sum8 s) (rw (sum_shares s) at a), le_leb (sum8 s) 1_000_000_000 (rw (sum_shares s) at b))

-- The tests of a kind's list, read as the module's conjuncts, and back (of-..).
module _ (r : ℕ) (l : Ledger) (c : ℕ) (ab : absent l c ≡ false) where
  pub payer_of : (a : ℕ) → not (eqb (at l c).payer a) ≡ false → (M.expense (show r l) c).payer ≡ a
  payer_of a p = field r l c ab (λ e. e.payer) ∙ eqb_true (at l c).payer a (not_false _ p)

  pub of_payer : (a : ℕ) → (M.expense (show r l) c).payer ≡ a → not (eqb (at l c).payer a) ≡ false
  of_payer a h = ap not (eqb_yes (at l c).payer a (sym (field r l c ab (λ e. e.payer)) ∙ h))

  pub deleted_of : (at l c).deleted ≡ false → (M.expense (show r l) c).deleted ≡ false
  deleted_of p = field r l c ab (λ e. e.deleted) ∙ p

  pub of_deleted : (M.expense (show r l) c).deleted ≡ false → (at l c).deleted ≡ false
  of_deleted h = sym (field r l c ab (λ e. e.deleted)) ∙ h

  pub version_of : at_last_version (at l c) ≡ false → VersionLeft (show r l) c
  version_of p q = eqb_false (at l c).version 4_294_967_295 p (sym (field r l c ab (λ e. e.version)) ∙ q)

  pub of_version : VersionLeft (show r l) c → at_last_version (at l c) ≡ false
  of_version h = eqb_other (at l c).version 4_294_967_295 (λ q. h (field r l c ab (λ e. e.version) ∙ q))

  pub share_of : (u : ℕ) → u < 8 → eqb ((at l c).shares u) 0 ≡ false → 0 < (M.expense (show r l) c).shares u
  share_of u k p = rw (shares_of r l c ab u k) (positive ((at l c).shares u) p)

  pub of_share : (u : ℕ) → u < 8 → 0 < (M.expense (show r l) c).shares u → eqb ((at l c).shares u) 0 ≡ false
  of_share u k h = not_zero ((at l c).shares u) (rw (shares_of r l c ab u k) at h)

  pub at_group : (g : ℕ) → g < 16 → not (eqb (at l c).group g) ≡ false → (M.expense (show r l) c).group ≡ some g
  at_group g k p =
      let q : (at l c).group ≡ g = eqb_true (at l c).group g (not_false _ p) in
      group_of r l c ab (ap not (eqb_other (at l c).group 255 (omega arith))) ∙ ap some q

  pub of_at_group : (g : ℕ) → (M.expense (show r l) c).group ≡ some g → not (eqb (at l c).group g) ≡ false
  of_at_group g h =
      let ig : in_group (at l c) ≡ true = of_grouped r l c ab (λ q. some-ne-none g (sym h ∙ q)) in
      ap not (eqb_yes (at l c).group g (some-injective (at l c).group g (sym (group_of r l c ab ig) ∙ h)))
