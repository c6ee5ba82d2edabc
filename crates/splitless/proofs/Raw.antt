-- The module's balance, less nothing for a member, is the rules' raw under rule 1 (Strict).
use mathlib.Core.Path.{◌≡◌, refl, sym, ap, ◌∙◌}
use mathlib.Core.Bool.{Bool, true, false, not, cond, ◌&&◌, ◌||◌}
use mathlib.Core.Option.{Option, none, some, map}
use mathlib.Core.Logic.{◌⊎◌, inl, inr, ◌≢◌, ◌↔◌}
use Prim.Native.Nat.{ℕ, zero, suc, ◌-◌, ◌<◌}
use native.Mathlib.Omega.{arith}
use lib.Dec.{ltb, eqb}
use lib.IntN.{ℤ, pos, negsuc, sub_ℕ, ◌-ℤ◌, +ℤ_idr}
use Rattle.format.specs.Layout.{equal_rule}
use Rattle.rules.specs.Tests.{only, every8}
use Rattle.rules.specs.Ledger.{Expense, Ledger, member, total}
use Rattle.rules.specs.Balance.{counts_acknowledged, valid, paid_in, held_in, paid, held, raw, gift, gifts}
use Rattle.rules.proofs.Basics.{Same, same?, Less, less?, ltb_true, same, other, less, more, bool_path}
use Rattle.rules.proofs.Accepted.{every_8}
use Rattle.rules.proofs.Sound.{of_every8, eqb_other}
use Rattle.rules.proofs.Sums.{sum_8}
use Rattle.rules.proofs.Balance.{diff_add, diff_zero, diff_minus, diff_pos}
use Rattle.splitless.specs.Module as M
use Rattle.splitless.specs.Shown.{shown_id, shown_expense, show}
use Rattle.splitless.proofs.Facts.{sum_function, every_user_lem, of_every_user, zero_or, and_swap}
use Rattle.splitless.proofs.Showing.{shown_counter, shown_number}
use Rattle.splitless.proofs.Strict.{strict}

pub id_test : (g h : ℕ) → h ≢ 255 → M.is_id h (shown_id g) ≡ eqb g h
id_test g h ne = go (same? g 255)
  where
    go : Same g 255 → M.is_id h (shown_id g) ≡ eqb g h
    go (same p e) = rw (e, p) (sym (eqb_other 255 h (λ q. ne (sym q))))
    go (other p e) = rw e

pub all_acked : (e : Expense) → M.every_user 8 (λ u. not (ltb 0 (M.numbers e.shares u)) || M.flags e.acknowledged u) ≡ every8 (λ u. eqb (e.shares u) 0 || counts_acknowledged equal_rule (e.shares u) (e.acknowledged u))
unfolding counts_acknowledged
all_acked e = bool_path _ _
    (λ h. of_every8 _ (λ u k. sym (point u k) ∙ every_user_lem 8 _ h u k))
    (λ h. of_every_user 8 _ (λ u k. point u k ∙ every_8 _ h u k))
  where
    point : (u : ℕ) → u < 8 → (not (ltb 0 (M.numbers e.shares u)) || M.flags e.acknowledged u) ≡ (eqb (e.shares u) 0 || e.acknowledged u)
    point u k = rw (ltb_true u 8 k) (zero_or (e.shares u) (e.acknowledged u))

pub counted_valid : (c g : ℕ) (e : Expense) → g ≢ 255 → M.counted g (some (shown_expense c e)) ≡ valid equal_rule g e
counted_valid c g e ne = rw (all_acked e, id_test e.group g ne) (and_swap (eqb e.group g) (not e.deleted) (every8 (λ u. eqb (e.shares u) 0 || counts_acknowledged equal_rule (e.shares u) (e.acknowledged u))))

module _ (r : ℕ) (l : Ledger) (g u : ℕ) (ne : g ≢ 255) (k : u < 8) where
  pub shown_paid : (c : ℕ) (o : Option Expense) → cond (M.counted g (map (shown_expense c) o)) (cond (eqb (M.expense_or (map (shown_expense c) o)).payer u) (M.expense_or (map (shown_expense c) o)).amount 0) 0 ≡ paid_in equal_rule g u o
  shown_paid c none = refl
  shown_paid c (some e) = rw (counted_valid c g e ne) (go (valid equal_rule g e) (eqb e.payer u))
    where
      go : (a b : Bool) → cond a (cond b (total e) 0) 0 ≡ only (a && b) (total e)
      go true true = refl
      go true false = refl
      go false true = refl
      go false false = refl

  pub shown_held : (c : ℕ) (o : Option Expense) → cond (M.counted g (map (shown_expense c) o)) ((M.expense_or (map (shown_expense c) o)).shares u) 0 ≡ held_in equal_rule g u o
  shown_held c none = refl
  shown_held c (some e) = rw (counted_valid c g e ne, ltb_true u 8 k) (go (valid equal_rule g e))
    where
      go : (a : Bool) → cond a (e.shares u) 0 ≡ only a (e.shares u)
      go true = refl
      go false = refl

  pub shown_raw : M.paid_less_shares g (show r l).recorded_expenses u ≡ raw (strict l) g u
  unfolding M.paid_less_shares M.GroupExpenseIds show raw paid held
  shown_raw = rw (sum_function 512 _ _ (λ c. paid_in equal_rule g u (l.expense c)) (λ c j. shown_paid c (l.expense c)), sum_function 512 _ _ (λ c. held_in equal_rule g u (l.expense c)) (λ c j. shown_held c (l.expense c)))

  pub shown_balances : M.ComputeBalances (M.group (show r l) g) (show r l).recorded_expenses u ≡ raw (strict l) g u
  unfolding M.ComputeBalances
  shown_balances = ap (λ h. M.paid_less_shares h (show r l).recorded_expenses u) (shown_number r l g) ∙ shown_raw

  -- "Leaving looks at raw": a member gives nothing.
  pub leaver_balance : member l g u ≡ true → M.Balance u g (show r l) ≡ raw (strict l) g u
  unfolding M.Balance M.individual_gifts_sent
  leaver_balance mem = rw (shown_counter r l g u k, mem, shown_raw) (+ℤ_idr (raw (strict l) g u))

-- The module stores gifts, and after a rejoin a member may still have one in store: 0, or the raw amount above zero that was given. Line 162 takes it off;
-- either way it asks for the same as raw at least zero.
pub stale_gift : (z : ℤ) (n : ℕ) → (n ≡ 0) ⊎ (n ≡ M.amount_of z) → M.AtLeastZero (z -ℤ pos n) ↔ M.AtLeastZero z
stale_gift z n (inl e) = rw (e, +ℤ_idr z) (λ h. h, λ h. h)
stale_gift (pos k) n (inr e) = rw (e, gone k) (λ h. tt, λ h. tt)
  where
    gone : (m : ℕ) → pos m -ℤ pos m ≡ pos 0
    gone m = diff_zero (diff_add (diff_pos m) (diff_minus m)) (omega arith)
stale_gift (negsuc k) n (inr e) = rw (e, +ℤ_idr (negsuc k)) (λ h. h, λ h. h)

-- The gifts that the module would store are the rules' under rule 1.
gift_of : (b : Bool) (p h : ℕ) → cond (b && M.above_zero (sub_ℕ p h)) (M.amount_of (sub_ℕ p h)) 0 ≡ only b (p - h)
gift_of false p h = refl
gift_of true p h = go (less? p h)
  where
    all : (n : ℕ) → cond (ltb 0 n) n 0 ≡ n
    all zero = refl
    all (suc n) = rw (ltb_true 0 (suc n) (omega arith))

    go : Less p h → cond (M.above_zero (sub_ℕ p h)) (M.amount_of (sub_ℕ p h)) 0 ≡ p - h
    go (less k e) = rw e (omega arith)
    go (more k e) = rw e (all (p - h))

module _ (r : ℕ) (l : Ledger) (g : ℕ) (g16 : g < 16) where
  pub tie_gift : (u : ℕ) → u < 8 → M.individual_gifts_sent (show r l) g u ≡ gift (strict l) g u
  unfolding M.individual_gifts_sent gift
  tie_gift u k = rw (shown_counter r l g u k, shown_balances r l g u (omega arith) k) (unfold raw in (gift_of (not (member l g u)) (paid (strict l) g u) (held (strict l) g u)))

  pub tie_gifts : M.total_gifted (show r l) g ≡ gifts (strict l) g
  unfolding M.total_gifted M.individual_gifts_sent gifts
  tie_gifts = sum_function 8 _ _ (gift (strict l) g) (λ u k. unfold M.individual_gifts_sent in (tie_gift u k)) ∙ sym (sum_8 (gift (strict l) g))

  -- The module's balance is document 01's under rule 1, without the part.
  pub tie_balance : (u : ℕ) → u < 8 → M.Balance u g (show r l) ≡ raw (strict l) g u -ℤ pos (gift (strict l) g u)
  unfolding M.Balance
  tie_balance u k = rw (shown_raw r l g u (omega arith) k, tie_gift u k)
