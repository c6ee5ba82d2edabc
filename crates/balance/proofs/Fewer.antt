-- How large the sums of some days can get: no larger than those of all.
use Rattle.std.proofs.Common.{◌≡◌, refl, ap, Bool, List, ℕ, ◌*◌, ◌≤◌, arith, eqb, length}
use mathlib.Core.Option.{Option, none}
use Rattle.format.specs.Layout.{expense_count, use_rule}
use Rattle.format.specs.Bytes.{Bytes, Octets}
use Rattle.rules.specs.Tests.{sum_below, eight_at, eight_of}
use Rattle.rules.specs.Ledger.{Expense, Ledger}
use Rattle.rules.specs.Balance.{paid_in, held_in, valid_in}
use Rattle.rules.specs.Month.{dated, of_days}
use Rattle.images.specs.Image.{decode}
use Rattle.rules.proofs.Sums.{only_zero, sum_le}
use Rattle.rules.proofs.Months.{kept}
use Rattle.amounts.specs.Amounts.{UpTo}
use Rattle.amounts.proofs.Amounts.{eight_bound}
use Rattle.validity.proofs.Bounds.{paid_bound, held_bound, uses_bound, valid_bound}
use Rattle.balance.specs.declared.Sums.{Sums}
use Rattle.balance.specs.Sums.{uses_in, paid_to, held_to, uses_to, valid_to, Room, SumsTo, sums_of}

-- Eight amounts of which none is above m.
pub up_to : (f : ℕ → ℕ) (m : ℕ) → ((u : ℕ) → f u ≤ m) → (p : List ℕ) → p ≡ eight_of f → UpTo m p
up_to f m h p e = (ap length e, λ u. rw e (eight_bound f m h u))

fewer : (f : Option Expense → ℕ) → f none ≡ 0 → (p : ℕ → Bool) (l : Ledger) (n : ℕ) → sum_below n (λ c. f (dated p (l.expense c))) ≤ sum_below n (λ c. f (l.expense c))
fewer f z p l n = sum_le n _ _ (λ c k. kept (λ o. f o ≤ f (l.expense c)) (omega arith) p (l.expense c) (omega arith))

module _ (b : Bytes) (o : Octets b) (rule g : ℕ) (p : ℕ → Bool) where
  abbrev l : Ledger
  l = of_days p (decode b)

  paid_to_lem : (n u : ℕ) → n ≤ expense_count → paid_to n l rule g u ≤ 34_359_738_360 * n
  unfolding paid_to of_days
  paid_to_lem n u h = let x = fewer (paid_in rule g u) refl p (decode b) n in let y = paid_bound b o rule g n u h in omega arith

  held_to_lem : (n u : ℕ) → n ≤ expense_count → held_to n l rule g u ≤ 4_294_967_295 * n
  unfolding held_to of_days
  held_to_lem n u h = let x = fewer (held_in rule g u) refl p (decode b) n in let y = held_bound b o rule g n u h in omega arith

  uses_to_lem : (n u : ℕ) → n ≤ expense_count → uses_to n l rule g u ≤ 1 * n
  unfolding uses_to of_days
  uses_to_lem n u h = let x = fewer (uses_in rule g u) (only_zero (eqb rule use_rule)) p (decode b) n in let y = uses_bound b o rule g n u h in omega arith

  pub valid_to_lem : (n : ℕ) → n ≤ expense_count → valid_to n l rule g ≤ 1 * n
  unfolding valid_to of_days
  valid_to_lem n h = let x = fewer (valid_in rule g) refl p (decode b) n in let y = valid_bound b o rule g n h in omega arith

  -- The loops' lists have room for one expense more.
  pub room_paid : (n : ℕ) (q : List ℕ) → n ≤ expense_count → q ≡ eight_of (paid_to n l rule g) → UpTo 17_592_186_040_320 q
  room_paid n q h = up_to (paid_to n l rule g) 17_592_186_040_320 (λ u. (let z = paid_to_lem n u h in omega arith)) q

  pub room_held : (n : ℕ) (q : List ℕ) → n ≤ expense_count → q ≡ eight_of (held_to n l rule g) → UpTo 2_199_023_255_040 q
  room_held n q h = up_to (held_to n l rule g) 2_199_023_255_040 (λ u. (let z = held_to_lem n u h in omega arith)) q

  pub room_uses : (n : ℕ) (q : List ℕ) → n ≤ expense_count → q ≡ eight_of (uses_to n l rule g) → UpTo 512 q
  room_uses n q h = up_to (uses_to n l rule g) 512 (λ u. (let z = uses_to_lem n u h in omega arith)) q

  pub room_all : (n : ℕ) (s : Sums) → n ≤ expense_count → SumsTo l rule g n s → Room s.paid s.held s.uses
  room_all n s h e = (room_paid n _ h e.0, room_held n _ h e.1, room_uses n _ h e.2)

  -- The whole sums.
  module _ (s : Sums) (e : s ≡ sums_of l rule g) where
    pub paid_below : (u : ℕ) → eight_at s.paid u ≤ 17_592_186_040_320
    unfolding sums_of
    paid_below u = rw e ((room_paid expense_count _ (omega arith) refl).1 u)

    pub held_below : (u : ℕ) → eight_at s.held u ≤ 2_199_023_255_040
    unfolding sums_of
    held_below u = rw e ((room_held expense_count _ (omega arith) refl).1 u)

    pub uses_below : (u : ℕ) → eight_at s.uses u ≤ 512
    unfolding sums_of
    uses_below u = rw e ((room_uses expense_count _ (omega arith) refl).1 u)
