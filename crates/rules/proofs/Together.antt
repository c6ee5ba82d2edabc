-- The balances of all groups together (specs, Together): how many they are, which stands where, and those of one group beside its lines.
use mathlib.Core.Path.{◌≡◌, refl, sym, ap, ◌∙◌}
use mathlib.Core.Bool.{true, false}
use Prim.Native.Nat.{ℕ, zero, suc, ◌+◌, ◌*◌, ◌<◌}
use native.Mathlib.Omega.{arith}
use lib.IntN.{pos}
use lib.ListN.{length, get_or, replicate, length-append, get_or-append}
use lib.Seq.{get_or-append-add}
use Rattle.format.specs.Layout.{user_count}
use Rattle.rules.specs.Ledger.{Ledger, group_absent}
use Rattle.rules.specs.Balance.{lines_of, line_of, balances_in}
use Rattle.rules.specs.Together.{balance_or_zero, balances_of, balances_to}
use Rattle.rules.proofs.Basics.{Same, same, other, same?}

pub balances_long : (n : ℕ) (l : Ledger) → length (balances_to n l) ≡ user_count * n
unfolding balances_to
balances_long zero l = refl
balances_long (suc n) l = let h = balances_long n l in length-append (balances_to n l) (balances_of l n) ∙ omega arith

pub of_group : (l : Ledger) (g u : ℕ) → u < user_count → get_or (balances_of l g) u (pos 0) ≡ balance_or_zero l g u
of_group l g zero k = refl
of_group l g (suc zero) k = refl
of_group l g (suc (suc zero)) k = refl
of_group l g (suc (suc (suc zero))) k = refl
of_group l g (suc (suc (suc (suc zero)))) k = refl
of_group l g (suc (suc (suc (suc (suc zero))))) k = refl
of_group l g (suc (suc (suc (suc (suc (suc zero)))))) k = refl
of_group l g (suc (suc (suc (suc (suc (suc (suc zero))))))) k = refl
of_group l g (suc (suc (suc (suc (suc (suc (suc (suc u)))))))) k = absurd (omega arith)

pub balance_at_lem : (n : ℕ) (l : Ledger) (g u : ℕ) → g < n → u < user_count → get_or (balances_to n l) (user_count * g + u) (pos 0) ≡ balance_or_zero l g u
unfolding balances_to
balance_at_lem zero l g u h k = absurd (omega arith)
balance_at_lem (suc n) l g u h k = go (same? g n) (λ j. balance_at_lem n l g u j k)
  where
    go : Same g n → (g < n → get_or (balances_to n l) (user_count * g + u) (pos 0) ≡ balance_or_zero l g u) → get_or (balances_to (suc n) l) (user_count * g + u) (pos 0) ≡ balance_or_zero l g u
    go (same p _) before =
        ap (λ m. get_or (balances_to (suc n) l) (m + u) (pos 0)) (ap (λ m. user_count * m) p ∙ sym (balances_long n l))
        ∙ get_or-append-add (balances_to n l) (balances_of l n) u (pos 0) ∙ of_group l n u k ∙ ap (λ m. balance_or_zero l m u) (sym p)
    go (other p _) before = let e = balances_long n l in get_or-append (balances_to n l) (balances_of l n) (pos 0) (user_count * g + u) (omega arith) ∙ before (omega arith)

-- A group that is there has the balances of its lines, an absent one zeros.
pub present_balances : (l : Ledger) (g : ℕ) → group_absent l g ≡ false → balances_of l g ≡ balances_in (lines_of l g)
unfolding balance_or_zero lines_of line_of
present_balances l g z = rw z

pub absent_balances : (l : Ledger) (g : ℕ) → group_absent l g ≡ true → balances_of l g ≡ replicate user_count (pos 0)
unfolding balance_or_zero
absent_balances l g z = rw z
