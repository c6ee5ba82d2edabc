-- Nothing is pending under rule 1 just when nothing waits of what a ledger shows, in the module's own words.
use mathlib.Core.Path.{◌≡◌, refl, sym, ap, ◌∙◌, subst}
use mathlib.Core.Bool.{Bool, true, false, not}
use mathlib.Core.Option.{map}
use mathlib.Core.Logic.{◌↔◌}
use Prim.Native.Nat.{ℕ, ◌<◌}
use native.Mathlib.Omega.{arith}
use Rattle.format.specs.Layout.{expense_count, equal_rule}
use Rattle.rules.specs.Ledger.{Ledger, absent_option, or_blank, absent, at}
use Rattle.rules.specs.Balance.{counts_acknowledged, valid}
use Rattle.rules.specs.Pending.{pending}
use Rattle.rules.proofs.Basics.{clash, eqb_true}
use Rattle.rules.proofs.Accepted.{not_false, there_is}
use Rattle.rules.proofs.Pending.{ClearIn, Clear, pending_clear}
use Rattle.splitless.specs.Module as M
use Rattle.splitless.specs.Shown.{shown_expense, show, NothingWaits}
use Rattle.splitless.proofs.Facts.{eqb_yes}
use Rattle.splitless.proofs.Showing.{expense_some, some_expense, shares_of, acks_of, deleted_of, of_deleted, at_group, of_at_group}
use Rattle.splitless.proofs.Strict.{strict}
use Rattle.splitless.proofs.Raw.{counted_valid}

module _ (r : ℕ) (l : Ledger) (g u : ℕ) (g16 : g < 16) (u8 : u < 8) where
  shown_valid : (c : ℕ) → absent l c ≡ false → M.GroupExpenseIds g (show r l).recorded_expenses c ≡ valid equal_rule g (at l c)
  unfolding M.GroupExpenseIds show
  shown_valid c ab = ap (λ o. M.counted g (map (shown_expense c) o)) (there_is l c ab) ∙ counted_valid c g (at l c) (omega arith)

  none_waits : Clear (strict l) g u → NothingWaits (show r l) g u
  unfolding counts_acknowledged
  none_waits h c k w =
      let ab = some_expense r l c w.0 in
      let v : valid equal_rule g (at l c) ≡ true =
      h c (at l c) k (there_is l c ab) (eqb_true (at l c).group g (not_false _ (of_at_group r l c ab g w.3))) (of_deleted r l c ab w.4) (rw (shares_of r l c ab u u8) at w.2)
      (sym (acks_of r l c ab u u8) ∙ w.1) in
      clash v (sym (shown_valid c ab) ∙ w.5)

  clear_at : NothingWaits (show r l) g u → (c : ℕ) → c < expense_count → absent l c ≡ false → ClearIn equal_rule g u (at l c)
  unfolding counts_acknowledged
  clear_at h c k ab i d s n = go (valid equal_rule g (at l c)) refl
    where
      go : (b : Bool) → valid equal_rule g (at l c) ≡ b → valid equal_rule g (at l c) ≡ true
      go true v = v
      go false v = absurd
          (h c k (expense_some r l c ab, acks_of r l c ab u u8 ∙ n, rw (shares_of r l c ab u u8) s, at_group r l c ab g g16 (ap not (eqb_yes (at l c).group g i)), deleted_of r l c ab d, shown_valid c ab ∙ v))

  pub tie_pending : (pending (strict l) g u ≡ false) ↔ NothingWaits (show r l) g u
  tie_pending = (
    λ z. none_waits ((pending_clear (strict l) g u).0 z),
    λ h. (pending_clear (strict l) g u).1 (λ c e k is. subst (ClearIn equal_rule g u) (ap or_blank is) (clear_at h c k (ap absent_option is))),
  )
