-- Leaving a group of another rule than the second is the module's leaving, within the limits.
-- Rests on the ledger read by rule 1 (Strict), whose raw and pending shares are the module's (Raw, Waiting).
use mathlib.Core.Path.{◌≡◌, sym, ◌∙◌, subst}
use mathlib.Core.Bool.{true}
use mathlib.Core.Logic.{◌≢◌, ◌↔◌}
use Prim.Native.Nat.{ℕ, ◌<◌}
use native.Mathlib.Omega.{arith}
use Rattle.format.specs.Layout.{user_count, group_count, use_rule}
use Rattle.rules.specs.Ledger.{Ledger, member}
use Rattle.rules.specs.Balance.{raw}
use Rattle.rules.specs.Action.{leave}
use Rattle.splitless.specs.Module as M
use Rattle.splitless.specs.Shown.{show, Enabled, Limits, Leaves, AsModule, here}
use Rattle.splitless.proofs.Facts.{odd_yes, yes_odd}
use Rattle.splitless.proofs.Showing.{shown_counter, group_some, some_group}
use Rattle.splitless.proofs.Strict.{strict_raw, strict_pending}
use Rattle.splitless.proofs.Raw.{leaver_balance}
use Rattle.splitless.proofs.Waiting.{tie_pending}

module _ (home : ℕ → ℕ) (r : ℕ) (l : Ledger) (a g : ℕ) (a8 : a < user_count) (g16 : g < group_count) (ne : l.rule g ≢ use_rule) where
  balance_here : member l g a ≡ true → M.Balance a g (show r l) ≡ raw l g a
  balance_here m = leaver_balance r l g a (omega arith) a8 m ∙ strict_raw l g ne a

  pub leaves_tied : Leaves home r l a g ↔ AsModule home r (here (show r l)) (leave a g)
  unfolding Enabled Limits
  leaves_tied = (
    λ t. (
      (t.0, group_some r l g t.1, odd_yes _ _ (shown_counter r l g a a8) t.2, subst M.AtLeastZero (sym (balance_here t.2)) t.3),
      ((tie_pending r l g a g16 a8).0 (strict_pending l g ne a ∙ t.4), λ q. t.5 (sym (shown_counter r l g a a8) ∙ q)),
    ),
    λ t.
        let h = t.0 in
        let m = yes_odd _ _ (shown_counter r l g a a8) h.2 in (
          h.0,
          some_group r l g h.1,
          m,
          subst M.AtLeastZero (balance_here m) h.3,
          sym (strict_pending l g ne a) ∙ (tie_pending r l g a g16 a8).1 t.1.0,
          λ q. t.1.1 (shown_counter r l g a a8 ∙ q),
        ),
  )
