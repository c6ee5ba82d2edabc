-- RejoinToAcknowledge and kind 2: where it is enabled, read on the ledger, and its effect. Rests on the tie of conditions (Accepted).
use mathlib.Core.Path.{◌≡◌, refl, sym, ◌∙◌, subst}
use mathlib.Core.Bool.{true}
use mathlib.Core.Option.{some}
use mathlib.Core.Logic.{◌↔◌}
use Prim.Native.Nat.{ℕ, ◌<◌}
use Rattle.rules.specs.Ledger.{Ledger, at}
use Rattle.rules.specs.Sound.{sound}
use Rattle.rules.specs.Action.{add, fields_fit}
use Rattle.rules.specs.Refusal.{answer}
use Rattle.rules.proofs.Basics.{eqb_true, ltb_true}
use Rattle.rules.proofs.Accepted.{not_false}
use Rattle.rules.proofs.Sound.{of_each}
use Rattle.splitless.specs.Module as M
use Rattle.splitless.specs.Shown.{show, Enabled, effect, Limits, here, Granted}
use Rattle.splitless.specs.Tied.{Unacknowledged}
use Rattle.splitless.proofs.Showing.{shown_counter, expense_some, some_expense, shares_of, acks_of, at_group, of_at_group}
use Rattle.splitless.proofs.Facts.{eqb_yes}
use Rattle.splitless.proofs.Accepted.{tie}

-- Its conditions are AddMember's and more, on any replicas; its effect is AddMember's.
pub rejoin_adds : (home : ℕ → ℕ) (rid : ℕ) (replicas : M.Replicas) (a o g : ℕ) → M.RejoinToAcknowledge home rid replicas a o g → Enabled home rid replicas (add a o g)
unfolding Enabled
rejoin_adds home rid replicas a o g h = (h.0, h.1, h.2, h.3)

pub rejoin_effect : (a o g : ℕ) (r : M.Replica) → M.new_rejoin_to_acknowledge o g r ≡ effect (add a o g) r
unfolding effect
rejoin_effect a o g r = refl

module _ (home : ℕ → ℕ) (r : ℕ) (l : Ledger) (so : sound home l ≡ true) (a o g : ℕ) (a8 : a < 8) (o8 : o < 8) (g16 : g < 16) where
  in_range : fields_fit (add a o g) ≡ true
  unfolding fields_fit
  in_range = of_each _ (ltb_true a 8 a8, (ltb_true o 8 o8, (ltb_true g 16 g16, tt)))

  pub tie_rejoin : M.RejoinToAcknowledge home r (here (show r l)) a o g ↔ ((answer home r (some (add a o g)) l ≡ 0) × (0 < l.counter g o) × Unacknowledged l g o)
  unfolding Enabled Limits Granted
  tie_rejoin = (
    λ h.
        let c = h.5.0 in
        let ab = some_expense r l c h.5.2 in (
          (tie home r l so (add a o g)).1 (in_range, (rejoin_adds home r (here (show r l)) a o g h, tt)),
          subst (λ n. 0 < n) (shown_counter r l g o o8) h.4,
          (
            c,
            h.5.1,
            ab,
            eqb_true (at l c).group g (not_false _ (of_at_group r l c ab g h.5.3)),
            subst (λ n. 0 < n) (shares_of r l c ab o o8) h.5.4,
            sym (acks_of r l c ab o o8) ∙ h.5.5,
          ),
        ),
    λ h.
        let en = ((tie home r l so (add a o g)).0 h.0).1.0 in
        let c = h.2.0 in
        let ab = h.2.2 in (
          en.0,
          en.1,
          en.2,
          en.3,
          rw (shown_counter r l g o o8) h.1,
          (
            c,
            h.2.1,
            expense_some r l c ab,
            at_group r l c ab g g16 (rw (eqb_yes (at l c).group g h.2.3)),
            rw (shares_of r l c ab o o8) h.2.4,
            acks_of r l c ab o o8 ∙ h.2.5,
          ),
        ),
  )
