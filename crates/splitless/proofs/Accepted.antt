-- What is granted is accepted: with Enabled, the tie of conditions.
use mathlib.Core.Path.{◌≡◌, refl, sym, ap, ◌∙◌}
use mathlib.Core.Bool.{true, false, not}
use mathlib.Core.Option.{none, some}
use mathlib.Core.Logic.{◌↔◌}
use Prim.Native.Nat.{ℕ, ◌/◌}
use native.Mathlib.Omega.{arith}
use lib.Dec.{eqb}
use Rattle.rules.specs.Ledger.{Ledger, member, in_group, at}
use Rattle.rules.specs.Balance.{paid, held, raw}
use Rattle.rules.specs.Sound.{sound}
use Rattle.rules.specs.Action.{Action, found, add, leave, enter, put_in, take_out, change, delete, acknowledge, absorb, actor, fields_fit}
use Rattle.rules.specs.Refusal.{stranger_in, checks, answer}
use Rattle.rules.proofs.Accepted.{not_false, test, ltb_lt}
use Rattle.rules.proofs.Sound.{eqb_other}
use Rattle.splitless.specs.Shown.{show, Enabled, Limits, Granted, here}
use Rattle.splitless.proofs.Facts.{◌&◌, of_passed, first_zero, eqb_yes, yes_odd, no_odd, numbers_at, zero_least, of_and_false}
use Rattle.splitless.proofs.Showing.{shown_counter, none_group, some_group, none_expense, some_expense, shares_of, acks_of, grouped, of_grouped, of_ungrouped, its_counter, stranger_no, of_inside, of_payer, of_deleted, of_version, of_share, of_at_group}
use Rattle.splitless.proofs.Enabled.{granted}

module _ (home : ℕ → ℕ) (r : ℕ) (l : Ledger) where
  of_home : (a : ℕ) → home a ≡ r → not (eqb (home a) r) ≡ false
  of_home a q = ap not (eqb_yes (home a) r q)

  accepted : (x : Action) → fields_fit x ≡ true → Granted home r (here (show r l)) l x → answer home r (some x) l ≡ 0
  unfolding answer checks fields_fit actor Enabled Limits Granted
  accepted (found a g k) fi t =
      let h = t.0 in
      let lim = t.1 in
      of_passed _
      (ap not fi
      & of_home a h.0
      & ap not (eqb_yes (g / 2) r lim)
      & ap not (none_group r l g (h.1 0 (omega arith)))
      & tt)
  accepted (add a o g) fi t =
      let h = t.0 in
      let lim = t.1 in
      let f = test _ fi in
      let a8 = ltb_lt a 8 (f 0) in
      let o8 = ltb_lt o 8 (f 1) in
      of_passed _
      (ap not fi
      & of_home a h.0
      & some_group r l g h.1
      & ap not (yes_odd _ _ (shown_counter r l g a a8) h.2)
      & no_odd _ _ (shown_counter r l g o o8) h.3
      & tt)
  accepted (leave a g) fi t =
      of_passed _
      (ap not fi
      & of_home a t.0
      & t.1
      & ap not t.2
      & (unfold raw in (zero_least (paid l g a) (held l g a) t.3))
      & t.4
      & eqb_other (l.counter g a) 65_535 t.5
      & tt)
  accepted (enter a c s day) fi t =
      let h = t.0 in
      let lim = t.1 in
      of_passed _
      (ap not fi
      & of_home a h.0
      & ap not (eqb_yes (c / 64) r lim.0)
      & ap not (none_expense r l c (h.2 0 (omega arith)))
      & of_inside s h.1 lim.1
      & tt)
  accepted (put_in a g c) fi t =
      let h = t.0 in
      let lim = t.1 in
      let f = test _ fi in
      let a8 = ltb_lt a 8 (f 0) in
      let ab = some_expense r l c h.2 in
      of_passed _
      (ap not fi
      & of_home a h.0
      & some_group r l g h.1
      & ab
      & ap not (yes_odd _ _ (shown_counter r l g a a8) h.3)
      & of_payer r l c ab a h.4
      & of_ungrouped r l c ab h.5
      & stranger_no l g (at l c).shares _ _ (shares_of r l c ab) (shown_counter r l g) h.6
      & of_version r l c ab lim
      & tt)
  accepted (take_out a g c) fi t =
      let h = t.0 in
      let lim = t.1 in
      let f = test _ fi in
      let a8 = ltb_lt a 8 (f 0) in
      let ab = some_expense r l c h.2 in
      of_passed _
      (ap not fi
      & of_home a h.0
      & some_group r l g h.1
      & ab
      & ap not (yes_odd _ _ (shown_counter r l g a a8) h.3)
      & of_at_group r l c ab g h.4
      & of_payer r l c ab a h.5
      & of_version r l c ab lim
      & tt)
  accepted (change a c s day) fi t =
      let h = t.0 in
      let lim = t.1 in
      let ab = some_expense r l c h.1 in
      of_passed _
      (ap not fi
      & of_home a h.0
      & ab
      & of_payer r l c ab a h.2
      & of_inside s h.3 lim.0
      & of_deleted r l c ab h.4
      & of_and_false (in_group (at l c)) (stranger_in (l.counter (at l c).group) s) (λ ig. stranger_no l (at l c).group s _ _ (numbers_at s) (its_counter r l c ab ig) (h.5 (grouped r l c ab ig)))
      & of_version r l c ab lim.1
      & tt)
  accepted (delete a c) fi t =
      let h = t.0 in
      let lim = t.1 in
      let f = test _ fi in
      let a8 = ltb_lt a 8 (f 0) in
      let ab = some_expense r l c h.1 in
      of_passed _
      (ap not fi
      & of_home a h.0
      & ab
      & of_payer r l c ab a h.2
      & of_deleted r l c ab h.3
      & of_and_false (in_group (at l c)) (not (member l (at l c).group a)) (λ ig. ap not (yes_odd _ _ (its_counter r l c ab ig a a8) (h.4 (grouped r l c ab ig))))
      & of_version r l c ab lim
      & tt)
  accepted (acknowledge a c) fi t =
      let h = t.0 in
      let lim = t.1 in
      let f = test _ fi in
      let a8 = ltb_lt a 8 (f 0) in
      let ab = some_expense r l c h.1 in
      let ig = of_grouped r l c ab h.3 in
      of_passed _
      (ap not fi
      & of_home a h.0
      & ab
      & of_deleted r l c ab h.2
      & ap not ig
      & ap not (yes_odd _ _ (its_counter r l c ab ig a a8) h.4)
      & of_share r l c ab a a8 h.5
      & sym (acks_of r l c ab a a8) ∙ h.6
      & tt)
  accepted (absorb a o c) fi t =
      let h = t.0 in
      let lim = t.1 in
      let f = test _ fi in
      let a8 = ltb_lt a 8 (f 0) in
      let o8 = ltb_lt o 8 (f 1) in
      let ab = some_expense r l c h.2 in
      let ig = of_grouped r l c ab h.7 in
      of_passed _
      (ap not fi
      & of_home a h.0
      & eqb_other o a (λ q. h.1 (sym q))
      & ab
      & of_deleted r l c ab h.3
      & of_payer r l c ab a h.4
      & of_share r l c ab o o8 h.5
      & sym (acks_of r l c ab o o8) ∙ h.6
      & ap not ig
      & ap not (yes_odd _ _ (its_counter r l c ab ig a a8) h.9)
      & no_odd _ _ (its_counter r l c ab ig o o8) h.10
      & of_version r l c ab lim
      & tt)

  -- The fields of an accepted action fit.
  pub fit_of : (x : Action) → answer home r (some x) l ≡ 0 → fields_fit x ≡ true
  unfolding answer
  fit_of x e = not_false _ (first_zero (not (fields_fit x)) 5 _ e).0

  -- The tie of conditions: on a sound ledger an action is accepted in just those cases where its fields fit and it is granted.
  pub tie : sound home l ≡ true → (x : Action) → (answer home r (some x) l ≡ 0) ↔ ((fields_fit x ≡ true) × Granted home r (here (show r l)) l x)
  tie so x = (λ e. (fit_of x e, granted home r l so x e), λ h. accepted x h.0 h.1)

  -- A record that gives no action: 6.
  pub no_action : answer home r none l ≡ 6
  unfolding answer
  no_action = refl
