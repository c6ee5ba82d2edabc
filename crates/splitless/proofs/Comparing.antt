-- Where the module is the comparison, what is granted over a history is what the module enables, within the limits; and back. Rests on Fleet and on Leaving.
use mathlib.Core.Path.{◌≡◌, refl, sym, ap, ◌∙◌, subst}
use mathlib.Core.Bool.{true}
use mathlib.Core.Logic.{◌≢◌, ◌↔◌}
use mathlib.Core.List.{List}
use Prim.Native.Nat.{ℕ, ◌<◌}
use lib.ListN.{length}
use Rattle.format.specs.Layout.{Version, user_count, replica_count, group_count, use_rule}
use Rattle.rules.specs.Action.{Action, found, add, leave, enter, put_in, take_out, change, delete, acknowledge, absorb, fields_fit}
use Rattle.images.specs.Image.{Homes}
use Rattle.history.specs.History.{Call}
use Rattle.history.specs.Demand.{Named}
use Rattle.rules.proofs.Accepted.{test, ltb_lt}
use Rattle.splitless.specs.Shown.{show, shown_in, Enabled, Limits, Leaves, AsModule, Granted, Compared, here}
use Rattle.splitless.specs.Tied.{fleet_now, ledger_now}
use Rattle.splitless.proofs.Leaving.{leaves_tied}
use Rattle.splitless.proofs.Fleet.{fleet_shown, own_replica}

module _ (home : ℕ → ℕ) (made : ℕ → Version) (hm : Homes home) (h : List Call) (nm : Named h) where
  ledger_shown : (r : ℕ) → r < replica_count → show r (ledger_now home made h r) ≡ fleet_now home made h r
  unfolding shown_in
  ledger_shown r k = ap (λ n. show n (ledger_now home made h r)) (sym (own_replica home made hm h nm (length h) r k)) ∙ sym (fleet_shown home made hm h nm (length h) r k)

  pub fleet_leaves : (r a g : ℕ) → r < replica_count → a < user_count → g < group_count → (ledger_now home made h r).rule g ≢ use_rule
      → Leaves home r (ledger_now home made h r) a g ↔ AsModule home r (fleet_now home made h) (leave a g)
  unfolding Enabled Limits
  fleet_leaves r a g k a8 g16 ne =
      subst (λ m. Leaves home r (ledger_now home made h r) a g ↔ AsModule home r (here m) (leave a g)) (ledger_shown r k) (leaves_tied home r (ledger_now home made h r) a g a8 g16 ne)

  pub as_module : (r : ℕ) (x : Action) → r < replica_count → fields_fit x ≡ true → Compared (ledger_now home made h r) x
      → Granted home r (fleet_now home made h) (ledger_now home made h r) x ↔ AsModule home r (fleet_now home made h) x
  unfolding Granted fields_fit
  as_module r (found a g n) k fi y = (λ e. e, λ e. e)
  as_module r (add a o g) k fi y = (λ e. e, λ e. e)
  as_module r (leave a g) k fi y = let f = test _ fi in fleet_leaves r a g k (ltb_lt a 8 (f 0)) (ltb_lt g 16 (f 1)) (y a g refl)
  as_module r (enter a c s day) k fi y = (λ e. e, λ e. e)
  as_module r (put_in a g c) k fi y = (λ e. e, λ e. e)
  as_module r (take_out a g c) k fi y = (λ e. e, λ e. e)
  as_module r (change a c s day) k fi y = (λ e. e, λ e. e)
  as_module r (delete a c) k fi y = (λ e. e, λ e. e)
  as_module r (acknowledge a c) k fi y = (λ e. e, λ e. e)
  as_module r (absorb a o c) k fi y = (λ e. e, λ e. e)
