-- Every ledger of a history of ledgers (Run) is sound: the empty one is, and an accepted call leaves one where it found some (rules, SoundSteps and SoundMerge).
use mathlib.Core.Path.{◌≡◌, refl}
use mathlib.Core.Bool.{Bool, true, false, cond}
use mathlib.Core.Option.{Option, none, some}
use mathlib.Core.List.{List, [], ◌∷◌}
use Prim.Native.Nat.{ℕ, suc}
use Rattle.format.specs.Layout.{Version}
use Rattle.rules.specs.Ledger.{Ledger, empty}
use Rattle.rules.specs.Sound.{sound}
use Rattle.rules.specs.Action.{Action}
use Rattle.rules.specs.Refusal.{answer}
use Rattle.images.specs.Record.{read_action_in}
use Rattle.images.specs.Calls.{other_answer}
use Rattle.rules.proofs.Basics.{eqb_true}
use Rattle.rules.proofs.Sound.{ungood_ledger}
use Rattle.rules.proofs.SoundSteps.{act_sound}
use Rattle.rules.proofs.SoundMerge.{merge_sound}
use Rattle.images.proofs.Checked.{or_else_zero}
use Rattle.images.proofs.Raise.{later}
use Rattle.history.specs.History.{Call, act, merge, raise, callee}
use Rattle.history.proofs.Run.{sized, answer_to, ok, acted_on, outcome, proceed, upgrade, run_from, run}
use Rattle.history.proofs.Steps.{after_both}

module _ (home : ℕ → ℕ) where
  sound_acted : (r : ℕ) (o : Option Action) (l : Ledger) → sound home l ≡ true → answer home r o l ≡ 0 → sound home (acted_on o l) ≡ true
  unfolding acted_on
  sound_acted r none l h e = h
  sound_acted r (some a) l h e = act_sound home r a l h e

  sound_call : (n : ℕ) (at : ℕ → ℕ → Version) (stood : ℕ → ℕ → Ledger) → ((m r : ℕ) → sound home (stood m r) ≡ true) → (c : Call) → ok home n at stood c ≡ true → sound home (outcome n stood c) ≡ true
  unfolding ok answer_to outcome
  sound_call n at stood h (act v r x) p = sound_acted r (read_action_in v x) (stood n r) (h n r) (or_else_zero (sized (at n r) v) _ (eqb_true _ 0 p)).1
  sound_call n at stood h (merge v r f m w) p =
      merge_sound home (stood n r) (stood m f) (h n r) (h m f) (or_else_zero (other_answer (sized (later w (at m f)) v)) _ (or_else_zero (sized (at n r) v) _ (eqb_true _ 0 p)).1).1
  sound_call n at stood h (raise v r d) p = h n r

  pub sound_one : (n : ℕ) (at : ℕ → ℕ → Version) (stood : ℕ → ℕ → Ledger) → ((m r : ℕ) → sound home (stood m r) ≡ true) → (c : Call) → (m r : ℕ) → sound home (proceed home n at stood c m r) ≡ true
  unfolding proceed
  sound_one n at stood h c = after_both (λ x y. sound home x ≡ true) stood stood n (callee c) _ (stood n (callee c)) h (go (ok home n at stood c) refl)
    where
      go : (b : Bool) → ok home n at stood c ≡ b → sound home (cond b (outcome n stood c) (stood n (callee c))) ≡ true
      go true p = sound_call n at stood h c p
      go false p = h n (callee c)

  sound_all : (h : List Call) (n : ℕ) (at : ℕ → ℕ → Version) (stood : ℕ → ℕ → Ledger) → ((m r : ℕ) → sound home (stood m r) ≡ true) → (m r : ℕ) → sound home (run_from home n at stood h m r) ≡ true
  unfolding run_from
  sound_all [] n at stood i = i
  sound_all (c ∷ h) n at stood i = sound_all h (suc n) (upgrade home n at stood c) (proceed home n at stood c) (sound_one n at stood i c)

  pub empty_sound : (m r : ℕ) → sound home empty ≡ true
  empty_sound m r = ungood_ledger home empty (λ c k. tt)

  pub sounds : (made : ℕ → Version) (h : List Call) (m r : ℕ) → sound home (run home made h m r) ≡ true
  unfolding run
  sounds made h = sound_all h 0 (λ m r. made r) (λ m r. empty) empty_sound
