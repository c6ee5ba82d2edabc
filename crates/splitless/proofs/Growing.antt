-- A history grows by one call: what holds of no call, and of one call more, holds of every history; and the ledgers of one call more.
use mathlib.Core.Path.{◌≡◌, refl, sym, ap, ◌∙◌, subst}
use mathlib.Core.List.{List, [], ◌∷◌, ◌++◌, append-nil}
use Prim.Native.Nat.{ℕ, suc, ◌+◌}
use native.Mathlib.Omega.{arith}
use native.Mathlib.Nat.{add-zero, add-suc, suc-add}
use lib.ListN.{length}
use Rattle.format.specs.Layout.{Version}
use Rattle.rules.specs.Ledger.{Ledger, empty}
use Rattle.history.specs.History.{Call, act, merge, raise}
use Rattle.history.specs.Demand.{Named}
use Rattle.history.proofs.Run.{proceed, upgrade, run_from, run_versions_from, run, run_versions}

pub append_one : (h t : List Call) (c : Call) → (h ++ (c ∷ [])) ++ t ≡ h ++ (c ∷ t)
append_one [] t c = refl
append_one (d ∷ h) t c = ap (λ l. d ∷ l) (append_one h t c)

pub each_history : (P : List Call → Type 0) → P [] → ((h : List Call) (c : Call) → P h → P (h ++ (c ∷ []))) → (h : List Call) → P h
each_history P none_yet one_more h = go h [] none_yet
  where
    go : (t s : List Call) → P s → P (s ++ t)
    go [] s p = subst P (sym (append-nil s)) p
    go (c ∷ t) s p = subst P (append_one s t c) (go t (s ++ (c ∷ [])) (one_more s c p))

pub named_before : (h : List Call) (c : Call) → Named (h ++ (c ∷ [])) → Named h × Named (c ∷ [])
named_before [] c n = (tt, n)
named_before (act v r x ∷ h) c n = let t = named_before h c n.1 in ((n.0, t.0), t.1)
named_before (merge v r f k w ∷ h) c n = let t = named_before h c n.2 in ((n.0, n.1, t.0), t.1)
named_before (raise v r d ∷ h) c n = let t = named_before h c n.1 in ((n.0, t.0), t.1)

module _ (home : ℕ → ℕ) where
  run_append : (h t : List Call) (n : ℕ) (at : ℕ → ℕ → Version) (stood : ℕ → ℕ → Ledger)
      → run_from home n at stood (h ++ t) ≡ run_from home (n + length h) (run_versions_from home n at stood h) (run_from home n at stood h) t
  unfolding run_from run_versions_from
  run_append [] t n at stood = rw add-zero
  run_append (c ∷ h) t n at stood = rw (add-suc n (length h), ← suc-add n (length h)) (run_append h t (suc n) (upgrade home n at stood c) (proceed home n at stood c))

  pub run_more : (made : ℕ → Version) (h : List Call) (c : Call) → run home made (h ++ (c ∷ [])) ≡ proceed home (length h) (run_versions home made h) (run home made h) c
  unfolding run run_versions run_from
  run_more made h c =
      run_append h (c ∷ []) 0 (λ m r. made r) (λ m r. empty)
      ∙ (let z : 0 + length h ≡ length h = omega arith in ap (λ n. proceed home n (run_versions_from home 0 (λ m r. made r) (λ m r. empty) h) (run_from home 0 (λ m r. made r) (λ m r. empty) h) c) z)
