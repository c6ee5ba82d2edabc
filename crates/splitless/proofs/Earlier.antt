-- What stood on a replica brings it nothing new: joined with its own image of any moment, it stays as it is. Proved of the history of ledgers.
use mathlib.Core.Path.{◌≡◌, refl, sym, ap, ap₂, ◌∙◌}
use mathlib.Core.Option.{Option, none, some}
use mathlib.Core.Logic.{⊎_elim}
use mathlib.Core.List.{List, [], ◌∷◌, ◌++◌}
use Prim.Native.Nat.{ℕ, suc, ◌+◌, ◌≤◌, ◌<◌}
use native.Mathlib.Omega.{arith}
use lib.ListN.{length}
use Rattle.format.specs.Layout.{Version}
use Rattle.rules.specs.Ledger.{Expense, Ledger, empty, either_rule}
use Rattle.rules.specs.Step.{Given}
use Rattle.rules.specs.Merge.{merge_expense, merge_ledger}
use Rattle.history.specs.History.{Call, after, givens, book}
use Rattle.history.proofs.Run.{proceed, upgrade, run_from, run, run_oks}
use Rattle.history.proofs.Steps.{within_givens, single_unique, founded_one}
use Rattle.history.proofs.Heard.{Invariant, history}
use Rattle.rules.proofs.Basics.{in_left, in_either, Same, same?, Less, less?, same, other, less, more}
use Rattle.rules.proofs.Groups.{OneRule}
use Rattle.rules.proofs.Theory.{Unique, Within, ledger_path, merges, same_worked}

-- A moment that has not come holds what the start does.
run_beyond : (home : ℕ → ℕ) (h : List Call) (n : ℕ) (at : ℕ → ℕ → Version) (stood : ℕ → ℕ → Ledger) (m w : ℕ) → n + length h < m → run_from home n at stood h m w ≡ stood m w
unfolding run_from proceed after
run_beyond home [] n at stood m w k = refl
run_beyond home (c ∷ h) n at stood m w k = run_beyond home h (suc n) (upgrade home n at stood c) (proceed home n at stood c) m w (omega arith) ∙ go (same? m (suc n))
  where
    go : Same m (suc n) → proceed home n at stood c m w ≡ stood m w
    go (same p _) = absurd (omega arith)
    go (other p q) = rw q

empty_brings_nothing : (l : Ledger) → merge_ledger l empty ≡ l
empty_brings_nothing l = ledger_path (merge_ledger l empty) l (λ g u. omega arith) (λ g. first (same? (l.rule g) 0)) (λ c. go (l.expense c))
  where
    first : {k : ℕ} → Same k 0 → either_rule k 0 ≡ k
    first (same p q) = rw (q, p)
    first (other p q) = rw q

    go : (o : Option Expense) → merge_expense o none ≡ o
    go none = refl
    go (some e) = refl

module _ (home : ℕ → ℕ) (made : ℕ → Version) (h : List Call) (r : ℕ) where
  i : Invariant (length h) (run home made h) (book h (run_oks home made h)) (history home made h).0
  i = (history home made h).1

  unique : (s : List Given) → Within s (givens (history home made h).0) → Unique s
  unique s w c e f x y = single_unique (history home made h).0 i.single c e f (w _ x) (w _ y)

  one_rule : (s : List Given) → Within s (givens (history home made h).0) → OneRule s
  one_rule s w g u j x y p q = founded_one (history home made h).0 i.founded g u j x y (w _ p) (w _ q)

  past_brings_nothing : (k : ℕ) → k ≤ length h → merge_ledger (run home made h (length h) r) (run home made h k r) ≡ run home made h (length h) r
  past_brings_nothing k le =
      let s = givens (book h (run_oks home made h) (length h) r) in
      let t = givens (book h (run_oks home made h) k r) in
      let ws : Within s (givens (history home made h).0) = within_givens _ _ (i.within (length h) r) in
      let wt : Within t (givens (history home made h).0) = within_givens _ _ (i.within k r) in
      let ts : Within t s = within_givens _ _ (i.grows k (length h) r le (omega arith)) in
      let u : Unique (s ++ t) = unique (s ++ t) (λ x p. ⊎_elim (ws x) (wt x) (in_either s p)) in
      ap₂ merge_ledger (i.worked (length h) r) (i.worked k r)
      ∙ merges s t u (i.closed (length h) r) (i.closed k r)
      ∙ same_worked (s ++ t) s u (unique s ws) (one_rule s ws) (λ x p. ⊎_elim (λ q. q) (ts x) (in_either s p)) (λ x p. in_left t p)
      ∙ sym (i.worked (length h) r)

  not_yet : (k : ℕ) → length h < k → run home made h k r ≡ empty
  unfolding run
  not_yet k j = run_beyond home h 0 (λ m w. made w) (λ m w. empty) k r (omega arith)

  pub own_brings_nothing : (k : ℕ) → merge_ledger (run home made h (length h) r) (run home made h k r) ≡ run home made h (length h) r
  own_brings_nothing k = go (less? (length h) k)
    where
      go : Less (length h) k → merge_ledger (run home made h (length h) r) (run home made h k r) ≡ run home made h (length h) r
      go (less j _) = ap (merge_ledger (run home made h (length h) r)) (not_yet k j) ∙ empty_brings_nothing (run home made h (length h) r)
      go (more j _) = past_brings_nothing k j
