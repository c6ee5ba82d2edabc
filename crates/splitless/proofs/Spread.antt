-- Over every history of ledgers, word of a group travels with the expense: whoever holds an expense has every group that this version or an earlier one was in.
-- For a replica is handed whole ledgers, and only the replica that owns an expense makes versions of it.
use mathlib.Core.Path.{◌≡◌, refl, sym, ap, ◌∙◌, subst}
use mathlib.Core.Bool.{Bool, true, false, cond}
use mathlib.Core.Option.{Option, none, some, map, some-ne-none, some-injective}
use mathlib.Core.Logic.{◌≢◌}
use mathlib.Core.List.{List, [], ◌∷◌, ◌++◌}
use Prim.Native.Nat.{ℕ, suc, ◌/◌, ◌≤◌, ◌<◌}
use native.Mathlib.Omega.{arith}
use lib.ListN.{length}
use Rattle.format.specs.Layout.{Version}
use Rattle.rules.specs.Ledger.{Expense, Ledger}
use Rattle.rules.specs.Sound.{sound}
use Rattle.rules.specs.Action.{Action}
use Rattle.rules.specs.Step.{Given, founds, counts, states, acks, add_ack, apply, gives, ledger_after}
use Rattle.rules.specs.Refusal.{answer}
use Rattle.rules.specs.Merge.{merged, merge_expense, merge_ledger}
use Rattle.rules.specs.Heard.{latest, with_heard, expense_from}
use Rattle.images.specs.Record.{read_action_in}
use Rattle.history.specs.History.{Call, callee, after, act, merge, raise, givens, Step, book}
use Rattle.history.proofs.Run.{sized, answer_to, ok, acted_on, outcome, proceed, run_from, run, run_versions, run_oks}
use Rattle.history.proofs.Steps.{given_in, given_of, after_both, after_here}
use Rattle.history.proofs.Heard.{Invariant, history}
use Rattle.history.proofs.Soundness.{sounds}
use Rattle.rules.proofs.Basics.{In, Same, eqb_true, same?, Less, less?, false_of, same, other, less, more}
use Rattle.rules.proofs.Theory.{latest_in, in_latest, merged_lt, merged_gt, merged_eq}
use Rattle.rules.proofs.Accepted.{Fits, fits}
use Rattle.images.proofs.Checked.{or_else_zero}
use Rattle.rules.proofs.Sound.{Good, GoodOption, good_ledger}
use Rattle.splitless.proofs.Showing.{absent_zero}
use Rattle.splitless.proofs.Growing.{each_history, run_more}
use Rattle.splitless.proofs.Owned.{HasGroup, counter_grows, more_present}

-- The ledger on replica r now, and what a call may leave there.
abbrev pub now : (home : ℕ → ℕ) (made : ℕ → Version) → List Call → ℕ → Ledger
now home made h r = run home made h (length h) r

module _ (home : ℕ → ℕ) (made : ℕ → Version) (h : List Call) where
  data Left (r : ℕ) : Ledger → Type 0 where
    kept : Left r (now home made h r)
    acted : (a : Action) → answer home r (some a) (now home made h r) ≡ 0 → Left r (ledger_after a (now home made h r))
    joined : (k f : ℕ) → Left r (merge_ledger (now home made h r) (run home made h k f))

  left_acted : (r : ℕ) (o : Option Action) → answer home r o (now home made h r) ≡ 0 → Left r (acted_on o (now home made h r))
  unfolding acted_on
  left_acted r none e = kept
  left_acted r (some a) e = acted a e

  left_ok : (c : Call) → ok home (length h) (run_versions home made h) (run home made h) c ≡ true → Left (callee c) (outcome (length h) (run home made h) c)
  unfolding ok answer_to callee outcome
  left_ok (act v r x) p = left_acted r (read_action_in v x) (or_else_zero (sized (run_versions home made h (length h) r) v) _ (eqb_true _ 0 p)).1
  left_ok (merge v r f k w) p = joined k f
  left_ok (raise v r d) p = kept

  left : (c : Call) → (new : Ledger) × Left (callee c) new × (run home made (h ++ (c ∷ [])) ≡ after (run home made h) (length h) (callee c) new)
  unfolding proceed
  left c = (_, go (ok home (length h) (run_versions home made h) (run home made h) c) refl, run_more home made h c)
    where
      go : (b : Bool) → ok home (length h) (run_versions home made h) (run home made h) c ≡ b → Left (callee c) (cond b (outcome (length h) (run home made h) c) (now home made h (callee c)))
      go true p = left_ok c p
      go false p = kept

  -- The owner of an expense holds its highest version.
  newest : (m w c : ℕ) (e : Expense) → (run home made h m w).expense c ≡ some e → (f : Expense) × ((now home made h (c / 64)).expense c ≡ some f) × (e.version ≤ f.version)
  newest m w c e p = go (latest (givens (heard m w)) c) refl
    where
      heard : ℕ → ℕ → List Step
      heard = book h (run_oks home made h)

      steps : List Step
      steps = (history home made h).0

      i : Invariant (length h) (run home made h) heard steps
      i = (history home made h).1

      stated : expense_from (givens (heard m w)) c ≡ some e
      stated = sym (ap (λ l. l.expense c) (i.worked m w)) ∙ p

      go : (o : Option Expense) → latest (givens (heard m w)) c ≡ o → (f : Expense) × ((now home made h (c / 64)).expense c ≡ some f) × (e.version ≤ f.version)
      go none q = absurd (some-ne-none e (sym stated ∙ ap (map (with_heard (givens (heard m w)) c)) q))
      go (some d) q =
          let s = given_of (heard m w) (states c d) (latest_in (givens (heard m w)) c d q) in
          let there = i.owned s.0 c d (i.within m w s.0 s.1) s.2 in
          let t = in_latest c d (subst (λ y. In y (givens (heard (length h) (c / 64)))) s.2 (given_in there)) in
          let v : with_heard (givens (heard m w)) c d ≡ e = some-injective _ e (sym (ap (map (with_heard (givens (heard m w)) c)) q) ∙ stated) in
          let z : d.version ≡ e.version = ap (λ x. x.version) v in
          let y = t.2 in
          (_, ap (λ l. l.expense c) (i.worked (length h) (c / 64)) ∙ ap (map (with_heard (givens (heard (length h) (c / 64))) c)) t.1, omega arith)

  -- Where an expense of what is left comes from: a ledger that stood, whose groups are all there again; or the owner made it, and it is higher than what stood there.
  data Source (r : ℕ) (new : Ledger) (c : ℕ) (e : Expense) : Type 0 where
    old : (m w : ℕ) (d : Expense) → (run home made h m w).expense c ≡ some d → d.version ≡ e.version → d.group ≡ e.group → ((g : ℕ) → HasGroup (run home made h m w) g → HasGroup new g) → Source r new c e
    higher : c / 64 ≡ r → ((d : Expense) → (now home made h r).expense c ≡ some d → d.version < e.version) → ((g : ℕ) → HasGroup (now home made h r) g → HasGroup new g) → Source r new c e

  module _ (r : ℕ) where
    step_source : (y : Given) → Fits r (now home made h r) y → (c : ℕ) (e : Expense) → (apply y (now home made h r)).expense c ≡ some e → Source r (apply y (now home made h r)) c e
    step_source (founds g u n) ft c e p = old (length h) r e p refl refl (λ k. more_present (now home made h r) (apply (founds g u n) (now home made h r)) k (counter_grows r (now home made h r) (founds g u n) ft k))
    step_source (counts g u n) ft c e p = old (length h) r e p refl refl (λ k. more_present (now home made h r) (apply (counts g u n) (now home made h r)) k (counter_grows r (now home made h r) (counts g u n) ft k))
    step_source (states d f) ft c e p = go (same? c d)
      where
        go : Same c d → Source r (apply (states d f) (now home made h r)) c e
        go (same q z) =
            let x : f ≡ e = some-injective f e (rw z at p) in
            higher (ap (λ n. n / 64) q ∙ ft.0) (λ b s. subst (λ v. b.version < v.version) x (ft.1 b (ap (now home made h r).expense (sym q) ∙ s))) (λ k j. j)
        go (other q z) = old (length h) r e (rw z at p) refl refl (λ k j. j)
    step_source (acks d v u) ft c e p = go (same? c d)
      where
        lone : (o : Option Expense) → (now home made h r).expense c ≡ o → add_ack u o ≡ some e → Source r (apply (acks d v u) (now home made h r)) c e
        lone none s x = absurd (some-ne-none e (sym x))
        lone (some b) s x = let y = some-injective _ e x in old (length h) r b s (ap (λ a. a.version) y) (ap (λ a. a.group) y) (λ k j. j)

        go : Same c d → Source r (apply (acks d v u) (now home made h r)) c e
        go (same q z) = lone ((now home made h r).expense c) refl (rw z at p)
        go (other q z) = old (length h) r e (rw z at p) refl refl (λ k j. j)

    merge_source : (k f c : ℕ) (e : Expense) → (merge_ledger (now home made h r) (run home made h k f)).expense c ≡ some e → Source r (merge_ledger (now home made h r) (run home made h k f)) c e
    merge_source k f c e p = go ((now home made h r).expense c) ((run home made h k f).expense c) refl refl p
      where
        own : (g : ℕ) → HasGroup (now home made h r) g → HasGroup (merge_ledger (now home made h r) (run home made h k f)) g
        own g = more_present (now home made h r) (merge_ledger (now home made h r) (run home made h k f)) g (λ u. omega arith)

        got : (g : ℕ) → HasGroup (run home made h k f) g → HasGroup (merge_ledger (now home made h r) (run home made h k f)) g
        got g = more_present (run home made h k f) (merge_ledger (now home made h r) (run home made h k f)) g (λ u. omega arith)

        both : (a b : Expense) → (now home made h r).expense c ≡ some a → (run home made h k f).expense c ≡ some b → merged a b ≡ e → Less a.version b.version → Less b.version a.version
            → Source r (merge_ledger (now home made h r) (run home made h k f)) c e
        both a b x y z (less j _) s = let q = sym (merged_lt a b j) ∙ z in old k f b y (ap (λ d. d.version) q) (ap (λ d. d.group) q) got
        both a b x y z (more j _) (less i _) = let q = sym (merged_gt a b i) ∙ z in old (length h) r a x (ap (λ d. d.version) q) (ap (λ d. d.group) q) own
        both a b x y z (more j _) (more i _) = let q = sym (merged_eq a b (omega arith)) ∙ z in old (length h) r a x (ap (λ d. d.version) q) (ap (λ d. d.group) q) own

        go : (o q : Option Expense) → (now home made h r).expense c ≡ o → (run home made h k f).expense c ≡ q → merge_expense o q ≡ some e → Source r (merge_ledger (now home made h r) (run home made h k f)) c e
        go none q x y z = old k f e (y ∙ z) refl refl got
        go (some a) none x y z = old (length h) r e (x ∙ z) refl refl own
        go (some a) (some b) x y z = both a b x y (some-injective _ e z) (less? a.version b.version) (less? b.version a.version)

    source : (new : Ledger) → Left r new → (c : ℕ) (e : Expense) → new.expense c ≡ some e → Source r new c e
    source new kept c e p = old (length h) r e p refl refl (λ k j. j)
    source new (acted a z) c e p = step_source (gives a (now home made h r)) (fits home r a (now home made h r) (sounds home made h (length h) r) z) c e p
    source new (joined k f) c e p = merge_source k f c e p

-- y has the group of each expense of x that it holds in the same version or a higher one.
abbrev pub Covers : Ledger → Ledger → Type 0
Covers x y = (c : ℕ) (e f : Expense) → c < 512 → x.expense c ≡ some e → y.expense c ≡ some f → e.version ≤ f.version → e.group ≢ 255 → HasGroup y e.group

-- A sound ledger has the groups of its own expenses.
covers_self : (home : ℕ → ℕ) (l : Ledger) → sound home l ≡ true → Covers l l
covers_self home l so c e f k p q v ne = go (l.expense c) p (good_ledger home l so c k)
  where
    go : (o : Option Expense) → o ≡ some e → GoodOption home l c o → HasGroup l e.group
    go o r gd = let g : Good home l c e = rw r at gd in false_of _ (λ z. let x = g.payer_in ne in let y = absent_zero 0 l e.group e.payer g.payer8 z in absurd (omega arith))

abbrev Spread : (home : ℕ → ℕ) (made : ℕ → Version) → List Call → Type 0
Spread home made h = (m w k v : ℕ) → Covers (run home made h m w) (run home made h k v)

module _ (home : ℕ → ℕ) (made : ℕ → Version) (h : List Call) (i : Spread home made h) (r : ℕ) (new : Ledger) (l : Left home made h r new) where
  new_covers : (m w : ℕ) → Covers (run home made h m w) new
  new_covers m w c e f k p q v ne = go (source home made h r new l c f q)
    where
      go : Source home made h r new c f → HasGroup new e.group
      go (old m' w' d s x y grown) = grown e.group (i m w m' w' c e d k p s (omega arith) ne)
      go (higher o top grown) = let t = newest home made h m w c e p in grown e.group (i m w (length h) r c e t.0 k p (ap (λ z. (now home made h z).expense c) (sym o) ∙ t.1) t.2 ne)

  new_covered : (k v : ℕ) → Covers new (run home made h k v)
  new_covered k v c e f j p q u ne = go (source home made h r new l c e p)
    where
      go : Source home made h r new c e → HasGroup (run home made h k v) e.group
      go (old m w d s x y grown) = subst (HasGroup (run home made h k v)) y (i m w k v c d f j s q (omega arith) (λ z. ne (sym y ∙ z)))
      go (higher o top grown) =
          let t = newest home made h k v c f q in
          let z = top t.0 (ap (λ w. (now home made h w).expense c) (sym o) ∙ t.1) in
          let y = t.2 in
          absurd (omega arith)

spread_more : (home : ℕ → ℕ) (made : ℕ → Version) (h : List Call) (c : Call) → Spread home made h → Spread home made (h ++ (c ∷ []))
spread_more home made h c i =
    let t = left home made h c in
    let new = t.0 in
    let so : sound home new ≡ true =
    subst (λ l. sound home l ≡ true) (ap (λ f. f (suc (length h)) (callee c)) t.2 ∙ after_here (run home made h) (length h) (callee c) new) (sounds home made (h ++ (c ∷ [])) (suc (length h)) (callee c)) in
    subst (λ f. (m w k v : ℕ) → Covers (f m w) (f k v)) (sym t.2) (all new t.1 so)
  where
    all : (new : Ledger) → Left home made h (callee c) new → sound home new ≡ true → (m w k v : ℕ) → Covers (after (run home made h) (length h) (callee c) new m w) (after (run home made h) (length h) (callee c) new k v)
    all new l so = after_both (λ x y. (k v : ℕ) → Covers x (after (run home made h) (length h) (callee c) new k v)) (run home made h) (run home made h) (length h) (callee c) new new
        (λ m w. after_both (λ x y. Covers (run home made h m w) x) (run home made h) (run home made h) (length h) (callee c) new new (i m w) (new_covers home made h i (callee c) new l m w))
        (after_both (λ x y. Covers new x) (run home made h) (run home made h) (length h) (callee c) new new (new_covered home made h i (callee c) new l) (covers_self home new so))

spread_start : (home : ℕ → ℕ) (made : ℕ → Version) → Spread home made []
unfolding run run_from
spread_start home made m w k v c e f j p = absurd (some-ne-none e (sym p))

pub spread : (home : ℕ → ℕ) (made : ℕ → Version) (h : List Call) → Spread home made h
spread home made = each_history (Spread home made) (spread_start home made) (spread_more home made)
