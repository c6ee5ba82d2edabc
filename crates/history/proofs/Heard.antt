-- Over every history, each replica's ledger is the one worked out from the steps that it has heard.
-- The argument uses the interface `Fits` of an accepted step and the theory of what is worked out; it never looks at a kind.
use mathlib.Core.Path.{◌≡◌, refl, sym, ap, ◌∙◌, subst}
use mathlib.Core.Bool.{Bool, true, false, cond}
use mathlib.Core.Option.{Option, none, some}
use mathlib.Core.Logic.{◌⊎◌, inl, inr, ⊎_elim}
use mathlib.Core.List.{List, [], ◌∷◌, ◌++◌}
use Prim.Native.Nat.{ℕ, suc, ◌+◌, ◌/◌, ◌≤◌, ◌<◌}
use native.Mathlib.Omega.{arith}
use native.Mathlib.Nat.{add-zero, add-suc, suc-add, zero-add}
use lib.ListN.{length}
use Rattle.format.specs.Layout.{Version, groups_each, expenses_each}
use Rattle.rules.specs.Ledger.{Expense, Ledger, empty}
use Rattle.rules.specs.Sound.{sound}
use Rattle.rules.specs.Action.{Action}
use Rattle.rules.specs.Step.{Given, founds, states, apply, gives}
use Rattle.rules.specs.Refusal.{answer}
use Rattle.rules.specs.Merge.{merge_ledger}
use Rattle.rules.specs.Heard.{worked_out}
use Rattle.images.specs.Record.{read_action_in}
use Rattle.rules.proofs.Basics.{In, here, there, in_cases, in_none, in_left, in_right, in_either, Same, same, other, same?, eqb_true}
use Rattle.rules.proofs.Theory.{Unique, Closed, Within, adds, merges, latest_in}
use Rattle.rules.proofs.Accepted.{Fits, fits}
use Rattle.images.proofs.Checked.{or_else_zero}
use Rattle.history.specs.History.{Call, act, merge, raise, callee, after, Step, givens, with_step, learned, note, book_from, book}
use Rattle.history.proofs.Run.{sized, answer_to, ok, acted_on, outcome, proceed, upgrade, run_from, run_answers_from, run_oks_from, run, run_oks}
use Rattle.history.proofs.Soundness.{sound_one, empty_sound}
use Rattle.history.proofs.Steps.{given_in, givens_append, within_givens, after_both, after_here, after_old, after_now, fits_states, fits_acks, fits_founds, fits_adds, Single, single_unique, Founded}

-- The invariant after n calls. `made` holds all steps so far; a replica's ledger is worked out from what it heard; what is acknowledged has been stated;
-- of each version of an expense, and of the founding of a group, there is one step, and the replica that owns the number has heard it; a place names one step;
-- what is heard only grows.
pub record Invariant (n : ℕ) (stood : ℕ → ℕ → Ledger) (heard : ℕ → ℕ → List Step) (made : List Step) : Type 0 where
  pub worked : (m r : ℕ) → stood m r ≡ worked_out (givens (heard m r))
  pub closed : (m r : ℕ) → Closed (givens (heard m r))
  pub within : (m r : ℕ) (s : Step) → In s (heard m r) → In s made
  pub single : Single made
  pub owned : (s : Step) (c : ℕ) (e : Expense) → In s made → s.given ≡ states c e → In s (heard n (c / expenses_each))
  pub founded : Founded made
  pub own_group : (s : Step) (g u k : ℕ) → In s made → s.given ≡ founds g u k → In s (heard n (g / groups_each)) × (u < 8)
  pub placed : (s t : Step) → In s made → In t made → s.place ≡ t.place → s ≡ t
  pub early : (s : Step) → In s made → s.place < n
  pub grows : (m k r : ℕ) → m ≤ k → k ≤ n → (s : Step) → In s (heard m r) → In s (heard k r)

-- The first of suc k calls counts with those before it.
counted : (n k : ℕ) {stood : ℕ → ℕ → Ledger} {heard : ℕ → ℕ → List Step} {made : List Step} → Invariant (suc n + k) stood heard made → Invariant (n + suc k) stood heard made
counted n k {stood} {heard} {made} i = subst (λ m. Invariant m stood heard made) (suc-add n k ∙ sym (add-suc n k)) i

-- One call: the invariant is kept by a new entry for replica r, from these facts about that entry.
module _ (n : ℕ) (stood : ℕ → ℕ → Ledger) (heard : ℕ → ℕ → List Step) (made : List Step) (i : Invariant n stood heard made) (r : ℕ) where
  grow : (l : Ledger) (new : List Step) (made' : List Step) → l ≡ worked_out (givens new) → Closed (givens new)
      → ((s : Step) → In s new → In s made') → ((s : Step) → In s made → In s made') → ((s : Step) → In s (heard n r) → In s new)
      → Single made'
      → ((s : Step) (c : ℕ) (e : Expense) → In s made' → s.given ≡ states c e → In s made ⊎ ((c / expenses_each ≡ r) × In s new))
      → Founded made'
      → ((s : Step) (g u k : ℕ) → In s made' → s.given ≡ founds g u k → In s made ⊎ ((g / groups_each ≡ r) × (u < 8) × In s new))
      → ((s t : Step) → In s made' → In t made' → s.place ≡ t.place → s ≡ t)
      → ((s : Step) → In s made' → s.place < suc n)
      → Invariant (suc n) (after stood n r l) (after heard n r new) made'
  grow l new made' hl hc hw hm hk hu ho hf hg hp he = record {
    worked = after_both (λ x y. x ≡ worked_out (givens y)) stood heard n r l new i.worked hl;
    closed = after_both (λ x y. Closed (givens y)) heard heard n r new new i.closed hc;
    within = λ m w s. after_both (λ x y. In s y → In s made') heard heard n r new new (λ m' w' k. hm s (i.within m' w' s k)) (hw s) m w;
    single = hu;
    owned = owned';
    founded = hf;
    own_group = own_group';
    placed = hp;
    early = he;
    grows = λ m k w le top s x. grows' m k w s le top (same? k (suc n)) (same? m (suc n)) x;
  }
    where
      kept : (w : ℕ) (s : Step) → In s (heard n w) → In s (after heard n r new (suc n) w)
      kept w s k = after_now heard n r new (λ y. In s y) w (λ p. hk s (subst (λ v. In s (heard n v)) p k)) k

      owned' : (s : Step) (c : ℕ) (e : Expense) → In s made' → s.given ≡ states c e → In s (after heard n r new (suc n) (c / expenses_each))
      owned' s c e x eq = ⊎_elim (λ k. kept (c / expenses_each) s (i.owned s c e k eq)) (λ k. rw (k.0, after_here heard n r new) k.1) (ho s c e x eq)

      own_group' : (s : Step) (g u k : ℕ) → In s made' → s.given ≡ founds g u k → In s (after heard n r new (suc n) (g / groups_each)) × (u < 8)
      own_group' s g u k x eq = ⊎_elim
          (λ y. let z = i.own_group s g u k y eq in (kept (g / groups_each) s z.0, z.1))
          (λ y. (rw (y.0, after_here heard n r new) y.2, y.1))
          (hg s g u k x eq)

      grows' : (m k w : ℕ) (s : Step) → m ≤ k → k ≤ suc n → Same k (suc n) → Same m (suc n) → In s (after heard n r new m w) → In s (after heard n r new k w)
      grows' m k w s le top (same p _) (same q _) x = rw p (rw q at x)
      grows' m k w s le top (same p _) (other q _) x =
          let y : In s (heard m w) = rw (after_old heard n r new m w (omega arith)) at x in
          rw p (kept w s (i.grows m n w (omega arith) (omega arith) s y))
      grows' m k w s le top (other p _) z x =
          let y : In s (heard m w) = rw (after_old heard n r new m w (omega arith)) at x in
          rw (after_old heard n r new k w (omega arith)) (i.grows m k w le (omega arith) s y)

  -- A refused call.
  refused : Invariant (suc n) (after stood n r (stood n r)) (after heard n r (heard n r)) made
  refused = grow (stood n r) (heard n r) made (i.worked n r) (i.closed n r) (i.within n r) (λ s k. k) (λ s k. k) i.single (λ s c e k eq. inl k) i.founded (λ s g u j k eq. inl k) i.placed (λ s k. let z = i.early s k in omega arith)

  -- An accepted merge.
  merging : (f m : ℕ) → Invariant (suc n) (after stood n r (merge_ledger (stood n r) (stood m f))) (after heard n r (heard n r ++ heard m f)) made
  merging f m =
      let a = heard n r in
      let b = heard m f in
      let wa : Within (givens a) (givens made) = within_givens a made (i.within n r) in
      let wb : Within (givens b) (givens made) = within_givens b made (i.within m f) in
      let w : Within (givens a ++ givens b) (givens made) = λ x k. ⊎_elim (wa x) (wb x) (in_either (givens a) k) in
      let u : Unique (givens a ++ givens b) = λ c e e' x y. single_unique made i.single c e e' (w _ x) (w _ y) in
      let cl : Closed (givens a ++ givens b) = λ c v z k. ⊎_elim
      (λ x. let t = i.closed n r c v z x in (t.0, in_left (givens b) t.1, t.2))
      (λ x. let t = i.closed m f c v z x in (t.0, in_right (givens a) t.1, t.2))
      (in_either (givens a) k) in
      grow (merge_ledger (stood n r) (stood m f)) (a ++ b) made
      (rw (i.worked n r, i.worked m f, givens_append a b) (merges (givens a) (givens b) u (i.closed n r) (i.closed m f)))
      (rw (givens_append a b) cl)
      (λ s k. ⊎_elim (i.within n r s) (i.within m f s) (in_either a k))
      (λ s k. k)
      (λ s k. in_left b k)
      i.single
      (λ s c e k eq. inl k)
      i.founded
      (λ s g u j k eq. inl k)
      i.placed
      (λ s k. let z = i.early s k in omega arith)

  -- An accepted action's step x.
  stepped : (x : Given) → Fits r (stood n r) x
      → Invariant (suc n) (after stood n r (apply x (stood n r))) (after heard n r (record { place = n; given = x } ∷ heard n r)) (record { place = n; given = x } ∷ made)
  stepped x ft =
      grow (apply x (stood n r)) (fresh ∷ heard n r) (fresh ∷ made)
      (rw (i.worked n r) (adds g x (i.closed n r) (fits_adds g r x ft')))
      closed'
      (λ s k. ⊎_elim (λ e. here e) (λ y. there (i.within n r s y)) (in_cases k))
      (λ s k. there k)
      (λ s k. there k)
      single'
      (λ s c e k eq. ⊎_elim (λ p. inr ((fits_states g r x c e (ap (λ z. z.given) (sym p) ∙ eq) ft').0, here p)) (λ y. inl y) (in_cases k))
      founded'
      (λ s h u k j eq. ⊎_elim (λ p. let z = fits_founds g r x h u k (ap (λ y. y.given) (sym p) ∙ eq) ft' in inr (z.0, z.1, here p)) (λ y. inl y) (in_cases j))
      (λ s t ks kt eq. ⊎_elim
      (λ p. ⊎_elim (λ q. p ∙ sym q) (λ y. absurd (late s t p y eq)) (in_cases kt))
      (λ y. ⊎_elim (λ q. absurd (late t s q y (sym eq))) (λ z. i.placed s t y z eq) (in_cases kt))
      (in_cases ks))
      (λ s k. ⊎_elim (λ p. let z : s.place ≡ n = ap (λ y. y.place) p in omega arith) (λ y. let z = i.early s y in omega arith) (in_cases k))
    where
      fresh : Step
      fresh = record { place = n; given = x }

      g : List Given
      g = givens (heard n r)

      ft' : Fits r (worked_out g) x
      ft' = subst (λ l. Fits r l x) (i.worked n r) ft

      late : (s t : Step) → s ≡ fresh → In t made → s.place ≡ t.place → ⊥
      late s t p k eq = let z : s.place ≡ n = ap (λ y. y.place) p in let y = i.early t k in omega arith

      closed' : Closed (x ∷ g)
      closed' c v u k = ⊎_elim
          (λ p. let t = fits_acks g r x c v u (sym p) ft' in (t.0, there (latest_in g c t.0 t.1), t.2))
          (λ y. let t = i.closed n r c v u y in (t.0, there t.1, t.2))
          (in_cases k)

      -- A statement of an expense of this replica's own has been heard here.
      known : (c : ℕ) (t : Step) (f : Expense) → c / expenses_each ≡ r → In t made → t.given ≡ states c f → In (states c f) g
      known c t f o k q = subst (λ z. In z g) q (given_in (subst (λ w. In t (heard n w)) o (i.owned t c f k q)))

      later : (s t : Step) (c : ℕ) (e f : Expense) → s ≡ fresh → s.given ≡ states c e → In t made → t.given ≡ states c f → f.version < e.version
      later s t c e f p q k q₂ = let z = fits_states g r x c e (ap (λ y. y.given) (sym p) ∙ q) ft' in z.1 f (known c t f z.0 k q₂)

      -- A founding of a group of this replica's own has been heard here, and so the group isn't founded again.
      again : (s t : Step) (h u k w j : ℕ) → s ≡ fresh → s.given ≡ founds h u k → In t made → t.given ≡ founds h w j → ⊥
      again s t h u k w j p q y q₂ =
          let z = fits_founds g r x h u k (ap (λ y. y.given) (sym p) ∙ q) ft' in
          let o = i.own_group t h w j y q₂ in
          z.3 w j o.1 (subst (λ y. In y g) q₂ (given_in (subst (λ v. In t (heard n v)) z.0 o.0)))

      founded' : Founded (fresh ∷ made)
      founded' s t h u k w j ks kt qs qt = ⊎_elim
          (λ p. ⊎_elim (λ q. p ∙ sym q) (λ y. absurd (again s t h u k w j p qs y qt)) (in_cases kt))
          (λ y. ⊎_elim (λ q. absurd (again t s h w j u k q qt y qs)) (λ z. i.founded s t h u k w j y z qs qt) (in_cases kt))
          (in_cases ks)

      single' : Single (fresh ∷ made)
      single' s t c e f ks kt qs qt eq = ⊎_elim
          (λ p. ⊎_elim (λ q. p ∙ sym q) (λ y. absurd (let z = later s t c e f p qs y qt in omega arith)) (in_cases kt))
          (λ y. ⊎_elim (λ q. absurd (let z = later t s c f e q qt y qs in omega arith)) (λ z. i.single s t c e f y z qs qt eq) (in_cases kt))
          (in_cases ks)

-- One call, whichever it is.
module _ (home : ℕ → ℕ) where
  acting : (n : ℕ) (stood : ℕ → ℕ → Ledger) (heard : ℕ → ℕ → List Step) (made : List Step) → Invariant n stood heard made → (r : ℕ) (o : Option Action) → sound home (stood n r) ≡ true → answer home r o (stood n r) ≡ 0
      → (made' : List Step) × Invariant (suc n) (after stood n r (acted_on o (stood n r))) (after heard n r (with_step n o (heard n r))) made'
  unfolding acted_on with_step
  acting n stood heard made i r none so p = (made, refused n stood heard made i r)
  acting n stood heard made i r (some a) so p =
      let q : gives a (stood n r) ≡ gives a (worked_out (givens (heard n r))) = ap (gives a) (i.worked n r) in
      let ft : Fits r (stood n r) (gives a (stood n r)) = fits home r a (stood n r) so p in
      (record { place = n; given = gives a (worked_out (givens (heard n r))) } ∷ made, rw q (stepped n stood heard made i r (gives a (worked_out (givens (heard n r)))) (rw q at ft)))

  accepting : (n : ℕ) (at : ℕ → ℕ → Version) (stood : ℕ → ℕ → Ledger) (heard : ℕ → ℕ → List Step) (made : List Step) → Invariant n stood heard made → ((m r : ℕ) → sound home (stood m r) ≡ true) → (c : Call)
      → ok home n at stood c ≡ true → (made' : List Step) × Invariant (suc n) (after stood n (callee c) (outcome n stood c)) (after heard n (callee c) (learned n heard c)) made'
  unfolding ok answer_to callee outcome learned
  accepting n at stood heard made i so (act v r x) p =
      acting n stood heard made i r (read_action_in v x) (so n r) (or_else_zero (sized (at n r) v) (answer home r (read_action_in v x) (stood n r)) (eqb_true _ 0 p)).1
  accepting n at stood heard made i so (merge v r f m w) p = (made, merging n stood heard made i r f m)
  accepting n at stood heard made i so (raise v r d) p = (made, refused n stood heard made i r)

  one_call : (n : ℕ) (at : ℕ → ℕ → Version) (stood : ℕ → ℕ → Ledger) (heard : ℕ → ℕ → List Step) (made : List Step) → Invariant n stood heard made → ((m r : ℕ) → sound home (stood m r) ≡ true) → (c : Call)
      → (made' : List Step) × Invariant (suc n) (proceed home n at stood c) (note learned n heard c (ok home n at stood c)) made'
  unfolding proceed note
  one_call n at stood heard made i so c = go (ok home n at stood c) refl
    where
      go : (b : Bool) → ok home n at stood c ≡ b
          → (made' : List Step) × Invariant (suc n) (after stood n (callee c) (cond b (outcome n stood c) (stood n (callee c)))) (after heard n (callee c) (cond b (learned n heard c) (heard n (callee c)))) made'
      go false p = (made, refused n stood heard made i (callee c))
      go true p = accepting n at stood heard made i so c p

  -- Every list of calls.
  all_calls : (h : List Call) (n : ℕ) (at : ℕ → ℕ → Version) (stood : ℕ → ℕ → Ledger) (heard : ℕ → ℕ → List Step) (made : List Step) → Invariant n stood heard made → ((m r : ℕ) → sound home (stood m r) ≡ true)
      → (made' : List Step) × Invariant (n + length h) (run_from home n at stood h) (book_from learned n heard h (run_oks_from home n at stood h)) made'
  unfolding run_from book_from run_oks_from run_answers_from ok
  all_calls [] n at stood heard made i so = (made, rw add-zero i)
  all_calls (c ∷ h) n at stood heard made i so =
      let t = one_call n at stood heard made i so c in
      let u = all_calls h (suc n) (upgrade home n at stood c) (proceed home n at stood c) (note learned n heard c (ok home n at stood c)) t.0 t.1 (sound_one home n at stood so c) in
      (u.0, counted n (length h) u.1)

  initial : Invariant 0 (λ m r. empty) (λ m r. []) []
  initial = record {
    worked = λ m r. refl;
    closed = λ m r c v u k. absurd (in_none k);
    within = λ m r s k. k;
    single = λ s t c e f k. absurd (in_none k);
    owned = λ s c e k. absurd (in_none k);
    founded = λ s t g u k w j x. absurd (in_none x);
    own_group = λ s g u k x. absurd (in_none x);
    placed = λ s t k. absurd (in_none k);
    early = λ s k. absurd (in_none k);
    grows = λ m k r le top s x. x;
  }

  pub history : (made : ℕ → Version) (h : List Call) → (steps : List Step) × Invariant (length h) (run home made h) (book h (run_oks home made h)) steps
  unfolding run book run_oks
  history made h = let t = all_calls h 0 (λ m r. made r) (λ m r. empty) (λ m r. []) [] initial (empty_sound home) in (t.0, rw zero-add at t.1)
