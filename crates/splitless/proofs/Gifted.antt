-- Over every history, what the groups of a replica store is kept as Storing has it; so leaving with the stored gift is leaving with the gift of the moment.
use mathlib.Core.Path.{◌≡◌, refl, sym, ap, ◌∙◌, subst}
use mathlib.Core.Bool.{Bool, true, false, not, cond}
use mathlib.Core.Option.{Option, none, some, some-injective}
use mathlib.Core.Logic.{◌⊎◌, inl, inr, ◌≢◌, ◌↔◌}
use mathlib.Core.List.{List, [], ◌∷◌, ◌++◌}
use Prim.Native.Nat.{ℕ, suc, ◌+◌, ◌-◌, ◌%◌, ◌<◌}
use native.Mathlib.Omega.{arith}
use native.Mathlib.Nat.{add-zero, add-suc, suc-add}
use lib.Dec.{ltb, eqb}
use lib.IntN.{pos, sub_ℕ, ◌+ℤ◌, ◌-ℤ◌}
use lib.ListN.{length}
use Rattle.format.specs.Layout.{Version, replica_count, last_counter, use_rule}
use Rattle.format.specs.Bytes.{Bytes}
use Rattle.rules.specs.Tests.{only}
use Rattle.rules.specs.Ledger.{Ledger, empty, member}
use Rattle.rules.specs.Sound.{sound}
use Rattle.rules.specs.Balance.{paid, held, raw, gift}
use Rattle.rules.specs.Action.{Action, leave, fields_fit}
use Rattle.rules.specs.Refusal.{answer}
use Rattle.rules.specs.Merge.{merge_ledger}
use Rattle.images.specs.Record.{read_action_in}
use Rattle.images.specs.Calls.{act_answer_in, merge_images_answer_in, raised_in}
use Rattle.history.specs.History.{Call, act, merge, raise, call_answer, callee, after, images_next, images_from, start, images}
use Rattle.images.specs.Image.{Homes}
use Rattle.history.specs.Demand.{Named}
use Rattle.history.proofs.Run.{sized, answer_to, ok, acted_on, outcome, proceed, run, run_versions, run_from}
use Rattle.history.proofs.Steps.{after_both}
use Rattle.history.proofs.Soundness.{sounds}
use Rattle.history.proofs.Transfer.{next_answer}
use Rattle.rules.proofs.Basics.{clash, Same, eqb_true, same?, Less, less?, same, other, less, more}
use Rattle.rules.proofs.Accepted.{test, ltb_lt}
use Rattle.images.proofs.Checked.{or_else_zero}
use Rattle.rules.proofs.Sound.{payers}
use Rattle.rules.proofs.Sums.{sum_8}
use Rattle.rules.proofs.Balance.{Diff, diff_sub, diff_shift, diff_add, diff_zero, diff_minus, diff_pos, raw_zero, is_pos}
use Rattle.splitless.specs.Module as M
use Rattle.splitless.specs.Shown.{show, shown, Enabled, NothingWaits, Limits, Granted}
use Rattle.splitless.specs.Tied.{fleet, fleet_now, image_now, version_now, ledger_now}
use Rattle.splitless.specs.Stored.{stored_acted, call_stored, stored_from, stored, stored_now}
use Rattle.splitless.proofs.Facts.{eqb_yes, yes_odd}
use Rattle.splitless.proofs.Showing.{shown_counter, some_group}
use Rattle.splitless.proofs.Strict.{strict, sound_strict}
use Rattle.splitless.proofs.Raw.{shown_raw, leaver_balance, stale_gift, tie_gift}
use Rattle.splitless.proofs.Accepted.{tie}
use Rattle.splitless.proofs.Effects.{tie_effect}
use Rattle.splitless.proofs.Merging.{zero_absent}
use Rattle.splitless.proofs.Invariants.{never_paid, never_held, diff_sum}
use Rattle.splitless.proofs.Fields.{read_fits}
use Rattle.splitless.proofs.Owned.{HasGroup}
use Rattle.splitless.proofs.Fleet.{fleet_is, fleet_tie}
use Rattle.splitless.proofs.Comparing.{fleet_leaves}
use Rattle.splitless.proofs.Excess.{excess}
use Rattle.splitless.proofs.Growing.{each_history, named_before, run_more}
use Rattle.splitless.proofs.Spread.{now, spread}
use Rattle.splitless.proofs.Earlier.{own_brings_nothing}
use Rattle.splitless.proofs.Storing.{Held, Keeps, act_keeps, merge_keeps}

-- One call more.
stored_append : (h t : List Call) (n : ℕ) (stood : ℕ → ℕ → Bytes) (kept : ℕ → ℕ → M.Stored) → stored_from n stood kept (h ++ t) ≡ stored_from (n + length h) (images_from n stood h) (stored_from n stood kept h) t
unfolding stored_from images_from
stored_append [] t n stood kept = rw add-zero
stored_append (c ∷ h) t n stood kept = rw (add-suc n (length h), ← suc-add n (length h)) (stored_append h t (suc n) (images_next n stood c) (after kept n (callee c) (call_stored n stood kept c)))

stored_more : (home : ℕ → ℕ) (made : ℕ → Version) (h : List Call) (c : Call) → stored home made (h ++ (c ∷ [])) ≡ after (stored home made h) (length h) (callee c) (call_stored (length h) (images home made h) (stored home made h) c)
unfolding stored stored_from images
stored_more home made h c =
    let z : 0 + length h ≡ length h = omega arith in
    let s : ℕ → ℕ → M.Stored = stored_from 0 (start home made) (λ m r g. M.no_gifts) h in
    stored_append h (c ∷ []) 0 (start home made) (λ m r g. M.no_gifts) ∙ ap (λ n. after s n (callee c) (call_stored n (images_from 0 (start home made) h) s c)) z

-- One call keeps it.
module _ (home : ℕ → ℕ) (made : ℕ → Version) (hm : Homes home) (h : List Call) (nm : Named h) (i : (m w : ℕ) → Keeps (run home made h m w) (stored home made h m w)) where
  abbrev answer_now : Call → ℕ
  answer_now = answer_to home (length h) (run_versions home made h) (run home made h)

  act_here : (v : Version) (r : ℕ) (x : Bytes) → r < 8 → act_answer_in v (image_now home made h r) x ≡ answer_now (act v r x)
  act_here v r x k = unfold call_answer in (next_answer home hm made h nm (act v r x) (k, tt))

  merge_here : (v : Version) (r f k : ℕ) (w : Version) → r < 8 → f < 8 → merge_images_answer_in v (image_now home made h r) (raised_in w (images home made h k f)) ≡ answer_now (merge v r f k w)
  merge_here v r f k w r8 f8 = unfold call_answer in (next_answer home hm made h nm (merge v r f k w) (r8, f8, tt))

  -- An accepted action is accepted on the ledger.
  accepts : (v : Version) (r : ℕ) (x : Bytes) → answer_now (act v r x) ≡ 0 → answer home r (read_action_in v x) (now home made h r) ≡ 0
  unfolding answer_to
  accepts v r x e = (or_else_zero (sized (run_versions home made h (length h) r) v) _ e).1

  shown_here : (m r : ℕ) → r < 8 → shown (images home made h m r) ≡ show r (run home made h m r)
  shown_here m r k = unfold fleet in (fleet_is home made hm h nm m r k)

  acted_keeps : (r : ℕ) (o : Option Action) → answer home r o (now home made h r) ≡ 0 → Keeps (acted_on o (now home made h r)) (stored_acted o (show r (now home made h r)) (stored_now home made h r))
  unfolding acted_on
  acted_keeps r none e = i (length h) r
  acted_keeps r (some a) e =
      let so = sounds home made h (length h) r in
      let t = (tie home r (now home made h r) so a).0 e in
      act_keeps home r (now home made h r) so a (stored_now home made h r) t.0 t.1 (tie_effect home r (now home made h r) a e) (i (length h) r)

  call_keeps : (c : Call) → Named (c ∷ [])
      → Keeps (cond (ok home (length h) (run_versions home made h) (run home made h) c) (outcome (length h) (run home made h) c) (now home made h (callee c))) (call_stored (length h) (images home made h) (stored home made h) c)
  unfolding ok outcome callee call_stored
  call_keeps (act v r x) n = rw (act_here v r x n.0, shown_here (length h) r n.0) (go (same? (answer_now (act v r x)) 0))
    where
      go : Same (answer_now (act v r x)) 0
          → Keeps (cond (eqb (answer_now (act v r x)) 0) (acted_on (read_action_in v x) (now home made h r)) (now home made h r))
          (cond (eqb (answer_now (act v r x)) 0) (stored_acted (read_action_in v x) (show r (now home made h r)) (stored_now home made h r)) (stored_now home made h r))
      go (same e q) = rw q (acted_keeps r (read_action_in v x) (accepts v r x e))
      go (other e q) = rw q (i (length h) r)
  call_keeps (merge v r f k w) n = rw (merge_here v r f k w n.0 n.1) (go (eqb (answer_now (merge v r f k w)) 0) (same? r f))
    where
      go : (b : Bool) → Same r f
          → Keeps (cond b (merge_ledger (now home made h r) (run home made h k f)) (now home made h r))
          (cond b (cond (eqb r f) (stored_now home made h r) (M.gifts_merge_replicas (shown (image_now home made h r)) (shown (images home made h k f)) (stored_now home made h r) (stored home made h k f))) (stored_now home made h r))
      go false s = i (length h) r
      go true (same p q) = rw q (subst (λ l. Keeps l (stored_now home made h r)) (sym (own_brings_nothing home made h r k) ∙ ap (λ j. merge_ledger (now home made h r) (run home made h k j)) p) (i (length h) r))
      go true (other p q) = rw (q, shown_here (length h) r n.0, shown_here k f n.1)
          (merge_keeps home r f (now home made h r) (run home made h k f) (stored_now home made h r) (stored home made h k f) (sounds home made h (length h) r) (sounds home made h k f) (spread home made h (length h) r k f)
          (spread home made h k f (length h) r) (i (length h) r) (i k f))
  call_keeps (raise v r d) n = go (eqb (answer_now (raise v r d)) 0)
    where
      go : (b : Bool) → Keeps (cond b (now home made h r) (now home made h r)) (stored_now home made h r)
      go true = i (length h) r
      go false = i (length h) r

kept_start : (home : ℕ → ℕ) (made : ℕ → Version) (m w : ℕ) → Keeps (run home made [] m w) (stored home made [] m w)
unfolding run run_from
kept_start home made m w g k there = absurd (clash (zero_absent empty g (λ u j. refl)) there)

kept_more : (home : ℕ → ℕ) (made : ℕ → Version) → Homes home → (h : List Call) (c : Call) → (Named h → (m w : ℕ) → Keeps (run home made h m w) (stored home made h m w))
    → Named (h ++ (c ∷ [])) → (m w : ℕ) → Keeps (run home made (h ++ (c ∷ [])) m w) (stored home made (h ++ (c ∷ [])) m w)
unfolding proceed
kept_more home made hm h c ih nm m w =
    let n = named_before h c nm in
    let i = ih n.0 in
    subst (λ f. Keeps (f m w) (stored home made (h ++ (c ∷ [])) m w)) (sym (run_more home made h c))
    (subst (λ s. Keeps (proceed home (length h) (run_versions home made h) (run home made h) c m w) (s m w)) (sym (stored_more home made h c))
    (after_both Keeps (run home made h) (stored home made h) (length h) (callee c) _ _ i (call_keeps home made hm h n.0 i c n.1) m w))

stored_kept : (home : ℕ → ℕ) (made : ℕ → Version) → Homes home → (h : List Call) → Named h → (m w : ℕ) → Keeps (run home made h m w) (stored home made h m w)
stored_kept home made hm = each_history (λ h. Named h → (m w : ℕ) → Keeps (run home made h m w) (stored home made h m w)) (λ nm. kept_start home made) (kept_more home made hm)

-- What is kept, read on the replica that the ledger shows.
module _ (r : ℕ) (l : Ledger) (s : M.Stored) (i : Keeps l s) (g u : ℕ) (g16 : g < 16) (u8 : u < 8) where
  amount_is : M.amount_of (raw (strict l) g u) ≡ excess l g u
  unfolding raw excess
  amount_is = go (less? (paid (strict l) g u) (held (strict l) g u))
    where
      go : Less (paid (strict l) g u) (held (strict l) g u) → M.amount_of (sub_ℕ (paid (strict l) g u) (held (strict l) g u)) ≡ paid (strict l) g u - held (strict l) g u
      go (less k e) = rw e (omega arith)
      go (more k e) = rw e

  fresh : (b : Bool) → member l g u ≡ b → gift (strict l) g u ≡ only (not b) (excess l g u)
  unfolding gift excess
  fresh b p = ap (λ c. only (not c) (paid (strict l) g u - held (strict l) g u)) p

  sent_shown : (show r l).groups g ≢ none
      → ((s g).individual_gifts_sent u ≡ M.individual_gifts_sent (show r l) g u)
      ⊎ (M.IsMember ((M.group (show r l) g).members u) × ((s g).individual_gifts_sent u ≡ M.amount_of (M.paid_less_shares g (show r l).recorded_expenses u)))
  sent_shown there = rw (tie_gift r l g g16 u u8, shown_raw r l g u (omega arith) u8, shown_counter r l g u u8, amount_is) (go (member l g u) refl ((i g g16 (some_group r l g there)).sent u u8))
    where
      go : (b : Bool) → member l g u ≡ b → Held l g u ((s g).individual_gifts_sent u)
          → ((s g).individual_gifts_sent u ≡ gift (strict l) g u) ⊎ (M.IsMember (l.counter g u) × ((s g).individual_gifts_sent u ≡ excess l g u))
      go true p (inl e) = inr (eqb_true (l.counter g u % 2) 1 p, e)
      go true p (inr e) = inl (e.0 ∙ sym (fresh true p))
      go false p (inl e) = inl (e ∙ sym (fresh false p))
      go false p (inr e) = absurd (clash (eqb_yes (l.counter g u % 2) 1 e.1) p)

  leave_shown : (x : M.Replica) → show r l ≡ x → x.groups g ≢ none → M.IsMember ((M.group x g).members u) → M.AtLeastZero (M.BalanceStored u g x s) ↔ M.AtLeastZero (M.Balance u g x)
  leave_shown x e = subst (λ y. y.groups g ≢ none → M.IsMember ((M.group y g).members u) → M.AtLeastZero (M.BalanceStored u g y s) ↔ M.AtLeastZero (M.Balance u g y)) e here_so
    where
      stale : Held l g u ((s g).individual_gifts_sent u) → ((s g).individual_gifts_sent u ≡ 0) ⊎ ((s g).individual_gifts_sent u ≡ M.amount_of (raw (strict l) g u))
      stale (inl p) = inr (p ∙ sym amount_is)
      stale (inr p) = inl p.0

      here_so : (show r l).groups g ≢ none → M.IsMember ((M.group (show r l) g).members u) → M.AtLeastZero (M.BalanceStored u g (show r l) s) ↔ M.AtLeastZero (M.Balance u g (show r l))
      here_so there m = rw (leaver_balance r l g u (omega arith) u8 (yes_odd _ _ (shown_counter r l g u u8) m), shown_raw r l g u (omega arith) u8)
          (stale_gift (raw (strict l) g u) ((s g).individual_gifts_sent u) (stale ((i g g16 (some_group r l g there)).sent u u8)))

-- The module's invariant 500 of what is stored: what is sent adds up to the total, and who was never a member has paid, holds and sends nothing.
module _ (home : ℕ → ℕ) (r : ℕ) (l : Ledger) (so : sound home l ≡ true) (s : M.Stored) (i : Keeps l s) (g : ℕ) (g16 : g < 16) (there : HasGroup l g) where
  one_balance : (u : ℕ) → u < 8 → Less 0 (l.counter g u)
      → Diff (paid (strict l) g u) (held (strict l) g u + (s g).individual_gifts_sent u) (cond (ltb 0 (l.counter g u)) (raw (strict l) g u -ℤ pos ((s g).individual_gifts_sent u)) (pos 0))
  unfolding raw excess
  one_balance u k (less j e) = rw e (diff_shift (paid (strict l) g u) (held (strict l) g u + (s g).individual_gifts_sent u) (diff_add (diff_sub (paid (strict l) g u) (held (strict l) g u)) (diff_minus ((s g).individual_gifts_sent u))) (omega arith))
  one_balance u k (more j e) = rw e (is_pos 0 (go ((i g g16 there).sent u k)))
    where
      never : l.counter g u ≡ 0
      never = omega arith

      go : Held l g u ((s g).individual_gifts_sent u) → paid (strict l) g u ≡ 0 + (held (strict l) g u + (s g).individual_gifts_sent u)
      go (inl p) = let a = never_paid home (strict l) (sound_strict home l so) g u g16 k never in let b = never_held home (strict l) (sound_strict home l so) g u g16 k never in omega arith
      go (inr p) = let m : 0 % 2 ≡ 1 = subst M.IsMember never p.1 in absurd (omega arith)

  balance_shown : M.SumIntegers M.USERS (λ u. ltb 0 ((M.group (show r l) g).members u)) (λ u. M.BalanceStored u g (show r l) s) +ℤ pos (s g).total_gifted ≡ pos 0
  balance_shown =
      let x = raw_zero (strict l) g (payers home l so) in
      let t = (i g g16 there).total in
      let p = sum_8 (paid (strict l) g) in
      let q = sum_8 (λ u. held (strict l) g u + (s g).individual_gifts_sent u) in
      diff_zero (diff_add (diff_sum 8 (paid (strict l) g) (λ u. held (strict l) g u + (s g).individual_gifts_sent u) _ _ one) (diff_pos (s g).total_gifted)) (omega arith)
    where
      one : (u : ℕ) → u < 8 → Diff (paid (strict l) g u) (held (strict l) g u + (s g).individual_gifts_sent u) (cond (ltb 0 ((M.group (show r l) g).members u)) (M.BalanceStored u g (show r l) s) (pos 0))
      one u k = rw (shown_counter r l g u k, shown_raw r l g u (omega arith) k) (one_balance u k (less? 0 (l.counter g u)))

-- Of the fleet.
module _ (home : ℕ → ℕ) (made : ℕ → Version) (hm : Homes home) (h : List Call) (nm : Named h) where
  kept : (m w : ℕ) → Keeps (run home made h m w) (stored home made h m w)
  kept = stored_kept home made hm h nm

  shown_as : (m r : ℕ) → r < replica_count → show r (run home made h m r) ≡ fleet home made h m r
  shown_as m r k = sym (fleet_is home made hm h nm m r k)

  pub leaves_so : (r a g : ℕ) → r < replica_count → a < 8 → g < 16 → M.LeaveGroupStored home r (fleet_now home made h) (stored_now home made h r) a g ↔ M.LeaveGroup home r (fleet_now home made h) a g
  leaves_so r a g k a8 g16 =
      let t = leave_shown r (now home made h r) (stored_now home made h r) (kept (length h) r) g a g16 a8 (fleet_now home made h r) (shown_as (length h) r k) in
      (λ e. (e.0, e.1, e.2, (t e.1 e.2).0 e.3), λ e. (e.0, e.1, e.2, (t e.1 e.2).1 e.3))

  pub accepted_so : (r : ℕ) (x : Bytes) (a g : ℕ) → r < replica_count → read_action_in (version_now home made h r) x ≡ some (leave a g) → (ledger_now home made h r).rule g ≢ use_rule
      → (act_answer_in (version_now home made h r) (image_now home made h r) x ≡ 0) ↔ (M.LeaveGroupStored home r (fleet_now home made h) (stored_now home made h r) a g × NothingWaits (fleet_now home made h r) g a × ((M.group (fleet_now home made h r) g).members a ≢ last_counter))
  unfolding fields_fit Enabled Limits Granted
  accepted_so r x a g k p ne =
      let v = version_now home made h r in
      let f = test _ (read_fits v x (leave a g) p) in
      let a8 = ltb_lt a 8 (f 0) in
      let g16 = ltb_lt g 16 (f 1) in
      let t = leaves_so r a g k a8 g16 in
      let c = fleet_leaves home made hm h nm r a g k a8 g16 ne in (
        λ e.
            let z = ((fleet_tie home made hm h nm v r x k).0 e).1 in
            let q : z.0 ≡ leave a g = some-injective z.0 (leave a g) (sym z.1 ∙ p) in
            let y = c.0 (subst (Granted home r (fleet_now home made h) (ledger_now home made h r)) q z.2) in
            (t.1 y.0, y.1.0, y.1.1),
        λ e. (fleet_tie home made hm h nm v r x k).1 (refl, (leave a g, p, c.1 (t.0 e.0, (e.1, e.2)))),
      )

  pub sent_so : (m r g u : ℕ) → r < replica_count → g < 16 → u < 8 → (fleet home made h m r).groups g ≢ none
      → ((stored home made h m r g).individual_gifts_sent u ≡ M.individual_gifts_sent (fleet home made h m r) g u)
      ⊎ (M.IsMember ((M.group (fleet home made h m r) g).members u) × ((stored home made h m r g).individual_gifts_sent u ≡ M.amount_of (M.paid_less_shares g (fleet home made h m r).recorded_expenses u)))
  sent_so m r g u k g16 u8 = subst
      (λ x. x.groups g ≢ none → ((stored home made h m r g).individual_gifts_sent u ≡ M.individual_gifts_sent x g u)
      ⊎ (M.IsMember ((M.group x g).members u) × ((stored home made h m r g).individual_gifts_sent u ≡ M.amount_of (M.paid_less_shares g x.recorded_expenses u))))
      (shown_as m r k)
      (sent_shown r (run home made h m r) (stored home made h m r) (kept m r) g u g16 u8)

  pub balanced_so : (m r : ℕ) → r < replica_count → M.GroupBalanceZeroStored (fleet home made h m r) (stored home made h m r)
  balanced_so m r k = subst (λ x. M.GroupBalanceZeroStored x (stored home made h m r)) (shown_as m r k)
      (λ g g16 there. balance_shown home r (run home made h m r) (sounds home made h m r) (stored home made h m r) (kept m r) g g16 (some_group r (run home made h m r) g there))
