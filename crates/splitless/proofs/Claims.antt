-- The theorems: what specs/Tied claims of a sound ledger, of a join, of checked images, and of every history over one home table; and specs/Stored of stored gifts.
use mathlib.Core.Path.{◌≡◌, refl, sym, ◌∙◌, subst}
use mathlib.Core.Bool.{true, cond}
use mathlib.Core.List.{List, [], ◌∷◌}
use Prim.Native.Nat.{ℕ}
use lib.IntN.{pos, ◌-ℤ◌}
use lib.ListN.{length}
use Rattle.format.specs.Layout.{Version}
use Rattle.format.specs.Bytes.{Bytes}
use Rattle.rules.specs.Ledger.{Ledger}
use Rattle.rules.specs.Sound.{sound}
use Rattle.rules.specs.Action.{Action, found, add, leave, enter, put_in, take_out, change, delete, acknowledge, absorb}
use Rattle.images.specs.Image.{Homes, CheckedIn}
use Rattle.images.specs.Record.{day_named}
use Rattle.images.specs.Calls.{act_answer_in, merge_images_answer_in, raised_in}
use Rattle.history.specs.History.{Call, act, merge, raise, call_answer, images}
use Rattle.history.specs.Demand.{Named}
use Rattle.history.proofs.Run.{ok}
use Rattle.rules.proofs.Basics.{Same, same?, same, other}
use Rattle.splitless.specs.Module as M
use Rattle.splitless.specs.Shown.{show, Limits}
use Rattle.splitless.specs.Tied.{LedgerTied, MergeTied, ImageTied, ImagesTied, fleet, fleet_now, fleet_then, image_now, version_now, ledger_now, Made, HistoryTied, by_action, by_merge, by_nothing}
use Rattle.splitless.specs.Stored.{StoredTied}
use Rattle.splitless.proofs.Facts.{sum_shares}
use Rattle.splitless.proofs.Showing.{show_redated}
use Rattle.splitless.proofs.Strict.{strict_raw, strict_gift, strict_gifts}
use Rattle.splitless.proofs.Leaving.{leaves_tied}
use Rattle.splitless.proofs.Nodded.{nods_tied}
use Rattle.splitless.proofs.Comparing.{fleet_leaves, as_module}
use Rattle.splitless.proofs.Raw.{tie_gift, tie_gifts, tie_balance}
use Rattle.splitless.proofs.Accepted.{tie, no_action}
use Rattle.splitless.proofs.Effects.{tie_effect}
use Rattle.splitless.proofs.Rejoining.{tie_rejoin, rejoin_effect}
use Rattle.splitless.proofs.Merging.{tie_merge, tie_merge_answer}
use Rattle.splitless.proofs.Invariants.{tie_inv}
use Rattle.splitless.proofs.Records.{names_zero, SharesFit, has_record}
use Rattle.splitless.proofs.Images.{byte_tie, byte_leaves, byte_effect, byte_refused, byte_homes, byte_inv, byte_merge_tie, byte_merge, byte_merge_refused, byte_merge_homes}
use Rattle.splitless.proofs.Known.{image_known}
use Rattle.splitless.proofs.Safety.{Safe, safe_same, safe_effect, safe_merge, safe_all}
use Rattle.splitless.proofs.Stepping.{Told8, Sorted, sorted, action, merging, nothing}
use Rattle.splitless.proofs.Fleet.{images_past, free_group_lem, free_expense_lem, local_tie, fleet_tie, fleet_acted, fleet_refused, fleet_raised, fleet_taken, fleet_merged, fleet_inv}
use Rattle.splitless.proofs.Reaching.{fleet_stepped, fleet_crossed, fleet_started, fleet_reached}
use Rattle.splitless.proofs.Gifted.{sent_so, leaves_so, accepted_so, balanced_so}

pub ledger_tied : (home : ℕ → ℕ) (r : ℕ) (l : Ledger) → sound home l ≡ true → LedgerTied home r l
ledger_tied home r l so = record {
  accepted = tie home r l so;
  leaves = leaves_tied home r l;
  nods = nods_tied home r l;
  acted = tie_effect home r l;
  rejoins = λ a o g. tie_rejoin home r l so a o g;
  rejoined = λ a o g. rejoin_effect a o g (show r l);
  dayless = show_redated r l;
  unread = no_action home r l;
  sent = λ g u g16 u8 ne. tie_gift r l g g16 u u8 ∙ strict_gift l g ne u;
  gifted = λ g g16 ne. tie_gifts r l g g16 ∙ strict_gifts l g ne;
  balanced = λ g u g16 u8 ne. tie_balance r l g g16 u u8 ∙ (λ i. strict_raw l g ne u i -ℤ pos (strict_gift l g ne u i));
  invariant = tie_inv home r l so;
}

pub merge_tied : (r w : ℕ) (l m : Ledger) → MergeTied r w l m
merge_tied r w l m = record { accepted = tie_merge_answer r w l m; merged = tie_merge r w l m }

pub image_tied : (v : Version) (b : Bytes) → CheckedIn v b → ImageTied v b
image_tied v b ok = record {
  accepted = byte_tie b ok;
  leaves = byte_leaves b ok;
  acted = byte_effect b ok;
  refused = byte_refused b ok;
  homes = byte_homes b ok;
  invariant = byte_inv b ok;
}

pub images_tied : (v : Version) (b d : Bytes) → CheckedIn v b → CheckedIn v d → ImagesTied v b d
images_tied v b d okb okd = record {
  accepted = byte_merge_tie b d okb okd;
  merged = byte_merge b d okb okd;
  refused = byte_merge_refused b d okb okd;
  homes = byte_merge_homes b d okb okd;
  known = image_known b d okb okd;
}

-- Within the limits, shares of eight users fit a record.
shares_fit : (v : Version) (r : ℕ) (a : Action) (m : M.Replica) → Told8 v a → Limits r a m → SharesFit v a
unfolding Limits
shares_fit v r (found a g k) m n lim = n
shares_fit v r (add a o g) m n lim = tt
shares_fit v r (leave a g) m n lim = tt
shares_fit v r (enter a c s day) m n lim = (record { beyond = n.0; most = rw (sum_shares s) at lim.1 }, n.1)
shares_fit v r (put_in a g c) m n lim = tt
shares_fit v r (take_out a g c) m n lim = tt
shares_fit v r (change a c s day) m n lim = (record { beyond = n.0; most = rw (sum_shares s) at lim.0 }, n.1)
shares_fit v r (delete a c) m n lim = tt
shares_fit v r (acknowledge a c) m n lim = tt
shares_fit v r (absorb a o c) m n lim = tt

module _ (home : ℕ → ℕ) (made : ℕ → Version) (hm : Homes home) (h : List Call) (nm : Named h) where
  covered_so : (replicas' : M.Replicas) → M.Next home (fleet_now home made h) replicas' → Made home made h replicas'
  covered_so R' step = go (sorted home (version_now home made h) (λ r. day_named (version_now home made h r) 0) (λ r. names_zero (version_now home made h r)) (fleet_now home made h) R' step)
    where
      go : Sorted home (version_now home made h) (fleet_now home made h) R' → Made home made h R'
      go (action r a k fi na en e) = by_action r a k en e (λ lim c.
          let v = version_now home made h r in
          let t = has_record v a fi (shares_fit v r a (fleet_now home made h r) na lim) in
          let z = (fleet_tie home made hm h nm v r t.0 k).1 (refl, (a, t.2, (as_module home made hm h nm r a k fi c).1 (en, lim))) in
          (t.0, t.1, t.2, z, e ∙ sym (fleet_acted home made hm h nm v r t.0 a k t.2 z)))
      go (merging r f i j e) = by_merge r f i j e (λ p.
          let v = version_now home made h r in
          e ∙ sym (fleet_merged home made hm h nm v r f (length h) v i j (fleet_taken home made hm h nm r f (length h) i j p)))
      go (nothing e) = by_nothing e

  -- Safety of one call: the called replica's, while the others stay.
  only_one : (R' : M.Replicas) (r : ℕ) (new : M.Replica) → R' ≡ M.except (fleet_now home made h) r new → Safe (fleet_now home made h r) new → M.Safety (fleet_now home made h) R'
  only_one R' r new e s = subst (M.Safety (fleet_now home made h)) (sym e) (safe_all (fleet_now home made h) _ (λ w k. go w (same? w r)))
    where
      go : (w : ℕ) → Same w r → Safe (fleet_now home made h w) (M.except (fleet_now home made h) r new w)
      go w (same p q) = subst (λ b. Safe (fleet_now home made h w) (cond b new (fleet_now home made h w))) (sym q) (subst (λ v. Safe (fleet_now home made h v) new) (sym p) s)
      go w (other p q) = subst (λ b. Safe (fleet_now home made h w) (cond b new (fleet_now home made h w))) (sym q) (safe_same (fleet_now home made h w))

  unmoved : (c : Call) → fleet_then home made h c ≡ fleet_now home made h → M.Safety (fleet_now home made h) (fleet_then home made h c)
  unmoved c e = subst (M.Safety (fleet_now home made h)) (sym e) (safe_all (fleet_now home made h) _ (λ w k. safe_same (fleet_now home made h w)))

  safe_so : (c : Call) → Named (c ∷ []) → M.Safety (fleet_now home made h) (fleet_then home made h c)
  unfolding call_answer
  safe_so (act v r x) n = go (same? (act_answer_in v (image_now home made h r) x) 0)
    where
      go : Same (act_answer_in v (image_now home made h r) x) 0 → M.Safety (fleet_now home made h) (fleet_then home made h (act v r x))
      go (same e _) =
          let t = local_tie home made hm h nm v r x n.0 e in
          only_one _ r _ (fleet_acted home made hm h nm v r x t.0 n.0 t.1 e) (safe_effect home r (fleet_now home made h r) (ledger_now home made h r) t.0 t.2)
      go (other e _) = unmoved (act v r x) (fleet_refused home made hm h nm (act v r x) e)
  safe_so (merge v r f k w) n = go (same? (merge_images_answer_in v (image_now home made h r) (raised_in w (images home made h k f))) 0)
    where
      go : Same (merge_images_answer_in v (image_now home made h r) (raised_in w (images home made h k f))) 0 → M.Safety (fleet_now home made h) (fleet_then home made h (merge v r f k w))
      go (same e _) = only_one _ r _ (fleet_merged home made hm h nm v r f k w n.0 n.1 e) (safe_merge (fleet_now home made h r) (fleet home made h k f))
      go (other e _) = unmoved (merge v r f k w) (fleet_refused home made hm h nm (merge v r f k w) e)
  safe_so (raise v r d) n = unmoved (raise v r d) (fleet_raised home made hm h nm v r d n.0)

  pub history_tied : HistoryTied home made h
  history_tied = record {
    starts = fleet_started home made h;
    accepted = fleet_tie home made hm h nm;
    leaves = fleet_leaves home made hm h nm;
    acted = fleet_acted home made hm h nm;
    refused = fleet_refused home made hm h nm;
    raised = fleet_raised home made hm h nm;
    taken = fleet_taken home made hm h nm;
    merged = fleet_merged home made hm h nm;
    stepped = fleet_stepped home made hm h nm;
    crossed = fleet_crossed home made hm h nm;
    covered = covered_so;
    reached = fleet_reached home made hm h nm;
    free_group = free_group_lem home made hm h nm;
    free_expense = free_expense_lem home made hm h nm;
    invariant = fleet_inv home made hm h nm;
    safe = safe_so;
    past = images_past home made h;
  }

  pub stored_tied : StoredTied home made h
  stored_tied = record { sent = sent_so home made hm h nm; leaves = leaves_so home made hm h nm; accepted = accepted_so home made hm h nm; balanced = balanced_so home made hm h nm }
