-- Each call of a history is a step of the module's Next, but for a leaving from a group of rule 2 and a join with an earlier moment; so a history without these is a
-- behaviour of Spec.
use mathlib.Core.Path.{◌≡◌, sym, ap, ◌∙◌, subst, fun_ext}
use mathlib.Core.List.{List, [], ◌∷◌, ◌++◌, append-nil}
use Prim.Native.Nat.{ℕ, suc, ◌<◌}
use native.Mathlib.Omega.{arith}
use lib.ListN.{length, length-append}
use Rattle.format.specs.Layout.{Version, replica_count}
use Rattle.format.specs.Bytes.{Bytes}
use Rattle.images.specs.Calls.{act_answer_in, merge_images_answer_in, raised_in}
use Rattle.history.specs.History.{Call, act, merge, raise, call_answer}
use Rattle.images.specs.Image.{Homes}
use Rattle.history.specs.Demand.{Named}
use Rattle.rules.proofs.Basics.{Same, same?, same, other}
use Rattle.splitless.specs.Module as M
use Rattle.splitless.specs.Shown.{shown}
use Rattle.splitless.specs.Tied.{fleet, fleet_now, fleet_then, image_now, Prompt, ComparedCall, AllCompared}
use Rattle.splitless.proofs.Fields.{read_fits}
use Rattle.splitless.proofs.Stepping.{next_of}
use Rattle.splitless.proofs.Growing.{append_one}
use Rattle.splitless.proofs.Comparing.{as_module}
use Rattle.splitless.proofs.Fleet.{images_past, fleet_starts, fleet_tie, fleet_acted, fleet_refused, fleet_raised, fleet_merged, fleet_self}

module _ (home : ℕ → ℕ) (made : ℕ → Version) (hm : Homes home) (h : List Call) (nm : Named h) where
  pub fleet_stepped : (v : Version) (r : ℕ) (x : Bytes) → r < replica_count → ComparedCall home made h (act v r x) → M.Next home (fleet_now home made h) (fleet_then home made h (act v r x))
  unfolding call_answer
  fleet_stepped v r x k c = go (same? (act_answer_in v (image_now home made h r) x) 0)
    where
      go : Same (act_answer_in v (image_now home made h r) x) 0 → M.Next home (fleet_now home made h) (fleet_then home made h (act v r x))
      go (same e _) =
          let t = ((fleet_tie home made hm h nm v r x k).0 e).1 in
          let f = read_fits v x t.0 t.1 in
          next_of home r (fleet_now home made h) _ t.0 k f ((as_module home made hm h nm r t.0 k f (c t.0 t.1)).0 t.2).0 (fleet_acted home made hm h nm v r x t.0 k t.1 e)
      go (other e _) = M.unchanged (fleet_refused home made hm h nm (act v r x) e)

  pub fleet_crossed : (v : Version) (r f : ℕ) (w : Version) → r < replica_count → f < replica_count → M.Next home (fleet_now home made h) (fleet_then home made h (merge v r f (length h) w))
  unfolding call_answer
  fleet_crossed v r f w i j = go (same? (merge_images_answer_in v (image_now home made h r) (raised_in w (image_now home made h f))) 0) (same? r f)
    where
      go : Same (merge_images_answer_in v (image_now home made h r) (raised_in w (image_now home made h f))) 0 → Same r f → M.Next home (fleet_now home made h) (fleet_then home made h (merge v r f (length h) w))
      go (other e _) _ = M.unchanged (fleet_refused home made hm h nm (merge v r f (length h) w) e)
      go (same e _) (same p _) =
          M.unchanged (fleet_merged home made hm h nm v r f (length h) w i j e ∙ ap (λ x. M.except (fleet_now home made h) r (M.new_merge_replicas (fleet_now home made h r) (fleet_now home made h x))) (sym p) ∙ fleet_self home made hm h nm r i)
      go (same e _) (other p _) = M.merge_replicas r f i j p (fleet_merged home made hm h nm v r f (length h) w i j e)

pub fleet_started : (home : ℕ → ℕ) (made : ℕ → Version) (h : List Call) → fleet home made h 0 ≡ M.Init
unfolding fleet
fleet_started home made h = fun_ext (λ w. ap (λ b. shown b) (images_past home made [] h 0 w (omega arith))) ∙ (unfold fleet in (fleet_starts home made))

named_append : (h t : List Call) → Named h → Named t → Named (h ++ t)
named_append [] t a b = b
named_append (act v r x ∷ h) t a b = (a.0, named_append h t a.1 b)
named_append (merge v r f k w ∷ h) t a b = (a.0, a.1, named_append h t a.2 b)
named_append (raise v r d ∷ h) t a b = (a.0, named_append h t a.1 b)

longer : (h : List Call) (c : Call) → length (h ++ (c ∷ [])) ≡ suc (length h)
longer h c = length-append h (c ∷ []) ∙ omega arith

module _ (home : ℕ → ℕ) (made : ℕ → Version) (hm : Homes home) where
  -- One call more is one step further.
  one_more : (h : List Call) (c : Call) → M.Reached home (fleet_now home made h) → M.Next home (fleet_now home made h) (fleet_then home made h c) → M.Reached home (fleet_now home made (h ++ (c ∷ [])))
  one_more h c s n = subst (λ k. M.Reached home (fleet home made (h ++ (c ∷ [])) k)) (sym (longer h c)) (M.further s n)

  -- What is left of the calls, once one more is made.
  go_on : (t h : List Call) (c : Call) → ((g : List Call) → Named g → Named t → Prompt (length g) t → AllCompared home made g t → M.Reached home (fleet_now home made g) → M.Reached home (fleet_now home made (g ++ t)))
      → Named h → Named (c ∷ []) → Named t → Prompt (suc (length h)) t → AllCompared home made (h ++ (c ∷ [])) t → M.Reached home (fleet_now home made h) → M.Next home (fleet_now home made h) (fleet_then home made h c)
      → M.Reached home (fleet_now home made (h ++ (c ∷ t)))
  go_on t h c rest nh nc nt pr ac s n =
      subst (λ l. M.Reached home (fleet_now home made l)) (append_one h t c)
      (rest (h ++ (c ∷ [])) (named_append h (c ∷ []) nh nc) nt (subst (λ k. Prompt k t) (sym (longer h c)) pr) ac (one_more h c s n))

  reach : (t h : List Call) → Named h → Named t → Prompt (length h) t → AllCompared home made h t → M.Reached home (fleet_now home made h) → M.Reached home (fleet_now home made (h ++ t))
  reach [] h nh nt pr ac s = subst (λ l. M.Reached home (fleet_now home made l)) (sym (append-nil h)) s
  reach (act v r x ∷ t) h nh nt pr ac s = go_on t h (act v r x) (λ g. reach t g) nh (nt.0, tt) nt.1 pr ac.1 s (fleet_stepped home made hm h nh v r x nt.0 ac.0)
  reach (merge v r f k w ∷ t) h nh nt pr ac s =
      let now : M.Next home (fleet_now home made h) (fleet_then home made h (merge v r f k w)) =
      subst (λ n. M.Next home (fleet_now home made h) (fleet_then home made h (merge v r f n w))) (sym pr.0) (fleet_crossed home made hm h nh v r f w nt.0 nt.1) in
      go_on t h (merge v r f k w) (λ g. reach t g) nh (nt.0, nt.1, tt) nt.2 pr.1 ac.1 s now
  reach (raise v r d ∷ t) h nh nt pr ac s = go_on t h (raise v r d) (λ g. reach t g) nh (nt.0, tt) nt.1 pr ac.1 s (M.unchanged (fleet_raised home made hm h nh v r d nt.0))

  pub fleet_reached : (h : List Call) → Named h → Prompt 0 h → AllCompared home made [] h → M.Reached home (fleet_now home made h)
  fleet_reached h nm pr ac = reach h [] tt nm pr ac (subst (M.Reached home) (sym (fleet_started home made [])) M.initial)
