-- The tie on bytes: an action on an image that passes the check, and a join of two such images.
-- It rests on the tie of ledgers, and on the rules' laws that a checked image holds a ledger and that a written image is read back.
use mathlib.Core.Path.{◌≡◌, refl, sym, ap, ap₂, ◌∙◌, subst}
use mathlib.Core.Bool.{true, cond}
use mathlib.Core.Option.{Option, none, some}
use mathlib.Core.Logic.{◌≢◌, ◌↔◌}
use Prim.Native.Nat.{ℕ, ◌<◌}
use native.Mathlib.Omega.{arith}
use lib.Dec.{eqb}
use Rattle.format.specs.Layout.{Version, user_count, replica_count, group_count, expense_count, use_rule}
use Rattle.format.specs.Bytes.{Bytes}
use Rattle.rules.specs.Tests.{every8}
use Rattle.rules.specs.Ledger.{Ledger}
use Rattle.rules.specs.Sound.{sound}
use Rattle.rules.specs.Action.{Action, leave}
use Rattle.rules.specs.Step.{ledger_after}
use Rattle.rules.specs.Refusal.{answer}
use Rattle.rules.specs.Merge.{merge_ledger, rules_agree, merge_answer}
use Rattle.images.specs.Image.{Homes, encode_in, decode_in, replica_of, home_of, CheckedIn}
use Rattle.images.specs.Record.{read_action_in}
use Rattle.images.specs.Calls.{act_answer_in, acted_in, acted_by_in, act_image_in, merge_images_answer_in, merged_image_in, merge_images_in}
use Rattle.rules.proofs.Basics.{Same, same?, same, other}
use Rattle.rules.proofs.Sound.{of_every8, eqb_other}
use Rattle.images.proofs.Round.{sound_decoded}
use Rattle.images.proofs.Encoded.{Holds, replica_is, home_is, decode_is}
use Rattle.images.proofs.Checked.{replica_below, homes_homed, decoded_holds, NarrowOption, read_narrow, act_holds, merge_passed, merged_holds}
use Rattle.splitless.specs.Module as M
use Rattle.splitless.specs.Shown.{show, shown_in, effect, Leaves, AsModule, Granted, here, Alike, SameDay}
use Rattle.splitless.proofs.Facts.{eqb_yes}
use Rattle.splitless.proofs.Accepted.{tie, no_action}
use Rattle.splitless.proofs.Leaving.{leaves_tied}
use Rattle.splitless.proofs.Effects.{tie_effect}
use Rattle.splitless.proofs.Merging.{tie_merge, tie_merge_answer}
use Rattle.splitless.proofs.Invariants.{tie_inv}
use Rattle.splitless.proofs.Fields.{read_fits}

-- A written image shows the ledger again.
pub written : {v : Version} (home : ℕ → ℕ) → Homes home → (r : ℕ) → r < replica_count → (l : Ledger) → Holds v home l → shown_in v (encode_in v home r l) ≡ show r l
unfolding shown_in
written home hm r r8 l h = ap₂ show (replica_is home hm r r8 l h) (decode_is home hm r r8 l h)

module _ {v : Version} (b : Bytes) (ok : CheckedIn v b) where
  pub act_here : (x : Bytes) → act_answer_in v b x ≡ answer (home_of b) (replica_of b) (read_action_in v x) (decode_in v b)
  unfolding act_answer_in
  act_here x = rw ok.passes

  byte_sound : sound (home_of b) (decode_in v b) ≡ true
  byte_sound = sound_decoded b ok

  pub byte_tie : (x : Bytes) → (act_answer_in v b x ≡ 0) ↔ ((a : Action) × (read_action_in v x ≡ some a) × Granted (home_of b) (replica_of b) (here (shown_in v b)) (decode_in v b) a)
  unfolding shown_in
  byte_tie x = (
    λ e. go (read_action_in v x) refl (sym (act_here x) ∙ e),
    λ t. act_here x ∙ ap (λ o. answer (home_of b) (replica_of b) o (decode_in v b)) t.1 ∙ (tie (home_of b) (replica_of b) (decode_in v b) byte_sound t.0).1 (read_fits v x t.0 t.1, t.2),
  )
    where
      go : (o : Option Action) → read_action_in v x ≡ o → answer (home_of b) (replica_of b) o (decode_in v b) ≡ 0
          → (a : Action) × (read_action_in v x ≡ some a) × Granted (home_of b) (replica_of b) (here (show (replica_of b) (decode_in v b))) (decode_in v b) a
      go none p e = absurd (let z : ◌≡◌ {A = ℕ} 6 0 = sym (no_action (home_of b) (replica_of b) (decode_in v b)) ∙ e in omega arith)
      go (some a) p e = let t = (tie (home_of b) (replica_of b) (decode_in v b) byte_sound a).0 e in (a, p, t.1)

  pub byte_leaves : (a g : ℕ) → a < user_count → g < group_count → (decode_in v b).rule g ≢ use_rule
      → Leaves (home_of b) (replica_of b) (decode_in v b) a g ↔ AsModule (home_of b) (replica_of b) (here (shown_in v b)) (leave a g)
  unfolding shown_in
  byte_leaves a g = leaves_tied (home_of b) (replica_of b) (decode_in v b) a g

  -- What an accepted action leaves, and that an image can hold it.
  image_left : (x : Bytes) (a : Action) → read_action_in v x ≡ some a → act_answer_in v b x ≡ 0 → act_image_in v b x ≡ encode_in v (home_of b) (replica_of b) (ledger_after a (decode_in v b))
  unfolding act_image_in acted_in
  image_left x a p e = ap (λ t. cond t (acted_by_in v b (read_action_in v x)) b) (eqb_yes (act_answer_in v b x) 0 e) ∙ ap (acted_by_in v b) p

  ledger_accepts : (x : Bytes) (a : Action) → read_action_in v x ≡ some a → act_answer_in v b x ≡ 0 → answer (home_of b) (replica_of b) (some a) (decode_in v b) ≡ 0
  ledger_accepts x a p e = sym (ap (λ o. answer (home_of b) (replica_of b) o (decode_in v b)) p) ∙ sym (act_here x) ∙ e

  left_holds : (x : Bytes) (a : Action) → read_action_in v x ≡ some a → act_answer_in v b x ≡ 0 → Holds v (home_of b) (ledger_after a (decode_in v b))
  left_holds x a p e = act_holds (home_of b) (replica_of b) a (decode_in v b) (subst (NarrowOption v) p (read_narrow v x)) (decoded_holds b ok) (ledger_accepts x a p e)

  pub byte_effect : (x : Bytes) (a : Action) → read_action_in v x ≡ some a → act_answer_in v b x ≡ 0 → shown_in v (act_image_in v b x) ≡ effect a (shown_in v b)
  byte_effect x a p e =
      ap (shown_in v) (image_left x a p e)
      ∙ written (home_of b) (homes_homed b ok) (replica_of b) (replica_below b ok) _ (left_holds x a p e)
      ∙ (unfold shown_in in (tie_effect (home_of b) (replica_of b) (decode_in v b) a (ledger_accepts x a p e)))

  pub byte_refused : (x : Bytes) → act_answer_in v b x ≢ 0 → act_image_in v b x ≡ b
  unfolding act_image_in
  byte_refused x e = ap (λ t. cond t (acted_by_in v b (read_action_in v x)) b) (eqb_other (act_answer_in v b x) 0 e)

  pub byte_homes : (x : Bytes) → home_of (act_image_in v b x) ≡ home_of b
  byte_homes x = go (same? (act_answer_in v b x) 0)
    where
      go : Same (act_answer_in v b x) 0 → home_of (act_image_in v b x) ≡ home_of b
      go (same e _) =
          let t = (byte_tie x).0 e in
          ap home_of (image_left x t.0 t.1 e) ∙ home_is (home_of b) (homes_homed b ok) (replica_of b) (replica_below b ok) _ (left_holds x t.0 t.1 e)
      go (other e _) = ap home_of (byte_refused x e)

  pub byte_inv : M.Inv (shown_in v b)
  unfolding shown_in
  byte_inv = tie_inv (home_of b) (replica_of b) (decode_in v b) byte_sound

-- The join of two images.
module _ {v : Version} (b d : Bytes) (okb : CheckedIn v b) (okd : CheckedIn v d) where
  merge_here : merge_images_answer_in v b d ≡ cond (every8 (λ u. eqb (home_of b u) (home_of d u))) (merge_answer (decode_in v b) (decode_in v d)) 30
  unfolding merge_images_answer_in
  merge_here = rw (okb.passes, okd.passes)

  pub byte_merge_tie : (merge_images_answer_in v b d ≡ 0)
      ↔ (((u : ℕ) → u < user_count → home_of b u ≡ home_of d u) × ((g : ℕ) → g < group_count → rules_agree ((decode_in v b).rule g) ((decode_in v d).rule g) ≡ true)
      × ((c : ℕ) → c < expense_count → Alike ((shown_in v b).recorded_expenses c) ((shown_in v d).recorded_expenses c) × SameDay ((decode_in v b).expense c) ((decode_in v d).expense c)))
  unfolding shown_in
  byte_merge_tie = (
    λ e. let z = merge_passed v b d e in let y = (tie_merge_answer (replica_of b) (replica_of d) (decode_in v b) (decode_in v d)).0 z.3 in (λ u k. ap (λ f. f u) z.2, y.0, y.1),
    λ h.
        let p : every8 (λ u. eqb (home_of b u) (home_of d u)) ≡ true = of_every8 _ (λ u k. eqb_yes (home_of b u) (home_of d u) (h.0 u k)) in
        merge_here ∙ ap (λ t. cond t (merge_answer (decode_in v b) (decode_in v d)) 30) p ∙ (tie_merge_answer (replica_of b) (replica_of d) (decode_in v b) (decode_in v d)).1 (h.1, h.2),
  )

  merged_left : merge_images_answer_in v b d ≡ 0 → merge_images_in v b d ≡ encode_in v (home_of b) (replica_of b) (merge_ledger (decode_in v b) (decode_in v d))
  unfolding merge_images_in merged_image_in
  merged_left e = ap (λ t. cond t (merged_image_in v b d) b) (eqb_yes (merge_images_answer_in v b d) 0 e)

  pub byte_merge : merge_images_answer_in v b d ≡ 0 → shown_in v (merge_images_in v b d) ≡ M.new_merge_replicas (shown_in v b) (shown_in v d)
  byte_merge e =
      ap (shown_in v) (merged_left e)
      ∙ written (home_of b) (homes_homed b okb) (replica_of b) (replica_below b okb) _ (merged_holds b d okb okd e)
      ∙ (unfold shown_in in (tie_merge (replica_of b) (replica_of d) (decode_in v b) (decode_in v d)))

  pub byte_merge_refused : merge_images_answer_in v b d ≢ 0 → merge_images_in v b d ≡ b
  unfolding merge_images_in
  byte_merge_refused e = ap (λ t. cond t (merged_image_in v b d) b) (eqb_other (merge_images_answer_in v b d) 0 e)

  pub byte_merge_homes : home_of (merge_images_in v b d) ≡ home_of b
  byte_merge_homes = go (same? (merge_images_answer_in v b d) 0)
    where
      go : Same (merge_images_answer_in v b d) 0 → home_of (merge_images_in v b d) ≡ home_of b
      go (same e _) = ap home_of (merged_left e) ∙ home_is (home_of b) (homes_homed b okb) (replica_of b) (replica_below b okb) _ (merged_holds b d okb okd e)
      go (other e _) = ap home_of (byte_merge_refused e)
