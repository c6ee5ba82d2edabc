-- The module's stored gifts over a history, and what is claimed of them: leaving with the stored gift is leaving with the gift of the moment.
-- Definitions only; proofs/Claims has the theorem. Of the module's conditions 162 alone reads a stored gift. Rests on Module (Gifts), on Shown and on a history of calls.
use Rattle.std.specs.Prelude.{◌≡◌, cond, ◌⊎◌, ◌≢◌, ◌↔◌, List, [], ◌∷◌, ℕ, suc, ◌<◌, eqb, length}
use Rattle.std.proofs.Math.Option.{Option, none, some}
use Rattle.format.specs.Layout.{Version, user_count, replica_count, group_count, last_counter, use_rule}
use Rattle.format.specs.Bytes.{Bytes}
use Rattle.rules.specs.Action.{Action, found, add, leave, enter, put_in, take_out, change, delete, acknowledge, absorb}
use Rattle.images.specs.Record.{read_action_in}
use Rattle.images.specs.Calls.{act_answer_in, merge_images_answer_in, raised_in}
use Rattle.history.specs.History.{Call, act, merge, raise, callee, after, images_next, start}
use Rattle.splitless.specs.Module as M
use Rattle.splitless.specs.Shown.{shown, effect, NothingWaits}
use Rattle.splitless.specs.Tied.{fleet, fleet_now, image_now, version_now, ledger_now}

-- What the groups of replica r store after the module's action, where `s` was stored before it; behind each kind the module's lines.
unfoldable pub stored_after : Action → M.Replica → M.Stored → M.Stored
stored_after (found a g k) r s = M.except s g M.no_gifts  -- 134, 135
stored_after (add a o g) r s = s  -- 150, 151 and 372, 373
stored_after (leave a g) r s = M.RecalcGifts (effect (leave a g) r)  -- 166
stored_after (enter a c e day) r s = s  -- 195
stored_after (put_in a g c) r s = s  -- 217
stored_after (take_out a g c) r s = M.RecalcGifts (effect (take_out a g c) r)  -- 236
stored_after (change a c e day) r s = M.if_grouped (M.expense r c).group (M.RecalcGifts (effect (change a c e day) r)) s  -- 262 to 265
stored_after (delete a c) r s = M.RecalcGifts (effect (delete a c) r)  -- 286
stored_after (acknowledge a c) r s = M.RecalcGifts (effect (acknowledge a c) r)  -- 307
stored_after (absorb a o c) r s = M.RecalcGifts (effect (absorb a o c) r)  -- 348

abbrev pub stored_acted : Option Action → M.Replica → M.Stored → M.Stored
stored_acted none r s = s
stored_acted (some a) r s = stored_after a r s

-- What call n leaves in store on its replica, where `stood m r` is the image of moment m on replica r and `kept m r` what its groups store: a refused call and a
-- raising leave it. A join of a replica with itself is no step of the module (429).
unfoldable pub call_stored : ℕ → (stood : ℕ → ℕ → Bytes) (kept : ℕ → ℕ → M.Stored) → Call → M.Stored
call_stored n stood kept (act v r x) = cond (eqb (act_answer_in v (stood n r) x) 0) (stored_acted (read_action_in v x) (shown (stood n r)) (kept n r)) (kept n r)
call_stored n stood kept (merge v r f k w) =
    cond (eqb (merge_images_answer_in v (stood n r) (raised_in w (stood k f))) 0) (cond (eqb r f) (kept n r) (M.gifts_merge_replicas (shown (stood n r)) (shown (stood k f)) (kept n r) (kept k f))) (kept n r)
call_stored n stood kept (raise v r d) = kept n r

unfoldable pub stored_from : ℕ → (stood : ℕ → ℕ → Bytes) (kept : ℕ → ℕ → M.Stored) → List Call → ℕ → ℕ → M.Stored
stored_from n stood kept [] = kept
stored_from n stood kept (c ∷ cs) = stored_from (suc n) (images_next n stood c) (after kept n (callee c) (call_stored n stood kept c)) cs

-- What the groups of a replica store at a moment of a history. At the start there are no groups (51).
unfoldable pub stored : (home : ℕ → ℕ) (made : ℕ → Version) → List Call → (moment replica : ℕ) → M.Stored
stored home made h = stored_from 0 (start home made) (λ m r g. M.no_gifts) h

abbrev pub stored_now : (home : ℕ → ℕ) (made : ℕ → Version) → List Call → (replica : ℕ) → M.Stored
stored_now home made h = stored home made h (length h)

-- Every history h over one home table.
pub record StoredTied (home : ℕ → ℕ) (made : ℕ → Version) (h : List Call) : Type 0 where
  -- A gift in store is the one worked out afresh; or it is a member's, who rejoined, and is still the raw balance that was given.
  pub sent : (m r g u : ℕ) → r < replica_count → g < group_count → u < user_count → (fleet home made h m r).groups g ≢ M.NO_GROUP
      → ((stored home made h m r g).individual_gifts_sent u ≡ M.individual_gifts_sent (fleet home made h m r) g u)
      ⊎ (M.IsMember ((M.group (fleet home made h m r) g).members u) × ((stored home made h m r g).individual_gifts_sent u ≡ M.amount_of (M.paid_less_shares g (fleet home made h m r).recorded_expenses u)))
  -- So with the stored gift the module enables leaving just where it does with the gift of the moment; and in a group of rule 1 kind 3 is accepted just there, within
  -- 34 and 14.
  pub leaves : (r a g : ℕ) → r < replica_count → a < user_count → g < group_count
      → M.LeaveGroupStored home r (fleet_now home made h) (stored_now home made h r) a g ↔ M.LeaveGroup home r (fleet_now home made h) a g
  pub accepted : (r : ℕ) (x : Bytes) (a g : ℕ) → r < replica_count → read_action_in (version_now home made h r) x ≡ some (leave a g) → (ledger_now home made h r).rule g ≢ use_rule
      → (act_answer_in (version_now home made h r) (image_now home made h r) x ≡ 0) ↔ (M.LeaveGroupStored home r (fleet_now home made h) (stored_now home made h r) a g × NothingWaits (fleet_now home made h r) g a × ((M.group (fleet_now home made h r) g).members a ≢ last_counter))
  -- And the module's invariant 500 holds of what is stored.
  pub balanced : (m r : ℕ) → r < replica_count → M.GroupBalanceZeroStored (fleet home made h m r) (stored home made h m r)
