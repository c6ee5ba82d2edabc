-- What is claimed: the product's rules and the SplitLess module agree. Definitions only; proofs/Claims has a theorem for each record.
-- Rests on the rules (answers, steps), on the calls on bytes (images), on a history of calls (history) and on Module and Shown.
use Rattle.std.specs.Prelude.{◌≡◌, true, false, ◌≢◌, ◌↔◌, List, [], ◌∷◌, ◌++◌, ℕ, suc, ◌/◌, ◌≤◌, ◌<◌, pos, ◌-ℤ◌, length}
use Rattle.std.proofs.Math.Option.{none, some}
use Rattle.format.specs.Layout.{Version, user_count, replica_count, group_count, groups_each, expense_count, expenses_each, use_rule}
use Rattle.format.specs.Bytes.{Bytes, Octets}
use Rattle.rules.specs.Ledger.{Ledger, absent, at}
use Rattle.rules.specs.Balance.{raw, gift, gifts}
use Rattle.rules.specs.Action.{Action, add, leave, fields_fit}
use Rattle.rules.specs.Step.{ledger_after}
use Rattle.rules.specs.Refusal.{answer}
use Rattle.rules.specs.Merge.{merge_ledger, rules_agree, merge_answer}
use Rattle.images.specs.Image.{decode_in, home_of, replica_of}
use Rattle.images.specs.Record.{read_action_in}
use Rattle.images.specs.Calls.{act_answer_in, act_image_in, merge_images_answer_in, merge_images_in, raised_in}
use Rattle.history.specs.History.{Call, act, merge, raise, call_answer, images, versions}
use Rattle.history.specs.Demand.{Named, Taken}
use Rattle.splitless.specs.Module as M
use Rattle.splitless.specs.Shown.{show, shown_in, shown, Enabled, effect, Limits, Leaves, nodded, redated, AsModule, Granted, Compared, here, Alike, SameDay}

-- User u has yet to acknowledge a share of an expense that is in group g.
abbrev pub Unacknowledged : Ledger → (g u : ℕ) → Type 0
Unacknowledged l g u = (c : ℕ) × (c < expense_count) × (absent l c ≡ false) × ((at l c).group ≡ g) × (0 < (at l c).shares u) × ((at l c).acknowledged u ≡ false)

-- A sound ledger l on replica r, however it came about.
pub record LedgerTied (home : ℕ → ℕ) (r : ℕ) (l : Ledger) : Type 0 where
  -- An action is accepted in just those cases where its fields are in range, the module enables it, and the papers' limits and owned numbers allow it; leaving
  -- where raw by the group's rule is not below zero, nothing is pending by that rule, and the limits allow it.
  pub accepted : (a : Action) → (answer home r (some a) l ≡ 0) ↔ ((fields_fit a ≡ true) × Granted home r (here (show r l)) l a)
  -- "The module remains the comparison for crews of rule 1": there that is the module's leaving, within 34 and 14.
  pub leaves : (a g : ℕ) → a < user_count → g < group_count → l.rule g ≢ use_rule → Leaves home r l a g ↔ AsModule home r (here (show r l)) (leave a g)
  -- And whatever the group's rule, it is the module's leaving from a replica on which all shares are acknowledged that count so.
  pub nods : (a g : ℕ) → a < user_count → g < group_count → Leaves home r l a g ↔ AsModule home r (here (show r (nodded l))) (leave a g)
  -- The ledger then shows exactly the module's effect.
  pub acted : (a : Action) → answer home r (some a) l ≡ 0 → show r (ledger_after a l) ≡ effect a (show r l)
  -- "The module's rejoin step has the same effect and is covered by this", kind 2: the module enables it just where kind 2 is accepted and the other, once a
  -- member, has yet to acknowledge a share in the group; and its effect is kind 2's.
  pub rejoins : (a o g : ℕ) → a < user_count → o < user_count → g < group_count
      → M.RejoinToAcknowledge home r (here (show r l)) a o g ↔ ((answer home r (some (add a o g)) l ≡ 0) × (0 < l.counter g o) × Unacknowledged l g o)
  pub rejoined : (a o g : ℕ) → M.new_rejoin_to_acknowledge o g (show r l) ≡ effect (add a o g) (show r l)
  -- The module has no days: with whatever other ones the ledger shows the same.
  pub dayless : (days : ℕ → ℕ) → show r (redated days l) ≡ show r l
  -- What gives no action is no step.
  pub unread : answer home r none l ≡ 6
  -- The gifts that the module would store, worked out afresh, and its balance: document 01's without the part, in a group of rule 1.
  pub sent : (g u : ℕ) → g < group_count → u < user_count → l.rule g ≢ use_rule → M.individual_gifts_sent (show r l) g u ≡ gift l g u
  pub gifted : (g : ℕ) → g < group_count → l.rule g ≢ use_rule → M.total_gifted (show r l) g ≡ gifts l g
  pub balanced : (g u : ℕ) → g < group_count → u < user_count → l.rule g ≢ use_rule → M.Balance u g (show r l) ≡ raw l g u -ℤ pos (gift l g u)
  -- The module's invariants hold, whatever the rules.
  pub invariant : M.Inv (show r l)

-- A join of ledger m, which stood on replica w, into ledger l of replica r.
pub record MergeTied (r w : ℕ) (l m : Ledger) : Type 0 where
  -- The module merges without a condition; document 01 asks for expenses that are alike (31), document 02 for one rule of a group and one day of an expense (31).
  pub accepted : (merge_answer l m ≡ 0)
      ↔ (((g : ℕ) → g < group_count → rules_agree (l.rule g) (m.rule g) ≡ true)
      × ((c : ℕ) → c < expense_count → Alike ((show r l).recorded_expenses c) ((show w m).recorded_expenses c) × SameDay (l.expense c) (m.expense c)))
  -- The ledger then shows exactly the module's merge.
  pub merged : show r (merge_ledger l m) ≡ M.new_merge_replicas (show r l) (show w m)

-- A checked image b of a version, and any bytes x for an action's record.
pub record ImageTied (v : Version) (b : Bytes) : Type 0 where
  pub accepted : (x : Bytes) → (act_answer_in v b x ≡ 0) ↔ ((a : Action) × (read_action_in v x ≡ some a) × Granted (home_of b) (replica_of b) (here (shown_in v b)) (decode_in v b) a)
  pub leaves : (a g : ℕ) → a < user_count → g < group_count → (decode_in v b).rule g ≢ use_rule
      → Leaves (home_of b) (replica_of b) (decode_in v b) a g ↔ AsModule (home_of b) (replica_of b) (here (shown_in v b)) (leave a g)
  pub acted : (x : Bytes) (a : Action) → read_action_in v x ≡ some a → act_answer_in v b x ≡ 0 → shown_in v (act_image_in v b x) ≡ effect a (shown_in v b)
  pub refused : (x : Bytes) → act_answer_in v b x ≢ 0 → act_image_in v b x ≡ b
  -- The home table, which the module has as a constant, stays.
  pub homes : (x : Bytes) → home_of (act_image_in v b x) ≡ home_of b
  pub invariant : M.Inv (shown_in v b)

-- Two checked images of a version, the second joined into the first.
pub record ImagesTied (v : Version) (b d : Bytes) : Type 0 where
  pub accepted : (merge_images_answer_in v b d ≡ 0)
      ↔ (((u : ℕ) → u < user_count → home_of b u ≡ home_of d u) × ((g : ℕ) → g < group_count → rules_agree ((decode_in v b).rule g) ((decode_in v d).rule g) ≡ true)
      × ((c : ℕ) → c < expense_count → Alike ((shown_in v b).recorded_expenses c) ((shown_in v d).recorded_expenses c) × SameDay ((decode_in v b).expense c) ((decode_in v d).expense c)))
  pub merged : merge_images_answer_in v b d ≡ 0 → shown_in v (merge_images_in v b d) ≡ M.new_merge_replicas (shown_in v b) (shown_in v d)
  pub refused : merge_images_answer_in v b d ≢ 0 → merge_images_in v b d ≡ b
  pub homes : home_of (merge_images_in v b d) ≡ home_of b
  -- An image is known by its home table, its groups' rules, its expenses' days and what it shows: to show the module's effect leaves no byte free.
  pub known : home_of b ≡ home_of d → ((g : ℕ) → (decode_in v b).rule g ≡ (decode_in v d).rule g) → ((c : ℕ) → SameDay ((decode_in v b).expense c) ((decode_in v d).expense c))
      → shown_in v b ≡ shown_in v d → b ≡ d

module _ (home : ℕ → ℕ) (made : ℕ → Version) where
  -- The module's variable `replicas` at a moment of a history: "compared after raising".
  unfoldable pub fleet : List Call → (moment : ℕ) → M.Replicas
  fleet h m w = shown (images home made h m w)

  -- The fleet now, after all calls of h; and after one call more.
  abbrev pub fleet_now : List Call → M.Replicas
  fleet_now h = fleet h (length h)

  abbrev pub fleet_then : List Call → Call → M.Replicas
  fleet_then h c = fleet (h ++ (c ∷ [])) (suc (length h))

  -- The image on replica r now, and its version.
  abbrev pub image_now : List Call → ℕ → Bytes
  image_now h r = images home made h (length h) r

  abbrev pub version_now : List Call → ℕ → Version
  version_now h r = versions home made h (length h) r

  -- What it holds.
  abbrev pub ledger_now : List Call → ℕ → Ledger
  ledger_now h r = decode_in (version_now h r) (image_now h r)

  -- What stood at moment k on replica f can be handed to replica r now: raised to the version there, it is of that version. (41 otherwise: it is newer.)
  abbrev pub Handed : List Call → (r f k : ℕ) → Type 0
  Handed h r f k = Taken (version_now h r) home made h k f

-- Each join hands over what stands on the other replica now, as the module's merge does; n calls went before.
abbrev pub Prompt : ℕ → List Call → Type 0
Prompt n [] = Unit {0}
Prompt n (act v r x ∷ h) = Prompt (suc n) h
Prompt n (merge v r f k w ∷ h) = (k ≡ n) × Prompt (suc n) h
Prompt n (raise v r d ∷ h) = Prompt (suc n) h

-- A call after h is none that leaves a group of rule 2; nor is any of a list of calls.
abbrev pub ComparedCall : (home : ℕ → ℕ) (made : ℕ → Version) → List Call → Call → Type 0
ComparedCall home made h (act v r x) = (a : Action) → read_action_in v x ≡ some a → Compared (ledger_now home made h r) a
ComparedCall home made h (merge v r f k w) = Unit {0}
ComparedCall home made h (raise v r d) = Unit {0}

abbrev pub AllCompared : (home : ℕ → ℕ) (made : ℕ → Version) → List Call → List Call → Type 0
AllCompared home made h [] = Unit {0}
AllCompared home made h (c ∷ t) = ComparedCall home made h c × AllCompared home made (h ++ (c ∷ [])) t

-- A step of the module from the fleet now, to replicas', and the call that makes it.
pub data Made (home : ℕ → ℕ) (made : ℕ → Version) (h : List Call) (replicas' : M.Replicas) : Type 0 where
  -- It is the effect of a kind; and unless a limit stops that, or it leaves a group of rule 2, there is a record of bytes that is read as it, is accepted, and leads
  -- there.
  by_action : (r : ℕ) (a : Action) → r < replica_count → Enabled home r (fleet_now home made h) a → replicas' ≡ M.except (fleet_now home made h) r (effect a (fleet_now home made h r))
      → (Limits r a (fleet_now home made h r) → Compared (ledger_now home made h r) a
      → (x : Bytes) × Octets x × (read_action_in (version_now home made h r) x ≡ some a) × (act_answer_in (version_now home made h r) (image_now home made h r) x ≡ 0)
      × (replicas' ≡ fleet_then home made h (act (version_now home made h r) r x)))
      → Made home made h replicas'
  -- It is a merge; and unless the other image is newer, there is a join that leads there.
  by_merge : (r f : ℕ) → r < replica_count → f < replica_count → replicas' ≡ M.except (fleet_now home made h) r (M.new_merge_replicas (fleet_now home made h r) (fleet_now home made h f))
      → (Handed home made h r f (length h) → replicas' ≡ fleet_then home made h (merge (version_now home made h r) r f (length h) (version_now home made h r)))
      → Made home made h replicas'
  by_nothing : replicas' ≡ fleet_now home made h → Made home made h replicas'

-- Every history h over one home table, and any call after it.
pub record HistoryTied (home : ℕ → ℕ) (made : ℕ → Version) (h : List Call) : Type 0 where
  -- A history starts as the module does.
  pub starts : fleet home made h 0 ≡ M.Init
  -- An action is accepted in just those cases where the library is of the image's version, and the module, looking at ALL replicas (130, 184), enables it, within
  -- the papers' limits; leaving as the rules say, which in a group of rule 1 is as the module says.
  pub accepted : (v : Version) (r : ℕ) (x : Bytes) → r < replica_count
      → (act_answer_in v (image_now home made h r) x ≡ 0)
      ↔ ((v ≡ version_now home made h r) × ((a : Action) × (read_action_in v x ≡ some a) × Granted home r (fleet_now home made h) (ledger_now home made h r) a))
  pub leaves : (r a g : ℕ) → r < replica_count → a < user_count → g < group_count → (ledger_now home made h r).rule g ≢ use_rule
      → Leaves home r (ledger_now home made h r) a g ↔ AsModule home r (fleet_now home made h) (leave a g)
  -- The replicas then are those of the module's step.
  pub acted : (v : Version) (r : ℕ) (x : Bytes) (a : Action) → r < replica_count → read_action_in v x ≡ some a → act_answer_in v (image_now home made h r) x ≡ 0
      → fleet_then home made h (act v r x) ≡ M.except (fleet_now home made h) r (effect a (fleet_now home made h r))
  -- A refused call, whichever it is, leaves them; and so does a raising.
  pub refused : (c : Call) → call_answer (length h) (images home made h) c ≢ 0 → fleet_then home made h c ≡ fleet_now home made h
  pub raised : (v : Version) (r : ℕ) (d : Bytes) → r < replica_count → fleet_then home made h (raise v r d) ≡ fleet_now home made h
  -- A join with an image that isn't newer is never refused, and is the module's merge: with a replica of now as in the module, or with what stood there at any earlier
  -- moment.
  pub taken : (r f k : ℕ) → r < replica_count → f < replica_count → Handed home made h r f k
      → merge_images_answer_in (version_now home made h r) (image_now home made h r) (raised_in (version_now home made h r) (images home made h k f)) ≡ 0
  pub merged : (v : Version) (r f k : ℕ) (w : Version) → r < replica_count → f < replica_count
      → merge_images_answer_in v (image_now home made h r) (raised_in w (images home made h k f)) ≡ 0
      → fleet_then home made h (merge v r f k w) ≡ M.except (fleet_now home made h) r (M.new_merge_replicas (fleet_now home made h r) (fleet home made h k f))
  -- Each call but a leaving from a group of rule 2 and a join with an earlier moment is a step of the module's Next.
  pub stepped : (v : Version) (r : ℕ) (x : Bytes) → r < replica_count → ComparedCall home made h (act v r x) → M.Next home (fleet_now home made h) (fleet_then home made h (act v r x))
  pub crossed : (v : Version) (r f : ℕ) (w : Version) → r < replica_count → f < replica_count → M.Next home (fleet_now home made h) (fleet_then home made h (merge v r f (length h) w))
  -- And each step of Next, from here to any replicas', is made by a call, the rejoin by kind 2, unless one of the papers' limits stops it (leaving with a share that
  -- waits: 34), or a version, or it leaves a group of rule 2.
  pub covered : (replicas' : M.Replicas) → M.Next home (fleet_now home made h) replicas' → Made home made h replicas'
  -- So a history whose joins hand over the image of now, and in which nobody leaves a group of rule 2, is a behaviour of the module's Spec.
  pub reached : Prompt 0 h → AllCompared home made [] h → M.Reached home (fleet_now home made h)
  -- "Owned numbers stand in": a number absent on its own replica now is absent on every replica at every moment.
  pub free_group : (g : ℕ) → g < group_count → (fleet_now home made h (g / groups_each)).groups g ≡ M.NO_GROUP
      → (m w : ℕ) → w < replica_count → (fleet home made h m w).groups g ≡ M.NO_GROUP
  pub free_expense : (c : ℕ) → c < expense_count → (fleet_now home made h (c / expenses_each)).recorded_expenses c ≡ M.NO_EXPENSE
      → (m w : ℕ) → w < replica_count → (fleet home made h m w).recorded_expenses c ≡ M.NO_EXPENSE
  -- The module's invariants hold at every moment, and its three safety properties over every call, a join with an earlier moment too.
  pub invariant : (m r : ℕ) → r < replica_count → M.Inv (fleet home made h m r)
  pub safe : (c : Call) → Named (c ∷ []) → M.Safety (fleet_now home made h) (fleet_then home made h c)
  -- Later calls don't change what stood: so all this is said of each call of each history.
  pub past : (t : List Call) (m w : ℕ) → m ≤ length h → images home made (h ++ t) m w ≡ images home made h m w
