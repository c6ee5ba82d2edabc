-- The module's replicas over a history of images. The images that stood hold ledgers (history, Transfer), and they change one call at a time;
-- within document 01's limits the module's test of all replicas is the test of the acting one (Owned).
use mathlib.Core.Path.{◌≡◌, refl, sym, ap, ap₂, ◌∙◌, subst, fun_ext}
use mathlib.Core.Bool.{true, cond}
use mathlib.Core.Option.{none, some}
use mathlib.Core.Logic.{◌≢◌, ◌↔◌}
use mathlib.Core.List.{List, [], ◌∷◌, ◌++◌}
use Prim.Native.Nat.{ℕ, suc, ◌+◌, ◌/◌, ◌≤◌, ◌<◌}
use native.Mathlib.Omega.{arith}
use native.Mathlib.Nat.{add-zero, add-suc, suc-add}
use lib.Dec.{eqb}
use lib.ListN.{length}
use Rattle.format.specs.Layout.{Version, current, image_size_in, replica_count, group_count, expense_count, groups_each, expenses_each}
use Rattle.format.specs.Bytes.{Bytes, Octets}
use Rattle.rules.specs.Ledger.{Ledger, empty, group_absent, absent}
use Rattle.rules.specs.Action.{Action, found, add, leave, enter, put_in, take_out, change, delete, acknowledge, absorb, fields_fit}
use Rattle.images.specs.Image.{Homes, encode_in, decode_in, replica_of, home_of, image_check_in, CheckedIn}
use Rattle.images.specs.Record.{read_action_in}
use Rattle.images.specs.Calls.{act_answer_in, act_image_in, merge_images_answer_in, merge_images_in, older_by, raised_from, raised_in, raise_answer_in}
use Rattle.history.specs.History.{Call, callee, after, call_answer, call_image, images_next, images_from, start, images, versions, act, merge, raise}
use Rattle.history.specs.Demand.{Named}
use Rattle.history.proofs.Run.{run}
use Rattle.history.proofs.Steps.{after_old}
use Rattle.history.proofs.Transfer.{shows, images_are, left, in_buffer}
use Rattle.history.proofs.Demand.{demand}
use Rattle.rules.proofs.Basics.{Same, eqb_self, same?, same, other}
use Rattle.rules.proofs.Accepted.{test, ltb_lt}
use Rattle.images.proofs.Range.{empty_encodable}
use Rattle.images.proofs.Encoding.{decode_encode, encode_length}
use Rattle.images.proofs.Round.{long}
use Rattle.images.proofs.Checked.{or_else_zero, act_checked, merge_checked, merge_passed}
use Rattle.images.proofs.Raise.{later_current, later_self, Older, older, newer, older?, raised_is, raised_checked, raised_ledger, raised_replica}
use Rattle.format.proofs.Laws.{same_size}
use Rattle.images.proofs.Encoded.{replica_is, home_is}
use Rattle.splitless.specs.Module as M
use Rattle.splitless.specs.Shown.{shown_group, show, shown_in, shown, Enabled, effect, Limits, Granted, here}
use Rattle.splitless.specs.Tied.{fleet, fleet_now, fleet_then, image_now, version_now, ledger_now, Handed}
use Rattle.splitless.proofs.Showing.{group_none, none_group, expense_none, none_expense}
use Rattle.splitless.proofs.Merging.{zero_absent}
use Rattle.splitless.proofs.Fields.{read_fits}
use Rattle.splitless.proofs.Images.{written, byte_tie, byte_effect, byte_inv, byte_merge}
use Rattle.splitless.proofs.Owned.{group_unused, expense_unused}
use Rattle.splitless.proofs.Stepping.{merge_self}

-- One call more, and what later calls keep.
images_append : (h t : List Call) (n : ℕ) (stood : ℕ → ℕ → Bytes) → images_from n stood (h ++ t) ≡ images_from (n + length h) (images_from n stood h) t
unfolding images_from
images_append [] t n stood = rw add-zero
images_append (c ∷ h) t n stood = rw (add-suc n (length h), ← suc-add n (length h)) (images_append h t (suc n) (images_next n stood c))

later_keeps : (t : List Call) (n : ℕ) (stood : ℕ → ℕ → Bytes) (m w : ℕ) → m ≤ n → images_from n stood t m w ≡ stood m w
unfolding images_from images_next
later_keeps [] n stood m w k = refl
later_keeps (c ∷ t) n stood m w k = later_keeps t (suc n) (images_next n stood c) m w (omega arith) ∙ after_old stood n (callee c) (call_image n stood c) m w k

-- What a checked image shows is what it shows in its own version, however often it is raised.
pub raised_shown : {v : Version} (b : Bytes) → CheckedIn v b → shown b ≡ shown_in v b
unfolding shown shown_in
raised_shown {v} b ok = ap₂ show (raised_replica b ok current) (sym (ap (λ w. decode_in w (raised_in current b)) (later_current v)) ∙ raised_ledger b ok current)

raised_twice : {v : Version} (b : Bytes) → CheckedIn v b → (w : Version) → shown (raised_in w b) ≡ shown b
unfolding shown_in
raised_twice {v} b ok w = raised_shown (raised_in w b) (raised_checked b ok w) ∙ ap₂ show (raised_replica b ok w) (raised_ledger b ok w) ∙ sym (raised_shown b ok)

-- A call is accepted on a checked image only.
act_checks : (v : Version) (b x : Bytes) → Octets b → act_answer_in v b x ≡ 0 → CheckedIn v b
unfolding act_answer_in
act_checks v b x o e = record { octets = o; passes = (or_else_zero (image_check_in v b) _ e).0 }

pub images_past : (home : ℕ → ℕ) (made : ℕ → Version) (h t : List Call) (m w : ℕ) → m ≤ length h → images home made (h ++ t) m w ≡ images home made h m w
unfolding images
images_past home made h t m w k = ap (λ f. f m w) (images_append h t 0 (start home made)) ∙ later_keeps t (0 + length h) (images_from 0 (start home made) h) m w (omega arith)

images_more : (home : ℕ → ℕ) (made : ℕ → Version) (h : List Call) (c : Call) (w : ℕ)
    → images home made (h ++ (c ∷ [])) (suc (length h)) w ≡ cond (eqb w (callee c)) (call_image (length h) (images home made h) c) (images home made h (length h) w)
unfolding images images_from images_next after
images_more home made h c w = ap (λ f. f (suc (length h)) w) (images_append h (c ∷ []) 0 (start home made)) ∙ (let z : 0 + length h ≡ length h = omega arith in rw (z, eqb_self (suc (length h))))

-- The start.
empty_back : (v : Version) (home : ℕ → ℕ) (w : ℕ) → decode_in v (encode_in v home w empty) ≡ empty
empty_back v home w = decode_encode v home w empty (empty_encodable v) (λ c k. tt)

replica_back : (v : Version) (home : ℕ → ℕ) (w : ℕ) → replica_of (encode_in v home w empty) ≡ w
unfolding replica_of encode_in
replica_back v home w = refl

empty_shown : (home : ℕ → ℕ) (w : ℕ) → shown_in current (encode_in current home w empty) ≡ show w empty
unfolding shown_in
empty_shown home w = ap₂ show (replica_back current home w) (empty_back current home w)

starts_shown : (v : Version) (home : ℕ → ℕ) (w : ℕ) → shown (encode_in v home w empty) ≡ show w empty
unfolding shown raised_in
starts_shown v home w = ap (λ n. shown_in current (raised_from current (older_by current n) (encode_in v home w empty))) (encode_length v home w empty) ∙ go (older? current v)
  where
    go : Older current v → shown_in current (raised_from current (older_by current (image_size_in v)) (encode_in v home w empty)) ≡ show w empty
    go (older p q) =
        ap (λ o. shown_in current (raised_from current o (encode_in v home w empty))) p
        ∙ ap₂ (λ r l. shown_in current (encode_in current (home_of (encode_in v home w empty)) r l)) (replica_back v home w) (empty_back v home w) ∙ empty_shown (home_of (encode_in v home w empty)) w
    go (newer p q) =
        ap (λ o. shown_in current (raised_from current o (encode_in v home w empty))) p ∙ ap (λ x. shown_in current (encode_in x home w empty)) (sym q ∙ later_current v) ∙ empty_shown home w

pub fleet_starts : (home : ℕ → ℕ) (made : ℕ → Version) → fleet home made [] 0 ≡ M.Init
unfolding fleet images images_from start show M.Init
fleet_starts home made = fun_ext (λ w. starts_shown (made w) home w ∙ init w)
  where
    init : (w : ℕ) → show w empty ≡ M.Init w
    init w = λ i. record { id = w; recorded_expenses = λ c. none; groups = λ g. ap (shown_group g (λ u. 0)) (zero_absent empty g (λ u k. refl)) i }

module _ (home : ℕ → ℕ) (made : ℕ → Version) (hm : Homes home) (h : List Call) (nm : Named h) where
  -- What an image of a history is.
  pub sound_image : (m w : ℕ) → w < replica_count → CheckedIn (versions home made h m w) (images home made h m w)
  sound_image m w k = (demand home hm made h nm).checked m w k

  pub own_home : (m w : ℕ) → w < replica_count → home_of (images home made h m w) ≡ home
  own_home m w k = ap home_of (images_are home hm made h nm m w k) ∙ home_is home hm w k (run home made h m w) (shows home hm made h nm m w).held

  pub own_replica : (m w : ℕ) → w < replica_count → replica_of (images home made h m w) ≡ w
  own_replica m w k = ap replica_of (images_are home hm made h nm m w k) ∙ replica_is home hm w k (run home made h m w) (shows home hm made h nm m w).held

  pub fleet_shown : (m w : ℕ) → w < replica_count → fleet home made h m w ≡ shown_in (versions home made h m w) (images home made h m w)
  unfolding fleet
  fleet_shown m w k = raised_shown (images home made h m w) (sound_image m w k)

  pub fleet_is : (m w : ℕ) → w < replica_count → fleet home made h m w ≡ show w (run home made h m w)
  fleet_is m w k =
      fleet_shown m w k ∙ ap (shown_in (versions home made h m w)) (images_are home hm made h nm m w k) ∙ written home hm w k (run home made h m w) (shows home hm made h nm m w).held

  -- The library that takes an image is of its version.
  version_is : (v : Version) (r : ℕ) → r < replica_count → CheckedIn v (image_now home made h r) → v ≡ version_now home made h r
  version_is v r k ok = same_size v (version_now home made h r) (sym (long (image_now home made h r) ok) ∙ long (image_now home made h r) (sound_image (length h) r k))

  -- A number absent on its own replica now is absent on every replica at every moment.
  group_owner_lem : (g : ℕ) → g < group_count → g / groups_each < replica_count
  group_owner_lem g k = omega arith

  expense_owner_lem : (c : ℕ) → c < expense_count → c / expenses_each < replica_count
  expense_owner_lem c k = omega arith

  pub free_group_lem : (g : ℕ) → g < group_count → (fleet_now home made h (g / groups_each)).groups g ≡ M.NO_GROUP → (m w : ℕ) → w < replica_count → (fleet home made h m w).groups g ≡ M.NO_GROUP
  free_group_lem g k p m w j =
      let o = group_owner_lem g k in
      let q : group_absent (run home made h (length h) (g / 2)) g ≡ true = none_group (g / 2) (run home made h (length h) (g / 2)) g (sym (ap (λ x. x.groups g) (fleet_is (length h) (g / groups_each) o)) ∙ p) in
      ap (λ x. x.groups g) (fleet_is m w j) ∙ group_none w (run home made h m w) g (group_unused home made h g m w q)

  pub free_expense_lem : (c : ℕ) → c < expense_count → (fleet_now home made h (c / expenses_each)).recorded_expenses c ≡ M.NO_EXPENSE
      → (m w : ℕ) → w < replica_count → (fleet home made h m w).recorded_expenses c ≡ M.NO_EXPENSE
  free_expense_lem c k p m w j =
      let o = expense_owner_lem c k in
      let q : absent (run home made h (length h) (c / 64)) c ≡ true = none_expense (c / 64) (run home made h (length h) (c / 64)) c (sym (ap (λ x. x.recorded_expenses c) (fleet_is (length h) (c / expenses_each) o)) ∙ p) in
      ap (λ x. x.recorded_expenses c) (fleet_is m w j) ∙ expense_none w (run home made h m w) c (expense_unused home made h c m w q)

  -- Within the limits, what is granted here is granted among all replicas; and back.
  to_fleet : (r : ℕ) (l : Ledger) (a : Action) → fields_fit a ≡ true → Granted home r (here (fleet_now home made h r)) l a → Granted home r (fleet_now home made h) l a
  unfolding Granted Enabled Limits fields_fit
  to_fleet r l (found a g n) fi e = ((e.0.0, λ w k. free_group_lem g (ltb_lt g 16 (test _ fi 1)) (ap (λ v. (fleet_now home made h v).groups g) e.1 ∙ e.0.1 0 (omega arith)) (length h) w k), e.1)
  to_fleet r l (add a o g) fi e = e
  to_fleet r l (leave a g) fi e = e
  to_fleet r l (enter a c s day) fi e =
      ((e.0.0, e.0.1, λ w k. free_expense_lem c (ltb_lt c 512 (test _ fi 1)) (ap (λ v. (fleet_now home made h v).recorded_expenses c) e.1.0 ∙ e.0.2 0 (omega arith)) (length h) w k), e.1)
  to_fleet r l (put_in a g c) fi e = e
  to_fleet r l (take_out a g c) fi e = e
  to_fleet r l (change a c s day) fi e = e
  to_fleet r l (delete a c) fi e = e
  to_fleet r l (acknowledge a c) fi e = e
  to_fleet r l (absorb a o c) fi e = e

  of_fleet : (r : ℕ) (l : Ledger) (a : Action) → r < replica_count → Granted home r (fleet_now home made h) l a → Granted home r (here (fleet_now home made h r)) l a
  unfolding Granted Enabled
  of_fleet r l (found a g n) k e = ((e.0.0, λ w j. e.0.1 r k), e.1)
  of_fleet r l (add a o g) k e = e
  of_fleet r l (leave a g) k e = e
  of_fleet r l (enter a c s day) k e = ((e.0.0, e.0.1, λ w j. e.0.2 r k), e.1)
  of_fleet r l (put_in a g c) k e = e
  of_fleet r l (take_out a g c) k e = e
  of_fleet r l (change a c s day) k e = e
  of_fleet r l (delete a c) k e = e
  of_fleet r l (acknowledge a c) k e = e
  of_fleet r l (absorb a o c) k e = e

  -- The tie of an image of the history, with the history's home table and the replica's own number.
  here_tie : (r : ℕ) (x : Bytes) → r < replica_count
      → (act_answer_in (version_now home made h r) (image_now home made h r) x ≡ 0)
      ↔ ((a : Action) × (read_action_in (version_now home made h r) x ≡ some a) × Granted home r (here (fleet_now home made h r)) (ledger_now home made h r) a)
  here_tie r x k =
      let v = version_now home made h r in
      let b = image_now home made h r in
      subst (λ m. (act_answer_in v b x ≡ 0) ↔ ((a : Action) × (read_action_in v x ≡ some a) × Granted home r (here m) (decode_in v b) a)) (sym (fleet_shown (length h) r k))
      (subst (λ f. (act_answer_in v b x ≡ 0) ↔ ((a : Action) × (read_action_in v x ≡ some a) × Granted f r (here (shown_in v b)) (decode_in v b) a)) (own_home (length h) r k)
      (subst (λ w. (act_answer_in v b x ≡ 0) ↔ ((a : Action) × (read_action_in v x ≡ some a) × Granted (home_of b) w (here (shown_in v b)) (decode_in v b) a)) (own_replica (length h) r k)
      (byte_tie b (sound_image (length h) r k) x)))

  own_checks : (v : Version) (r : ℕ) (x : Bytes) → r < replica_count → act_answer_in v (image_now home made h r) x ≡ 0 → CheckedIn v (image_now home made h r)
  own_checks v r x k e = act_checks v (image_now home made h r) x (sound_image (length h) r k).octets e

  pub local_tie : (v : Version) (r : ℕ) (x : Bytes) → r < replica_count → act_answer_in v (image_now home made h r) x ≡ 0
      → (a : Action) × (read_action_in v x ≡ some a) × Granted home r (here (fleet_now home made h r)) (ledger_now home made h r) a
  local_tie v r x k e =
      let q = version_is v r k (own_checks v r x k e) in
      subst (λ w. act_answer_in w (image_now home made h r) x ≡ 0 → (a : Action) × (read_action_in w x ≡ some a) × Granted home r (here (fleet_now home made h r)) (ledger_now home made h r) a) (sym q)
      (here_tie r x k).0 e

  pub fleet_tie : (v : Version) (r : ℕ) (x : Bytes) → r < replica_count
      → (act_answer_in v (image_now home made h r) x ≡ 0)
      ↔ ((v ≡ version_now home made h r) × ((a : Action) × (read_action_in v x ≡ some a) × Granted home r (fleet_now home made h) (ledger_now home made h r) a))
  fleet_tie v r x k = (
    λ e.
        let t = local_tie v r x k e in
        (version_is v r k (own_checks v r x k e), (t.0, t.1, to_fleet r (ledger_now home made h r) t.0 (read_fits v x t.0 t.1) t.2)),
    λ t.
        let u = t.1 in
        subst (λ w. read_action_in w x ≡ some u.0 → act_answer_in w (image_now home made h r) x ≡ 0) (sym t.0) (λ p. (here_tie r x k).1 (u.0, p, of_fleet r (ledger_now home made h r) u.0 k u.2)) u.1,
  )

  -- The fleet after one call more: replica r has what the call left there.
  fleet_except : (c : Call) (r : ℕ) → callee c ≡ r → (new : M.Replica) → shown (call_image (length h) (images home made h) c) ≡ new → fleet_then home made h c ≡ M.except (fleet_now home made h) r new
  unfolding fleet
  fleet_except c r p new e = fun_ext (λ w. ap (λ b. shown b) (images_more home made h c w) ∙ go w (same? w (callee c)))
    where
      go : (w : ℕ) → Same w (callee c) → shown (cond (eqb w (callee c)) (call_image (length h) (images home made h) c) (images home made h (length h) w)) ≡ cond (eqb w r) new (shown (images home made h (length h) w))
      go w (same q z) = rw (← p) (rw z e)
      go w (other q z) = rw (← p) (rw z)

  fleet_kept : (c : Call) → call_image (length h) (images home made h) c ≡ images home made h (length h) (callee c) → fleet_then home made h c ≡ fleet_now home made h
  unfolding fleet
  fleet_kept c e = fun_ext (λ w. ap (λ b. shown b) (images_more home made h c w ∙ go w (same? w (callee c))))
    where
      go : (w : ℕ) → Same w (callee c) → cond (eqb w (callee c)) (call_image (length h) (images home made h) c) (images home made h (length h) w) ≡ images home made h (length h) w
      go w (same q z) = ap (λ b. cond b (call_image (length h) (images home made h) c) (images home made h (length h) w)) z ∙ e ∙ ap (images home made h (length h)) (sym q)
      go w (other q z) = ap (λ b. cond b (call_image (length h) (images home made h) c) (images home made h (length h) w)) z

  pub fleet_acted : (v : Version) (r : ℕ) (x : Bytes) (a : Action) → r < replica_count → read_action_in v x ≡ some a → act_answer_in v (image_now home made h r) x ≡ 0
      → fleet_then home made h (act v r x) ≡ M.except (fleet_now home made h) r (effect a (fleet_now home made h r))
  unfolding callee call_image fleet
  fleet_acted v r x a k p e =
      let b = image_now home made h r in
      let ok = own_checks v r x k e in
      fleet_except (act v r x) r refl _ (raised_shown (act_image_in v b x) (act_checked b ok x) ∙ byte_effect b ok x a p e ∙ ap (effect a) (sym (raised_shown b ok)))

  pub fleet_refused : (c : Call) → call_answer (length h) (images home made h) c ≢ 0 → fleet_then home made h c ≡ fleet_now home made h
  fleet_refused c e = fleet_kept c (left (length h) (images home made h) c e)

  -- A raising shows nothing new.
  pub fleet_raised : (v : Version) (r : ℕ) (d : Bytes) → r < replica_count → fleet_then home made h (raise v r d) ≡ fleet_now home made h
  unfolding callee call_image call_answer fleet
  fleet_raised v r d k = go (same? (raise_answer_in v (image_now home made h r) d) 0)
    where
      go : Same (raise_answer_in v (image_now home made h r) d) 0 → fleet_then home made h (raise v r d) ≡ fleet_now home made h
      go (other e _) = fleet_refused (raise v r d) e
      go (same e _) =
          fleet_except (raise v r d) r refl (fleet_now home made h r) (ap (λ b. shown b) (in_buffer v (image_now home made h r) d e) ∙ raised_twice (image_now home made h r) (sound_image (length h) r k) v)
          ∙ fun_ext (λ w. stays w (same? w r))
        where
          stays : (w : ℕ) → Same w r → M.except (fleet_now home made h) r (fleet_now home made h r) w ≡ fleet_now home made h w
          stays w (same p q) = ap (λ t. cond t (fleet_now home made h r) (fleet_now home made h w)) q ∙ ap (fleet_now home made h) (sym p)
          stays w (other p q) = ap (λ t. cond t (fleet_now home made h r) (fleet_now home made h w)) q

  -- Raised to its own version an image stays.
  own_raised : (r : ℕ) → r < replica_count → raised_in (version_now home made h r) (image_now home made h r) ≡ image_now home made h r
  own_raised r k =
      let v = version_now home made h r in
      let l = run home made h (length h) r in
      let e = images_are home hm made h nm (length h) r k in
      ap (raised_in v) e ∙ raised_is home hm r k l (shows home hm made h nm (length h) r).held v ∙ ap (λ w. encode_in w home r l) (later_self v) ∙ sym e

  pub fleet_taken : (r f k : ℕ) → r < replica_count → f < replica_count → Handed home made h r f k
      → merge_images_answer_in (version_now home made h r) (image_now home made h r) (raised_in (version_now home made h r) (images home made h k f)) ≡ 0
  fleet_taken r f k i j p =
      let v = version_now home made h r in
      sym (ap (λ b. merge_images_answer_in v b (raised_in v (images home made h k f))) (own_raised r i))
      ∙ (demand home hm made h nm).merges_accepted v (length h) r k f i j (ap length (own_raised r i) ∙ long (image_now home made h r) (sound_image (length h) r i)) p

  pub fleet_merged : (v : Version) (r f k : ℕ) (w : Version) → r < replica_count → f < replica_count
      → merge_images_answer_in v (image_now home made h r) (raised_in w (images home made h k f)) ≡ 0
      → fleet_then home made h (merge v r f k w) ≡ M.except (fleet_now home made h) r (M.new_merge_replicas (fleet_now home made h r) (fleet home made h k f))
  unfolding callee call_image fleet
  fleet_merged v r f k w i j e =
      let b = image_now home made h r in
      let c = images home made h k f in
      let d = raised_in w c in
      let z = merge_passed v b d e in
      let okb : CheckedIn v b = record { octets = (sound_image (length h) r i).octets; passes = z.0 } in
      let okd : CheckedIn v d = record { octets = (raised_checked c (sound_image k f j) w).octets; passes = z.1 } in
      fleet_except (merge v r f k w) r refl _
      (raised_shown (merge_images_in v b d) (merge_checked b okb d okd.octets) ∙ byte_merge b d okb okd e
      ∙ ap₂ M.new_merge_replicas (sym (raised_shown b okb)) (sym (raised_shown d okd) ∙ raised_twice c (sound_image k f j) w))

  pub fleet_inv : (m r : ℕ) → r < replica_count → M.Inv (fleet home made h m r)
  fleet_inv m r k = subst M.Inv (sym (fleet_shown m r k)) (byte_inv (images home made h m r) (sound_image m r k))

  -- A merge of a replica with itself.
  pub fleet_self : (r : ℕ) → r < replica_count → M.except (fleet_now home made h) r (M.new_merge_replicas (fleet_now home made h r) (fleet_now home made h r)) ≡ fleet_now home made h
  fleet_self r k = fun_ext (λ w. go w (same? w r))
    where
      same_one : M.new_merge_replicas (fleet_now home made h r) (fleet_now home made h r) ≡ fleet_now home made h r
      same_one = ap (λ x. M.new_merge_replicas x x) (fleet_is (length h) r k) ∙ merge_self r (run home made h (length h) r) ∙ sym (fleet_is (length h) r k)

      go : (w : ℕ) → Same w r → M.except (fleet_now home made h) r (M.new_merge_replicas (fleet_now home made h r) (fleet_now home made h r)) w ≡ fleet_now home made h w
      go w (same p q) = ap (λ b. cond b (M.new_merge_replicas (fleet_now home made h r) (fleet_now home made h r)) (fleet_now home made h w)) q ∙ same_one ∙ ap (fleet_now home made h) (sym p)
      go w (other p q) = ap (λ b. cond b (M.new_merge_replicas (fleet_now home made h r) (fleet_now home made h r)) (fleet_now home made h w)) q
