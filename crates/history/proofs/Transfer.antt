-- From ledgers to images: in every history the image of a moment on a replica is that of the ledger there (Run), and the answers are the same.
-- It needs of the codec only what each call does at the image of a ledger (rules, Encoded), and that accepted calls keep what an image can hold (Checked).
use mathlib.Core.Path.{◌≡◌, refl, sym, ap, ap₂, ◌∙◌, subst}
use mathlib.Core.Bool.{Bool, true, false, cond}
use mathlib.Core.Option.{Option, none, some}
use mathlib.Core.Logic.{◌≢◌}
use mathlib.Core.List.{List, [], ◌∷◌}
use Prim.Native.Nat.{ℕ, suc, ◌<◌}
use native.Mathlib.Omega.{arith}
use lib.Dec.{eqb}
use lib.ListN.{length}
use Rattle.format.specs.Layout.{Version, image_size_in, replica_count}
use Rattle.format.specs.Bytes.{Bytes}
use Rattle.format.proofs.Laws.{same_size}
use Rattle.rules.specs.Ledger.{Ledger, empty}
use Rattle.rules.specs.Action.{Action}
use Rattle.rules.specs.Refusal.{answer}
use Rattle.rules.specs.Merge.{merge_answer, merge_ledger}
use Rattle.images.specs.Image.{Homes, encode_in, decode_in, image_check_in}
use Rattle.images.specs.Record.{read_action_in}
use Rattle.images.specs.Calls.{or_else, other_answer, act_answer_in, acted_by_in, act_image_in, merge_images_answer_in, merge_images_in, older_by, raised_in, raise_answer_in, raise_image_in}
use Rattle.rules.proofs.Basics.{Same, same, other, same?}
use Rattle.images.proofs.Encoded.{Holds, check_is, check_length, decode_is, act_answer_lem, acted_is, act_image_lem, merge_answer_lem, merge_image}
use Rattle.images.proofs.Checked.{NarrowOption, read_narrow, empty_holds, act_holds, merge_holds, or_else_zero, other_zero}
use Rattle.rules.proofs.Sound.{eqb_other}
use Rattle.images.proofs.Encoding.{encode_length}
use Rattle.images.proofs.Raise.{later, Older, older, newer, older?, later_holds, raised_is, raise_older, raise_newer}
use Rattle.history.specs.History.{Call, act, merge, raise, callee, after, call_answer, call_image, images_next, images_from, answers_from, start, images, answers, accepted, oks, note, book_from, raised_by, versions}
use Rattle.history.specs.Demand.{Named}
use Rattle.history.proofs.Run.{sized, raising, answer_to, ok, acted_on, outcome, proceed, upgrade, run_from, run_versions_from, run_answers_from, run_oks_from, run, run_versions, run_answers, run_oks, versions_booked}

-- What is kept for three kinds of things, where it may depend on the replica.
after_at : {A B C : Type 0} (P : ℕ → A → B → C → Type 0) (f : ℕ → ℕ → A) (g : ℕ → ℕ → B) (h : ℕ → ℕ → C) (n r : ℕ) (a : A) (b : B) (c : C)
    → ((m w : ℕ) → P w (f m w) (g m w) (h m w)) → P r a b c → (m w : ℕ) → P w (after f n r a m w) (after g n r b m w) (after h n r c m w)
unfolding after
after_at P f g h n r a b c old new m w = go (eqb m (suc n)) (same? w r)
  where
    go : (x : Bool) → Same w r → P w (cond x (cond (eqb w r) a (f n w)) (f m w)) (cond x (cond (eqb w r) b (g n w)) (g m w)) (cond x (cond (eqb w r) c (h n w)) (h m w))
    go true (same p q) = rw q (subst (λ v. P v a b c) (sym p) new)
    go true (other p q) = rw q (old n w)
    go false s = old m w

-- A replica's image is that of a ledger which an image of its version can hold.
pub record Shows (home : ℕ → ℕ) (r : ℕ) (b : Bytes) (v : Version) (l : Ledger) : Type 0 where
  pub bytes : r < replica_count → b ≡ encode_in v home r l
  pub held : Holds v home l

-- An image of version u and the library of version v: of one version, or of different lengths.
data Fitting (u v : Version) : Type 0 where
  fitting : u ≡ v → eqb (image_size_in u) (image_size_in v) ≡ true → Fitting u v
  unfit : image_size_in u ≢ image_size_in v → eqb (image_size_in u) (image_size_in v) ≡ false → Fitting u v

fitting? : (u v : Version) → Fitting u v
fitting? u v = go (same? (image_size_in u) (image_size_in v))
  where
    go : Same (image_size_in u) (image_size_in v) → Fitting u v
    go (same p q) = fitting (same_size u v p) q
    go (other p q) = unfit p q

pub sized_same : (u v : Version) → sized u v ≡ 0 → u ≡ v
sized_same u v e = go (fitting? u v)
  where
    go : Fitting u v → u ≡ v
    go (fitting p q) = p
    go (unfit p q) = absurd (let z : 1 ≡ 0 = rw q at e in omega arith)

-- A call that the image's length stops.
act_stopped : (v : Version) (b x : Bytes) → image_check_in v b ≡ 1 → act_answer_in v b x ≡ 1
unfolding act_answer_in
act_stopped v b x c = rw c

own_stopped : (v : Version) (b d : Bytes) → image_check_in v b ≡ 1 → merge_images_answer_in v b d ≡ 1
unfolding merge_images_answer_in
own_stopped v b d c = rw c

other_stopped : (v : Version) (b d : Bytes) → image_check_in v b ≡ 0 → image_check_in v d ≡ 1 → merge_images_answer_in v b d ≡ 41
unfolding merge_images_answer_in
other_stopped v b d c e = rw (c, e)

-- A refused call leaves the image.
pub left : (n : ℕ) (stood : ℕ → ℕ → Bytes) (c : Call) → call_answer n stood c ≢ 0 → call_image n stood c ≡ stood n (callee c)
unfolding call_answer call_image callee act_image_in merge_images_in
left n stood (act v r x) e = rw (eqb_other (act_answer_in v (stood n r) x) 0 e)
left n stood (merge v r f k w) e = rw (eqb_other (merge_images_answer_in v (stood n r) (raised_in w (stood k f))) 0 e)
left n stood (raise v r d) e = rw (eqb_other (raise_answer_in v (stood n r) d) 0 e)

-- What an accepted raising leaves.
pub in_buffer : (v : Version) (b d : Bytes) → raise_answer_in v b d ≡ 0 → cond (eqb (raise_answer_in v b d) 0) (raise_image_in v b d) b ≡ raised_in v b
unfolding raise_image_in
in_buffer v b d z = rw z

module _ (home : ℕ → ℕ) (hm : Homes home) where
  -- The library of a version on the image of a ledger in any: the length decides first.
  check_sized : (u v : Version) (r : ℕ) → r < replica_count → (l : Ledger) → Holds u home l → image_check_in v (encode_in u home r l) ≡ sized u v
  check_sized u v r k l h = go (fitting? u v)
    where
      go : Fitting u v → image_check_in v (encode_in u home r l) ≡ sized u v
      go (fitting p q) = rw q (ap (λ w. image_check_in w (encode_in u home r l)) (sym p) ∙ check_is home hm r k l h)
      go (unfit p q) = rw q (check_length v (encode_in u home r l) (λ e. p (sym (encode_length u home r l) ∙ e)))

  act_sized : (u v : Version) (r : ℕ) → r < replica_count → (l : Ledger) → Holds u home l → (x : Bytes) → act_answer_in v (encode_in u home r l) x ≡ or_else (sized u v) (answer home r (read_action_in v x) l)
  act_sized u v r k l h x = go (fitting? u v)
    where
      go : Fitting u v → act_answer_in v (encode_in u home r l) x ≡ or_else (sized u v) (answer home r (read_action_in v x) l)
      go (fitting p q) = rw q (ap (λ w. act_answer_in w (encode_in u home r l) x) (sym p) ∙ act_answer_lem home hm r k l h x ∙ ap (λ w. answer home r (read_action_in w x) l) p)
      go (unfit p q) = rw q (act_stopped v _ x (check_sized u v r k l h ∙ ap (λ b. cond b 0 1) q))

  merge_sized : (u u' v : Version) (r f : ℕ) → r < replica_count → f < replica_count → (l o : Ledger) → Holds u home l → Holds u' home o
      → merge_images_answer_in v (encode_in u home r l) (encode_in u' home f o) ≡ or_else (sized u v) (or_else (other_answer (sized u' v)) (merge_answer l o))
  merge_sized u u' v r f r8 f8 l o h k = go (fitting? u v) (fitting? u' v)
    where
      go : Fitting u v → Fitting u' v → merge_images_answer_in v (encode_in u home r l) (encode_in u' home f o) ≡ or_else (sized u v) (or_else (other_answer (sized u' v)) (merge_answer l o))
      go (unfit p q) _ = rw q (own_stopped v _ _ (check_sized u v r r8 l h ∙ ap (λ b. cond b 0 1) q))
      go (fitting p q) (unfit a t) = rw (q, t) (other_stopped v _ _ (check_sized u v r r8 l h ∙ ap (λ b. cond b 0 1) q) (check_sized u' v f f8 o k ∙ ap (λ b. cond b 0 1) t))
      go (fitting p q) (fitting a t) =
          rw (q, t)
          (ap₂ (λ x y. merge_images_answer_in v (encode_in x home r l) (encode_in y home f o)) p a
          ∙ merge_answer_lem home hm r f r8 f8 l o (subst (λ w. Holds w home l) p h) (subst (λ w. Holds w home o) a k))

  raise_sized : (u v : Version) (r : ℕ) → r < replica_count → (l : Ledger) → Holds u home l → (d : Bytes) → raise_answer_in v (encode_in u home r l) d ≡ raising v (older_by v (image_size_in u)) (length d)
  raise_sized u v r k l h d = go (older? v u)
    where
      go : Older v u → raise_answer_in v (encode_in u home r l) d ≡ raising v (older_by v (image_size_in u)) (length d)
      go (older p q) = raise_older home hm r k l h v d p ∙ sym (ap (λ o. raising v o (length d)) p)
      go (newer p q) = raise_newer home hm r k l h v d p ∙ sym (ap (λ o. raising v o (length d)) p)

  acted_on_lem : {v : Version} (r : ℕ) → r < replica_count → (o : Option Action) (l : Ledger) → Holds v home l → acted_by_in v (encode_in v home r l) o ≡ encode_in v home r (acted_on o l)
  unfolding acted_on
  acted_on_lem r k none l h = refl
  acted_on_lem r k (some a) l h = acted_is home hm r k l h a

  acted_holds : {v : Version} (r : ℕ) (o : Option Action) (l : Ledger) → NarrowOption v o → Holds v home l → answer home r o l ≡ 0 → Holds v home (acted_on o l)
  unfolding acted_on
  acted_holds r none l n h e = h
  acted_holds r (some a) l n h e = act_holds home r a l n h e

  -- One call, where each replica's image is that of its ledger in its version.
  module _ (n : ℕ) (stood : ℕ → ℕ → Bytes) (at : ℕ → ℕ → Version) (ledgers : ℕ → ℕ → Ledger) (s : (m w : ℕ) → Shows home w (stood m w) (at m w) (ledgers m w)) where
    -- The image that stood at moment k on replica f, raised to version w.
    handed_bytes : (w : Version) (k f : ℕ) → f < replica_count → raised_in w (stood k f) ≡ encode_in (later w (at k f)) home f (ledgers k f)
    handed_bytes w k f f8 = ap (raised_in w) ((s k f).bytes f8) ∙ raised_is home hm f f8 (ledgers k f) (s k f).held w

    answer_is : (c : Call) (h : List Call) → Named (c ∷ h) → call_answer n stood c ≡ answer_to home n at ledgers c
    unfolding call_answer answer_to
    answer_is (act v r x) h nm = ap (λ b. act_answer_in v b x) ((s n r).bytes nm.0) ∙ act_sized (at n r) v r nm.0 (ledgers n r) (s n r).held x
    answer_is (merge v r f k w) h nm =
        ap₂ (merge_images_answer_in v) ((s n r).bytes nm.0) (handed_bytes w k f nm.1)
        ∙ merge_sized (at n r) (later w (at k f)) v r f nm.0 nm.1 (ledgers n r) (ledgers k f) (s n r).held (later_holds w (at k f) home (ledgers k f) (s k f).held)
    answer_is (raise v r d) h nm = ap (λ b. raise_answer_in v b d) ((s n r).bytes nm.0) ∙ raise_sized (at n r) v r nm.0 (ledgers n r) (s n r).held d

    -- An accepted one leaves the image of its outcome.
    done : (c : Call) (h : List Call) → Named (c ∷ h) → answer_to home n at ledgers c ≡ 0 → call_answer n stood c ≡ 0 → Shows home (callee c) (call_image n stood c) (raised_by n at c) (outcome n ledgers c)
    unfolding call_answer call_image callee answer_to outcome raised_by
    done (act v r x) h nm e c =
        let l = ledgers n r in
        let o = read_action_in v x in
        let z = or_else_zero (sized (at n r) v) _ e in
        let p : at n r ≡ v = sized_same (at n r) v z.0 in
        let k : Holds v home l = subst (λ w. Holds w home l) p (s n r).held in
        let b : stood n r ≡ encode_in v home r l = (s n r).bytes nm.0 ∙ ap (λ w. encode_in w home r l) p in
        let i : act_image_in v (stood n r) x ≡ encode_in v home r (acted_on o l) =
        ap (λ t. act_image_in v t x) b ∙ act_image_lem home hm r nm.0 l k x ∙ ap (λ t. cond (eqb t 0) (acted_by_in v (encode_in v home r l) o) (encode_in v home r l)) z.1 ∙ acted_on_lem r nm.0 o l k in
        subst (λ w. Shows home r (act_image_in v (stood n r) x) w (acted_on o l)) (sym p) (record { bytes = λ j. i; held = acted_holds r o l (read_narrow v x) k z.1 })
    done (merge v r f m w) h nm e c =
        let l = ledgers n r in
        let o = ledgers m f in
        let z = or_else_zero (sized (at n r) v) _ e in
        let y = or_else_zero (other_answer (sized (later w (at m f)) v)) _ z.1 in
        let p : at n r ≡ v = sized_same (at n r) v z.0 in
        let q : later w (at m f) ≡ v = sized_same (later w (at m f)) v (other_zero _ y.0) in
        let k : Holds v home l = subst (λ x. Holds x home l) p (s n r).held in
        let j : Holds v home o = subst (λ x. Holds x home o) q (later_holds w (at m f) home o (s m f).held) in
        let b : stood n r ≡ encode_in v home r l = (s n r).bytes nm.0 ∙ ap (λ x. encode_in x home r l) p in
        let d : raised_in w (stood m f) ≡ encode_in v home f o = handed_bytes w m f nm.1 ∙ ap (λ x. encode_in x home f o) q in
        let i : merge_images_in v (stood n r) (raised_in w (stood m f)) ≡ encode_in v home r (merge_ledger l o) =
        ap₂ (merge_images_in v) b d ∙ merge_image home hm r f nm.0 nm.1 l o k j ∙ ap (λ t. cond (eqb t 0) (encode_in v home r (merge_ledger l o)) (encode_in v home r l)) y.1 in
        subst (λ x. Shows home r (merge_images_in v (stood n r) (raised_in w (stood m f))) x (merge_ledger l o)) (sym p) (record { bytes = λ t. i; held = merge_holds home l o k j y.1 })
    done (raise v r d) h nm e c = go (older? v (at n r))
      where
        go : Older v (at n r) → Shows home r (cond (eqb (raise_answer_in v (stood n r) d) 0) (raise_image_in v (stood n r) d) (stood n r)) v (ledgers n r)
        go (older p q) = record {
          bytes = λ r8. in_buffer v (stood n r) d c ∙ handed_bytes v n r r8 ∙ ap (λ x. encode_in x home r (ledgers n r)) q;
          held = subst (λ x. Holds x home (ledgers n r)) q (later_holds v (at n r) home (ledgers n r) (s n r).held);
        }
        go (newer p q) = absurd (let z : 1 ≡ 0 = sym (ap (λ o. raising v o (length d)) p) ∙ e in omega arith)

    shown : (c : Call) (h : List Call) → Named (c ∷ h)
        → Shows home (callee c) (call_image n stood c) (cond (ok home n at ledgers c) (raised_by n at c) (at n (callee c))) (cond (ok home n at ledgers c) (outcome n ledgers c) (ledgers n (callee c)))
    unfolding ok
    shown c h nm = go (same? (answer_to home n at ledgers c) 0)
      where
        go : Same (answer_to home n at ledgers c) 0
            → Shows home (callee c) (call_image n stood c) (cond (eqb (answer_to home n at ledgers c) 0) (raised_by n at c) (at n (callee c))) (cond (eqb (answer_to home n at ledgers c) 0) (outcome n ledgers c) (ledgers n (callee c)))
        go (same p q) = rw q (done c h nm p (answer_is c h nm ∙ p))
        go (other p q) = rw q (subst (λ b. Shows home (callee c) b (at n (callee c)) (ledgers n (callee c))) (sym (left n stood c (λ e. p (sym (answer_is c h nm) ∙ e)))) (s n (callee c)))

  rest_named : (c : Call) (h : List Call) → Named (c ∷ h) → Named h
  rest_named (act v r x) h nm = nm.1
  rest_named (merge v r f k w) h nm = nm.2
  rest_named (raise v r d) h nm = nm.1

  -- Every list of calls.
  all_calls : (h : List Call) (n : ℕ) (stood : ℕ → ℕ → Bytes) (at : ℕ → ℕ → Version) (ledgers : ℕ → ℕ → Ledger) → ((m w : ℕ) → Shows home w (stood m w) (at m w) (ledgers m w)) → Named h
      → (answers_from n stood h ≡ run_answers_from home n at ledgers h) × ((m w : ℕ) → Shows home w (images_from n stood h m w) (run_versions_from home n at ledgers h m w) (run_from home n at ledgers h m w))
  unfolding images_from answers_from images_next run_from run_versions_from run_answers_from proceed upgrade note
  all_calls [] n stood at ledgers s nm = (refl, s)
  all_calls (c ∷ h) n stood at ledgers s nm =
      let k = all_calls h (suc n) (images_next n stood c) (upgrade home n at ledgers c) (proceed home n at ledgers c) (after_at (Shows home) stood at ledgers n (callee c) _ _ _ s (shown n stood at ledgers s c h nm)) (rest_named c h nm) in
      (ap₂ ◌∷◌ (answer_is n stood at ledgers s c h nm) k.0, k.1)

  module _ (made : ℕ → Version) (h : List Call) (nm : Named h) where
    shows_all : (answers home made h ≡ run_answers home made h) × ((m w : ℕ) → Shows home w (images home made h m w) (run_versions home made h m w) (run home made h m w))
    unfolding images answers run run_versions run_answers start
    shows_all = all_calls h 0 (start home made) (λ m r. made r) (λ m r. empty) (λ m w. record { bytes = λ j. refl; held = empty_holds (made w) home }) nm

    -- The answer to one call more.
    pub next_answer : (c : Call) → Named (c ∷ []) → call_answer (length h) (images home made h) c ≡ answer_to home (length h) (run_versions home made h) (run home made h) c
    next_answer c n = answer_is (length h) (images home made h) (run_versions home made h) (run home made h) shows_all.1 c [] n

    pub answers_are : answers home made h ≡ run_answers home made h
    answers_are = shows_all.0

    pub oks_are : oks home made h ≡ run_oks home made h
    unfolding oks run_oks run_oks_from run_answers
    oks_are = ap accepted answers_are

    -- The versions of the book are those of the history of ledgers.
    pub versions_are : versions home made h ≡ run_versions home made h
    unfolding versions
    versions_are = ap (book_from raised_by 0 (λ m r. made r) h) oks_are ∙ sym (versions_booked home made h)

    pub shows : (m w : ℕ) → Shows home w (images home made h m w) (versions home made h m w) (run home made h m w)
    shows m w = subst (λ f. Shows home w (images home made h m w) (f m w) (run home made h m w)) (sym versions_are) (shows_all.1 m w)

    pub images_are : (m r : ℕ) → r < replica_count → images home made h m r ≡ encode_in (versions home made h m r) home r (run home made h m r)
    images_are m r k = (shows m r).bytes k

    -- An image raised to version v is that of the ledger in the later version of the two.
    pub raised_are : (v : Version) (m r : ℕ) → r < replica_count → raised_in v (images home made h m r) ≡ encode_in (later v (versions home made h m r)) home r (run home made h m r)
    raised_are v m r k = ap (raised_in v) (images_are m r k) ∙ raised_is home hm r k (run home made h m r) (shows m r).held v

    pub raised_held : (v : Version) (m r : ℕ) → Holds (later v (versions home made h m r)) home (run home made h m r)
    raised_held v m r = later_holds v (versions home made h m r) home (run home made h m r) (shows m r).held

    -- What an image means is the ledger.
    pub decoded : (m r : ℕ) → r < replica_count → decode_in (versions home made h m r) (images home made h m r) ≡ run home made h m r
    decoded m r k = ap (decode_in (versions home made h m r)) (images_are m r k) ∙ decode_is home hm r k (run home made h m r) (shows m r).held
