-- Demand 3: every history meets `Demand`. The claims on ledgers (Heard, Ledgers) are carried over to the images (Transfer).
use mathlib.Core.Path.{◌≡◌, refl, sym, ap, ap₂, ◌∙◌, subst}
use mathlib.Core.Bool.{Bool, true, false, cond}
use mathlib.Core.Option.{none}
use mathlib.Core.Logic.{◌≢◌}
use mathlib.Core.List.{List, [], ◌∷◌}
use Prim.Native.Nat.{ℕ, suc, ◌≤◌, ◌<◌}
use native.Mathlib.Omega.{arith}
use lib.Dec.{eqb}
use borrow.Author.Tests.{eq-eqb, ne_eqb}
use lib.IntN.{ℤ, pos, neg_ℤ}
use lib.ListN.{length, drop}
use Rattle.format.specs.Layout.{Version, current, user_count, replica_count, groups_at, image_size_in, payments_size}
use Rattle.format.specs.Bytes.{Bytes}
use Rattle.format.specs.declared.Line.{Line}
use Rattle.format.proofs.Laws.{same_size}
use Rattle.rules.specs.Ledger.{Ledger, empty, group_absent}
use Rattle.rules.specs.Tests.{first}
use Rattle.rules.specs.Balance.{members, lines_of, totals_of, balances_in, sumℤ}
use Rattle.images.specs.Image.{Homes, encode_in, image_check_in, CheckedIn}
use Rattle.rules.specs.Payments.{row_by_row}
use Rattle.images.specs.Calls.{merge_images_answer_in, refused_totals, statement_answer_in, statement_lines_in, statement_totals_in, payments_checks, payments_answer_in, payments_in, payments_cents_in, older_by, raise_answer_in}
use Rattle.rules.proofs.Basics.{In, Same, same, other, same?, eqb_self}
use Rattle.rules.proofs.Sound.{eqb_other, Payers, payers}
use Rattle.rules.proofs.Balance.{balances_member, balances_none}
use Rattle.images.proofs.Encoding.{encode_length}
use Rattle.images.proofs.Encoded.{Holds, check_length, totals_shown, lines_shown, few_refused, absent_refused, payments_answer_lem, payments_cents_lem, merge_answer_lem}
use Rattle.images.proofs.Checked.{encode_checked, empty_accepted, empty_is, or_else_zero}
use Rattle.images.proofs.Raise.{later, later_self, later_current, Older, older, newer, older?, raise_older, raised_between}
use Rattle.images.proofs.Listed.{cents_clear}
use Rattle.images.proofs.Together.{totals_answer, as_stated}
use Rattle.history.specs.History.{Call, callee, call_image, images_next, images_from, start, images, versions, Step, book, heard}
use Rattle.history.specs.Demand.{Named, known, raised_images, Taken, SameSteps, ByAction, Stated, Listed, Dated, Gathered, Demand}
use Rattle.history.proofs.Run.{run}
use Rattle.history.proofs.Steps.{after_old}
use Rattle.history.proofs.Heard.{Invariant, history}
use Rattle.history.proofs.Sets.{in_mem, mem_in}
use Rattle.history.proofs.Ledgers.{same_steps, stays, merge_accepted}
use Rattle.history.proofs.Transfer.{shows, oks_are, versions_are, images_are, raised_are, raised_held, decoded}
use Rattle.rules.proofs.Months.{monthly}
use Rattle.history.proofs.Undated.{acted}
use Rattle.history.proofs.Months.{month_encoded}
use Rattle.history.proofs.Together.{balances_encoded}

-- A moment that is past keeps its image.
images_past : (h : List Call) (n : ℕ) (stood : ℕ → ℕ → Bytes) (m w : ℕ) → m ≤ n → images_from n stood h m w ≡ stood m w
unfolding images_from images_next
images_past [] n stood m w k = refl
images_past (c ∷ h) n stood m w k = images_past h (suc n) (images_next n stood c) m w (omega arith) ∙ after_old stood n (callee c) (call_image n stood c) m w k

starts : (home : ℕ → ℕ) (made : ℕ → Version) (h : List Call) (r : ℕ) → images home made h 0 r ≡ encode_in (made r) home r empty
unfolding images start
starts home made h r = images_past h 0 (start home made) 0 r (omega arith)

-- A refused statement.
module _ (v : Version) (b : Bytes) (g k : ℕ) (positive : eqb k 0 ≡ false) where
  refused_totals_lem : (n : ℕ) → statement_answer_in v b g n ≡ k → statement_totals_in v b g n ≡ refused_totals k
  unfolding statement_totals_in
  refused_totals_lem n e = rw (e, positive)

  refused_lines : (lines : List Line) → statement_answer_in v b g (length lines) ≡ k → statement_lines_in v b g lines ≡ lines
  unfolding statement_lines_in
  refused_lines lines e = rw (e, positive)

-- What is answered 0 has passed the check, and so has the version's length.
check_sized : (v : Version) (b : Bytes) → image_check_in v b ≡ 0 → length b ≡ image_size_in v
check_sized v b e = go (same? (length b) (image_size_in v))
  where
    go : Same (length b) (image_size_in v) → length b ≡ image_size_in v
    go (same p q) = p
    go (other p q) = absurd (let z : 1 ≡ 0 = sym (check_length v b p) ∙ e in omega arith)

statement_sized : (v : Version) (b : Bytes) (g n : ℕ) → (statement_totals_in v b g n).answer ≡ 0 → length b ≡ image_size_in v
unfolding statement_answer_in
statement_sized v b g n e = check_sized v b (or_else_zero (image_check_in v b) _ (sym (totals_answer v b g n) ∙ e)).0

payments_sized : (v : Version) (b : Bytes) (g n : ℕ) → payments_answer_in v b g n ≡ 0 → length b ≡ image_size_in v
unfolding payments_answer_in
payments_sized v b g n e = check_sized v b (or_else_zero (image_check_in v b) _ e).0

module _ {v : Version} (home : ℕ → ℕ) (hm : Homes home) (r : ℕ) (r8 : r < replica_count) (l : Ledger) (h : Holds v home l) (g : ℕ) where
  -- The statement from the image of a ledger.
  pub stated_encoded : (lines : List Line) → Stated v (encode_in v home r l) l g lines
  stated_encoded lines = record {
    totals = λ p n. ap (statement_totals_in v (encode_in v home r l) g) n ∙ totals_shown home hm r r8 l h g p;
    filled = λ p n. lines_shown home hm r r8 l h g p lines n;
    absent = λ p. let z = absent_refused home hm r r8 l h g (length lines) p in
        (refused_totals_lem v (encode_in v home r l) g 10 refl (length lines) z, refused_lines v (encode_in v home r l) g 10 refl lines z);
    miscounted = λ p n. let z = few_refused home hm r r8 l h g p (length lines) (eqb_other (length lines) user_count n) in
        (refused_totals_lem v (encode_in v home r l) g 32 refl (length lines) z, refused_lines v (encode_in v home r l) g 32 refl lines z);
  }

  -- The list of who pays whom from the image of a ledger: what it writes hangs on its answer alone.
  module _ (cents : List ℕ) where
    answered : (k : ℕ) → first ((group_absent l g, 10) ∷ payments_checks (length cents) (members l g)) ≡ k
        → (payments_answer_in v (encode_in v home r l) g (length cents) ≡ k) × (payments_cents_in v (encode_in v home r l) g cents ≡ cond (eqb k 0) (row_by_row (payments_in l g)) cents)
    answered k e =
        let a = payments_answer_lem home hm r r8 l h g (length cents) ∙ e in
        (a, payments_cents_lem home hm r r8 l h g cents ∙ ap (λ n. cond (eqb n 0) (row_by_row (payments_in l g)) cents) a)

    pub listed_encoded : Listed v (encode_in v home r l) l g cents
    unfolding first
    listed_encoded = record {
      written = λ p n m. answered 0 (rw (p, eq-eqb (length cents) payments_size n, ne_eqb (members l g) 0 m));
      absent = λ p. answered 10 (rw p);
      miscounted = λ p n. answered 32 (rw (p, ne_eqb (length cents) payments_size n));
      memberless = λ p n m. answered 33 (rw (p, eq-eqb (length cents) payments_size n, eq-eqb (members l g) 0 m));
    }

-- What a statement shows that is answered 0.
module _ (v : Version) (b : Bytes) (l : Ledger) (g : ℕ) (lines : List Line) (s : Stated v b l g lines) (e : (statement_totals_in v b g (length lines)).answer ≡ 0) where
  pub shown : (statement_totals_in v b g (length lines) ≡ totals_of l g) × (statement_lines_in v b g lines ≡ lines_of l g)
  shown = go (group_absent l g) refl (same? (length lines) user_count)
    where
      go : (t : Bool) → group_absent l g ≡ t → Same (length lines) user_count → (statement_totals_in v b g (length lines) ≡ totals_of l g) × (statement_lines_in v b g lines ≡ lines_of l g)
      go true p q = absurd (let z : 10 ≡ 0 = sym (ap (λ x. x.answer) (s.absent p).0) ∙ e in omega arith)
      go false p (same q _) = (s.totals p q, s.filled p q)
      go false p (other q _) = absurd (let z : 32 ≡ 0 = sym (ap (λ x. x.answer) (s.miscounted p q).0) ∙ e in omega arith)

  zero_shown : Payers l → 0 < (statement_totals_in v b g (length lines)).members → sumℤ (balances_in (statement_lines_in v b g lines)) ≡ pos 0
  unfolding totals_of
  zero_shown p k = ap (λ x. sumℤ (balances_in x)) shown.1 ∙ balances_member l g p (let z = ap (λ x. x.members) shown.0 in omega arith)

  gifts_shown : Payers l → (statement_totals_in v b g (length lines)).members ≡ 0 → sumℤ (balances_in (statement_lines_in v b g lines)) ≡ neg_ℤ (pos (statement_totals_in v b g (length lines)).gifts)
  unfolding totals_of
  gifts_shown p k =
      let z = ap (λ x. x.members) shown.0 in
      ap (λ x. sumℤ (balances_in x)) shown.1 ∙ balances_none l g p (omega arith) ∙ ap (λ x. neg_ℤ (pos x.gifts)) (sym shown.0)

-- Behind the header an image depends on its ledger alone.
same_body : (v : Version) (home : ℕ → ℕ) (r w : ℕ) (l : Ledger) → drop groups_at (encode_in v home r l) ≡ drop groups_at (encode_in v home w l)
unfolding encode_in
same_body v home r w l = refl

-- A history: its images and what is known from its book.
module _ (home : ℕ → ℕ) (made : ℕ → Version) (hm : Homes home) (h : List Call) (nm : Named h) where
  steps : List Step
  steps = (history home made h).0

  -- The book of the images' answers is that of the ledgers' answers.
  invariant : Invariant (length h) (run home made h) (heard home made h) steps
  unfolding heard steps
  invariant = subst (λ bs. Invariant (length h) (run home made h) (book h bs) (history home made h).0) (sym (oks_are home hm made h nm)) (history home made h).1

  image_known : (m r : ℕ) → r < replica_count → images home made h m r ≡ encode_in (versions home made h m r) home r (known home made h m r)
  image_known m r k = images_are home hm made h nm m r k ∙ ap (encode_in (versions home made h m r) home r) (invariant.worked m r)

  known_held : (m r : ℕ) → Holds (versions home made h m r) home (known home made h m r)
  known_held m r = subst (Holds (versions home made h m r) home) (invariant.worked m r) (shows home hm made h nm m r).held

  paid : (m r : ℕ) → Payers (known home made h m r)
  paid m r = payers home (known home made h m r) (known_held m r).good

  same_known : (m r k w : ℕ) → SameSteps (heard home made h m r) (heard home made h k w) → known home made h m r ≡ known home made h k w
  same_known m r k w f =
      sym (invariant.worked m r) ∙ same_steps home made h (heard home made h) steps invariant m r k w (λ p. (λ x. mem_in ((f p).0 (in_mem x)), λ x. mem_in ((f p).1 (in_mem x)))) ∙ invariant.worked k w

  checked_known : (m r : ℕ) → r < replica_count → CheckedIn (versions home made h m r) (images home made h m r)
  checked_known m r k = subst (CheckedIn (versions home made h m r)) (sym (image_known m r k)) (encode_checked home hm r k (known home made h m r) (known_held m r))

  -- A heard step is an action of the history.
  steps_acted : (m r : ℕ) (s : Step) → In s (heard home made h m r) → ByAction h s
  unfolding heard
  steps_acted m r s i =
      acted home made h (λ k w. subst (λ f. Holds (f k w) home (run home made h k w)) (versions_are home hm made h nm) (shows home hm made h nm k w).held) (history home made h).1.worked m r s
      (subst (λ bs. In s (book h bs m r)) (oks_are home hm made h nm) i)

  -- An image raised to v has the length of the later of its version and v.
  raised_length : (v : Version) (m r : ℕ) → r < replica_count → length (raised_images v home made h m r) ≡ image_size_in (later v (versions home made h m r))
  raised_length v m r k = ap length (raised_are home hm made h nm v m r k) ∙ encode_length (later v (versions home made h m r)) home r (run home made h m r)

  taken_current : (m r : ℕ) → r < replica_count → Taken current home made h m r
  taken_current m r k = raised_length current m r k ∙ ap image_size_in (later_current (versions home made h m r))

  taken_own : (m r : ℕ) → r < replica_count → Taken (versions home made h m r) home made h m r
  taken_own m r k = raised_length (versions home made h m r) m r k ∙ ap image_size_in (later_self (versions home made h m r))

  -- Raised to a version that takes it.
  module _ (v : Version) (m r : ℕ) (k : r < replica_count) (e : Taken v home made h m r) where
    later_is : later v (versions home made h m r) ≡ v
    later_is = same_size _ v (sym (raised_length v m r k) ∙ e)

    raised_run : raised_images v home made h m r ≡ encode_in v home r (run home made h m r)
    raised_run = raised_are home hm made h nm v m r k ∙ ap (λ w. encode_in w home r (run home made h m r)) later_is

    raised_known : raised_images v home made h m r ≡ encode_in v home r (known home made h m r)
    raised_known = raised_run ∙ ap (encode_in v home r) (invariant.worked m r)

    run_held : Holds v home (run home made h m r)
    run_held = subst (λ w. Holds w home (run home made h m r)) later_is (raised_held home hm made h nm v m r)

    held : Holds v home (known home made h m r)
    held = subst (Holds v home) (invariant.worked m r) run_held

    statement_known : (g : ℕ) (lines : List Line) → Stated v (raised_images v home made h m r) (known home made h m r) g lines
    statement_known g lines = subst (λ b. Stated v b (known home made h m r) g lines) (sym raised_known) (stated_encoded home hm r k (known home made h m r) held g lines)

    list_known : (g : ℕ) (cents : List ℕ) → Listed v (raised_images v home made h m r) (known home made h m r) g cents
    list_known g cents = subst (λ b. Listed v b (known home made h m r) g cents) (sym raised_known) (listed_encoded home hm r k (known home made h m r) held g cents)

    month_known : (g n : ℕ) (raws : List ℤ) → Dated v (raised_images v home made h m r) (known home made h m r) g n raws
    month_known g n raws = subst (λ b. Dated v b (known home made h m r) g n raws) (sym raised_known) (month_encoded home hm r k (known home made h m r) held g n raws)

    balances_known : (balances : List ℤ) → Gathered v (raised_images v home made h m r) (known home made h m r) balances
    balances_known balances = subst (λ b. Gathered v b (known home made h m r) balances) (sym raised_known) (balances_encoded home hm r k (known home made h m r) held balances)

    raised_checks : CheckedIn v (raised_images v home made h m r)
    raised_checks = subst (CheckedIn v) (sym raised_known) (encode_checked home hm r k (known home made h m r) held)

  same_raised : (v : Version) (m r k w : ℕ) → r < replica_count → w < replica_count → Taken v home made h m r → Taken v home made h k w → SameSteps (heard home made h m r) (heard home made h k w)
      → drop groups_at (raised_images v home made h m r) ≡ drop groups_at (raised_images v home made h k w)
  same_raised v m r k w r8 w8 p q f =
      ap (drop groups_at) (raised_known v m r r8 p) ∙ same_body v home r w (known home made h m r) ∙ ap (λ l. drop groups_at (encode_in v home w l)) (same_known m r k w f)
      ∙ sym (ap (drop groups_at) (raised_known v k w w8 q))

  merges_all : (v : Version) (m r k w : ℕ) → r < replica_count → w < replica_count → Taken v home made h m r → Taken v home made h k w
      → merge_images_answer_in v (raised_images v home made h m r) (raised_images v home made h k w) ≡ 0
  merges_all v m r k w r8 w8 p q =
      ap₂ (merge_images_answer_in v) (raised_run v m r r8 p) (raised_run v k w w8 q)
      ∙ merge_answer_lem home hm r w r8 w8 (run home made h m r) (run home made h k w) (run_held v m r r8 p) (run_held v k w w8 q)
      ∙ merge_accepted home made h (heard home made h) steps invariant m r k w

  raises_all : (v : Version) (m r : ℕ) (d : Bytes) → r < replica_count → older_by v (length (images home made h m r)) ≢ none → length d ≡ image_size_in v → raise_answer_in v (images home made h m r) d ≡ 0
  raises_all v m r d k ne e = go (older? v (versions home made h m r))
    where
      is : images home made h m r ≡ encode_in (versions home made h m r) home r (run home made h m r)
      is = images_are home hm made h nm m r k

      go : Older v (versions home made h m r) → raise_answer_in v (images home made h m r) d ≡ 0
      go (older p q) =
          ap (λ b. raise_answer_in v b d) is ∙ raise_older home hm r k (run home made h m r) (shows home hm made h nm m r).held v d p
          ∙ ap (λ n. cond (eqb n (image_size_in v)) 0 1) e ∙ ap (λ t. cond t 0 1) (eqb_self (image_size_in v))
      go (newer p q) = absurd (ne (ap (λ b. older_by v (length b)) is ∙ ap (older_by v) (encode_length (versions home made h m r) home r (run home made h m r)) ∙ p))

-- "Demand 3 is one claim about the whole list."
pub demand : (home : ℕ → ℕ) → Homes home → (made : ℕ → Version) (h : List Call) → Named h → Demand home made h
demand home hm made h nm =
    let i = invariant home made hm h nm in
    record {
      started = λ r b k n. (empty_accepted (made r) home hm b r k n, empty_is (made r) home hm b r k n ∙ sym (starts home made h r));
      worked = image_known home made hm h nm;
      raised_worked = raised_known home made hm h nm;
      current_takes = taken_current home made hm h nm;
      own_takes = taken_own home made hm h nm;
      raised_between = λ u v m r k. raised_between (images home made h m r) (checked_known home made hm h nm m r k) u v;
      stated = λ v m r g lines k t. statement_known home made hm h nm v m r k t g lines;
      zero_sum = λ v m r g lines k e.
          zero_shown v (raised_images v home made h m r) (known home made h m r) g lines (statement_known home made hm h nm v m r k (statement_sized v (raised_images v home made h m r) g (length lines) e) g lines) e (paid home made hm h nm m r);
      gift_sum = λ v m r g lines k e.
          gifts_shown v (raised_images v home made h m r) (known home made h m r) g lines (statement_known home made hm h nm v m r k (statement_sized v (raised_images v home made h m r) g (length lines) e) g lines) e (paid home made hm h nm m r);
      listed = λ v m r g cents k t. list_known home made hm h nm v m r k t g cents;
      cleared = λ v m r g lines cents k n e. cents_clear (raised_images v home made h m r) (raised_checks home made hm h nm v m r k (payments_sized v (raised_images v home made h m r) g (length cents) e)) g cents e lines n;
      dated = λ v m r g n raws k t. month_known home made hm h nm v m r k t g n raws;
      monthly = λ m r g k. monthly home (known home made h m r) (held home made hm h nm current m r k (taken_current home made hm h nm m r k)).good g;
      gathered = λ v m r balances k t. balances_known home made hm h nm v m r k t balances;
      as_stated = λ v m r g u balances lines k g16 u8 e. as_stated v (raised_images v home made h m r) balances e g u g16 u8 lines;
      same = same_raised home made hm h nm;
      stays = λ m k r c u e r8 le top p q.
          rw (decoded home hm made h nm k r r8)
          (stays home made h (heard home made h) (steps home made hm h nm) i m k r c u e le top (rw (decoded home hm made h nm m r r8) at p) q);
      placed = λ m r s x. i.early s (i.within m r s (mem_in x));
      acted = λ m r s x. steps_acted home made hm h nm m r s (mem_in x);
      single = λ m r k w c s u e f x y. i.single s u c e f (i.within m r s (mem_in x)) (i.within k w u (mem_in y));
      founded = λ m r k w g u x a b s t p q. i.founded s t g u a x b (i.within m r s (mem_in p)) (i.within k w t (mem_in q));
      checked = checked_known home made hm h nm;
      raised_checked = raised_checks home made hm h nm;
      merges_accepted = merges_all home made hm h nm;
      raises_accepted = raises_all home made hm h nm;
    }
