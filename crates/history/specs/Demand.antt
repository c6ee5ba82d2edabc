-- Demand 3, whole: what holds of every history, at every moment and on each of the eight replicas. "Whatever demand 3 compares is compared after raising."
-- It rests on History (images, the books) and on the rules' definitions: what steps give (Heard), what an image holds (Image), what a statement shows, who pays whom, a month's figures and those of all
-- groups (Balance, Payments, Cleared, Month, Together, Calls).
use Rattle.std.specs.Prelude.{◌≡◌, true, false, ◌⊎◌, ◌≢◌, ◌↔◌, ℕ, ◌≤◌, ◌<◌, ℤ, pos, neg_ℤ, length, drop}
use Rattle.std.proofs.Math.Option.{Option, none, some}
use mathlib.Core.List.{List, [], ◌∷◌, Memᴰ}
use Rattle.format.specs.Layout.{Version, v1, v2, current, user_count, replica_count, groups_at, group_count, image_size_in, payments_size, balances_size, month_count, undated}
use Rattle.format.specs.Bytes.{Bytes}
use Rattle.format.specs.declared.Line.{Line}
use Rattle.rules.specs.Ledger.{Expense, Ledger, group_absent}
use Rattle.rules.specs.Balance.{members, lines_of, totals_of, balances_in, sumℤ}
use Rattle.rules.specs.Month.{month_raws, Monthly}
use Rattle.rules.specs.Together.{all_balances}
use Rattle.rules.specs.Payments.{row_by_row}
use Rattle.rules.specs.Cleared.{table_of, Cleared}
use Rattle.rules.specs.Step.{founds, states}
use Rattle.rules.specs.Heard.{worked_out}
use Rattle.rules.specs.Tests.{eight_of}
use Rattle.images.specs.Image.{encode_in, decode_in, CheckedIn}
use Rattle.images.specs.Calls.{empty_answer_in, empty_image_in, merge_images_answer_in, statement_lines_in, statement_totals_in, refused_totals, payments_answer_in, payments_in, payments_cents_in, month_answer_in, month_raws_in, balances_answer_in, balances_left_in, older_by, raised_in, raise_answer_in}
use Rattle.images.specs.Together.{AsStated}
use Rattle.history.specs.History.{Call, act, merge, raise, images, versions, Step, givens, places, heard}

-- The replicas that calls name are among the eight.
abbrev pub Named : List Call → Type 0
Named [] = Unit {0}
Named (act v r x ∷ h) = (r < replica_count) × Named h
Named (merge v r f k w ∷ h) = (r < replica_count) × (f < replica_count) × Named h
Named (raise v r d ∷ h) = (r < replica_count) × Named h

-- "Worked out from a van's steps": the groups and expenses of moment m on replica r.
abbrev pub known : (home : ℕ → ℕ) (made : ℕ → Version) → List Call → (moment replica : ℕ) → Ledger
known home made h m r = worked_out (givens (heard home made h m r))

-- An image "after raising", to version v; and that the library of version v then takes it, by its length: it is of no later version.
abbrev pub raised_images : Version → (home : ℕ → ℕ) (made : ℕ → Version) → List Call → (moment replica : ℕ) → Bytes
raised_images v home made h m r = raised_in v (images home made h m r)

abbrev pub Taken : Version → (home : ℕ → ℕ) (made : ℕ → Version) → List Call → (moment replica : ℕ) → Type 0
Taken v home made h m r = length (raised_images v home made h m r) ≡ image_size_in v

-- "Two vans have heard the same accepted actions when their steps are the same": as sets of places in the list of calls.
abbrev pub SameSteps : List Step → List Step → Type 0
SameSteps s t = (p : ℕ) → Memᴰ p (places s) ↔ Memᴰ p (places t)

-- A heard step is an action of the history, made with the library of a version: "A heard step made in an older version leaves its cost undated."
pub record ByAction (h : List Call) (s : Step) : Type 0 where
  pub library : Version
  pub replica : ℕ
  pub bytes : Bytes
  pub rest : List Call
  pub call : drop s.place h ≡ act library replica bytes ∷ rest
  pub dayless : (library ≡ v1) ⊎ (library ≡ v2) → (c : ℕ) (e : Expense) → s.given ≡ states c e → e.day ≡ undated

-- User u's acknowledgement of the expense e is still there: it is of this version and has the bit, or a later version is held.
unfoldable pub Kept : ℕ → Expense → Option Expense → Type 0
Kept u e none = ⊥
Kept u e (some f) = (e.version < f.version) ⊎ ((e.version ≡ f.version) × (f.acknowledged u ≡ true))

-- "Figures follow from these crews and costs as under Balances": the statement of group g from the image b of version v, with these lines lent, shows those of
-- the ledger l. An absent group (any number) and a wrong number of lines are refused, 10 first, and leave the lines.
pub record Stated (v : Version) (b : Bytes) (l : Ledger) (g : ℕ) (lines : List Line) : Type 0 where
  pub totals : group_absent l g ≡ false → length lines ≡ user_count → statement_totals_in v b g (length lines) ≡ totals_of l g
  pub filled : group_absent l g ≡ false → length lines ≡ user_count → statement_lines_in v b g lines ≡ lines_of l g
  pub absent : group_absent l g ≡ true → (statement_totals_in v b g (length lines) ≡ refused_totals 10) × (statement_lines_in v b g lines ≡ lines)
  pub miscounted : group_absent l g ≡ false → length lines ≢ user_count → (statement_totals_in v b g (length lines) ≡ refused_totals 32) × (statement_lines_in v b g lines ≡ lines)

-- Document 02, A1: the list of who pays whom of group g from the image b of version v, with these numbers lent, is that of the ledger l.
-- An absent group, another count than 64 and a group with no member are refused, in this order, and leave the numbers.
pub record Listed (v : Version) (b : Bytes) (l : Ledger) (g : ℕ) (cents : List ℕ) : Type 0 where
  pub written : group_absent l g ≡ false → length cents ≡ payments_size → members l g ≢ 0 → (payments_answer_in v b g (length cents) ≡ 0) × (payments_cents_in v b g cents ≡ row_by_row (payments_in l g))
  pub absent : group_absent l g ≡ true → (payments_answer_in v b g (length cents) ≡ 10) × (payments_cents_in v b g cents ≡ cents)
  pub miscounted : group_absent l g ≡ false → length cents ≢ payments_size → (payments_answer_in v b g (length cents) ≡ 32) × (payments_cents_in v b g cents ≡ cents)
  pub memberless : group_absent l g ≡ false → length cents ≡ payments_size → members l g ≡ 0 → (payments_answer_in v b g (length cents) ≡ 33) × (payments_cents_in v b g cents ≡ cents)

-- Document 02, A6: the month statement of group g and month m from the image b of version v, with these numbers lent, is that of the ledger l.
-- An absent group, another count than eight and a month above 1199 are refused, in this order, and leave the numbers.
pub record Dated (v : Version) (b : Bytes) (l : Ledger) (g m : ℕ) (raws : List ℤ) : Type 0 where
  pub written : group_absent l g ≡ false → length raws ≡ user_count → m < month_count → (month_answer_in v b g m (length raws) ≡ 0) × (month_raws_in v b g m raws ≡ month_raws l g m)
  pub absent : group_absent l g ≡ true → (month_answer_in v b g m (length raws) ≡ 10) × (month_raws_in v b g m raws ≡ raws)
  pub miscounted : group_absent l g ≡ false → length raws ≢ user_count → (month_answer_in v b g m (length raws) ≡ 32) × (month_raws_in v b g m raws ≡ raws)
  pub beyond : group_absent l g ≡ false → length raws ≡ user_count → month_count ≤ m → (month_answer_in v b g m (length raws) ≡ 35) × (month_raws_in v b g m raws ≡ raws)

-- Document 02, A8: the balances of all groups from the image b of version v, with these numbers lent, are those of the ledger l. Another count than 128 is refused
-- and leaves the numbers.
pub record Gathered (v : Version) (b : Bytes) (l : Ledger) (balances : List ℤ) : Type 0 where
  pub written : length balances ≡ balances_size → (balances_answer_in v b (length balances) ≡ 0) × (balances_left_in v b balances ≡ all_balances l)
  pub miscounted : length balances ≢ balances_size → (balances_answer_in v b (length balances) ≡ 32) × (balances_left_in v b balances ≡ balances)

-- "Demand 3 is one claim about the whole list": of calls h, over one home table, from empty images of these versions; any replica may be at any version at any
-- time. What the library of a version answers and shows, it does for every image that it takes after raising; the current one takes all.
pub record Demand (home : ℕ → ℕ) (made : ℕ → Version) (h : List Call) : Type 0 where
  -- "eight empty images": what stands at the start on a replica is what the empty image's call makes of any buffer of the right length
  pub started : (r : ℕ) (b : Bytes) → r < replica_count → length b ≡ image_size_in (made r)
      → (empty_answer_in (made r) b r (eight_of home) ≡ 0) × (empty_image_in (made r) b r (eight_of home) ≡ images home made h 0 r)
  -- an image, of whichever version, is, byte for byte, that of the groups and expenses worked out from the steps heard
  pub worked : (m r : ℕ) → r < replica_count → images home made h m r ≡ encode_in (versions home made h m r) home r (known home made h m r)
  -- and so it is after raising, which the current version takes always, and each version its own images
  pub raised_worked : (v : Version) (m r : ℕ) → r < replica_count → Taken v home made h m r → raised_images v home made h m r ≡ encode_in v home r (known home made h m r)
  pub current_takes : (m r : ℕ) → r < replica_count → Taken current home made h m r
  pub own_takes : (m r : ℕ) → r < replica_count → Taken (versions home made h m r) home made h m r
  -- raised by way of a version u, if v takes it from there, or at once: the same image
  pub raised_between : (u v : Version) (m r : ℕ) → r < replica_count → length (raised_in v (raised_images u home made h m r)) ≡ image_size_in v
      → raised_in v (raised_images u home made h m r) ≡ raised_images v home made h m r
  -- the statement of each group, present or not, shows the figures of these
  pub stated : (v : Version) (m r g : ℕ) (lines : List Line) → r < replica_count → Taken v home made h m r → Stated v (raised_images v home made h m r) (known home made h m r) g lines
  -- in a statement's lines the balances sum to zero with a member left, and else to minus the total gifts that it shows
  pub zero_sum : (v : Version) (m r g : ℕ) (lines : List Line) → r < replica_count → (statement_totals_in v (raised_images v home made h m r) g (length lines)).answer ≡ 0
      → 0 < (statement_totals_in v (raised_images v home made h m r) g (length lines)).members → sumℤ (balances_in (statement_lines_in v (raised_images v home made h m r) g lines)) ≡ pos 0
  pub gift_sum : (v : Version) (m r g : ℕ) (lines : List Line) → r < replica_count → (statement_totals_in v (raised_images v home made h m r) g (length lines)).answer ≡ 0
      → (statement_totals_in v (raised_images v home made h m r) g (length lines)).members ≡ 0
      → sumℤ (balances_in (statement_lines_in v (raised_images v home made h m r) g lines)) ≡ neg_ℤ (pos (statement_totals_in v (raised_images v home made h m r) g (length lines)).gifts)
  -- the list of who pays whom is that of these, and a list that is written clears the balances that the statement shows, in so few payments
  pub listed : (v : Version) (m r g : ℕ) (cents : List ℕ) → r < replica_count → Taken v home made h m r → Listed v (raised_images v home made h m r) (known home made h m r) g cents
  pub cleared : (v : Version) (m r g : ℕ) (lines : List Line) (cents : List ℕ) → r < replica_count → length lines ≡ user_count
      → payments_answer_in v (raised_images v home made h m r) g (length cents) ≡ 0
      → Cleared (balances_in (statement_lines_in v (raised_images v home made h m r) g lines)) (table_of user_count user_count (payments_cents_in v (raised_images v home made h m r) g cents))
  -- a month's statement is that of these; its raws sum to zero, and those of all months, with what has no day, are the statement's
  pub dated : (v : Version) (m r g month : ℕ) (raws : List ℤ) → r < replica_count → Taken v home made h m r → Dated v (raised_images v home made h m r) (known home made h m r) g month raws
  pub monthly : (m r g : ℕ) → r < replica_count → Monthly (known home made h m r) g
  -- the balances of all groups together are those of these, and each is the one in the line that the group's own statement shows, or 0 where it is absent
  pub gathered : (v : Version) (m r : ℕ) (balances : List ℤ) → r < replica_count → Taken v home made h m r → Gathered v (raised_images v home made h m r) (known home made h m r) balances
  pub as_stated : (v : Version) (m r g u : ℕ) (balances : List ℤ) (lines : List Line) → r < replica_count → g < group_count → u < user_count
      → balances_answer_in v (raised_images v home made h m r) (length balances) ≡ 0
      → AsStated v (raised_images v home made h m r) (balances_left_in v (raised_images v home made h m r) balances) g u lines
  -- the same steps, at any two moments and on any two replicas: the same groups and expenses, byte for byte
  pub same : (v : Version) (m r k w : ℕ) → r < replica_count → w < replica_count → Taken v home made h m r → Taken v home made h k w → SameSteps (heard home made h m r) (heard home made h k w)
      → drop groups_at (raised_images v home made h m r) ≡ drop groups_at (raised_images v home made h k w)
  -- an acknowledgement on a replica is in all its later images, of whichever version, until it holds a later version of the expense
  pub stays : (m k r c u : ℕ) (e : Expense) → r < replica_count → m ≤ k → k ≤ length h → (decode_in (versions home made h m r) (images home made h m r)).expense c ≡ some e → e.acknowledged u ≡ true
      → Kept u e ((decode_in (versions home made h k r) (images home made h k r)).expense c)
  -- a heard step is one of the history, an action's, and "there is one such step": of each version of an expense, and one founding of a group
  pub placed : (m r : ℕ) (s : Step) → Memᴰ s (heard home made h m r) → s.place < length h
  pub acted : (m r : ℕ) (s : Step) → Memᴰ s (heard home made h m r) → ByAction h s
  pub single : (m r k w c : ℕ) (s t : Step) (e f : Expense) → Memᴰ s (heard home made h m r) → Memᴰ t (heard home made h k w)
      → s.given ≡ states c e → t.given ≡ states c f → e.version ≡ f.version → s ≡ t
  pub founded : (m r k w g u x i j : ℕ) (s t : Step) → Memᴰ s (heard home made h m r) → Memᴰ t (heard home made h k w)
      → s.given ≡ founds g u i → t.given ≡ founds g x j → s ≡ t
  -- every image passes the check of its version, and after raising that of the version it is raised to
  pub checked : (m r : ℕ) → r < replica_count → CheckedIn (versions home made h m r) (images home made h m r)
  pub raised_checked : (v : Version) (m r : ℕ) → r < replica_count → Taken v home made h m r → CheckedIn v (raised_images v home made h m r)
  -- a merge of any two that ever stood is accepted by the library that takes both
  pub merges_accepted : (v : Version) (m r k w : ℕ) → r < replica_count → w < replica_count → Taken v home made h m r → Taken v home made h k w
      → merge_images_answer_in v (raised_images v home made h m r) (raised_images v home made h k w) ≡ 0
  -- and so is the raising of any older one into a buffer of the new size
  pub raises_accepted : (v : Version) (m r : ℕ) (d : Bytes) → r < replica_count → older_by v (length (images home made h m r)) ≢ none → length d ≡ image_size_in v
      → raise_answer_in v (images home made h m r) d ≡ 0
