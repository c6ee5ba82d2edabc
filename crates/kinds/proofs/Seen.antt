-- What code sees of a checked image, an expense's record and a group's counters, and the two ends of every kind: refused or written.
use Rattle.std.proofs.Common.{Result, false, true≢false, IsErrAnd, ◌≡◌, refl, sym, ap, ◌∙◌, Bool, true, ◌&&◌, List, ◌≢◌, ℕ, ◌≤◌, ◌<◌, ltb, set, eq-eqb, ne_eqb}
use Rattle.std.proofs.Math.Option.{some}
use Rattle.format.specs.Layout.{current, expense_size, expense_count, expense_place, group_count, group_place, no_expense, most_total, last_version}
use Rattle.format.specs.declared.ExpenseRecord.{ExpenseRecord}
use Rattle.format.specs.declared.GroupRecord.{GroupRecord}
use Rattle.format.specs.Bytes.{Bytes, expense_of, bytes_of, rule_told_in, group_bytes_of, expense_part, splice}
use Rattle.format.proofs.Laws.{told_again}
use Rattle.format.proofs.Round.{same_e}
use Rattle.refusals.specs.declared.Refusal.{Refusal}
use Rattle.refusals.specs.Numbers as refusals
use Rattle.refusals.specs.Numbers.{code}
use Rattle.refusals.proofs.AboveZero.{above_zero}
use Rattle.refusals.proofs.PassedOn.{passed_on}
use Rattle.rules.specs.Tests.{number, sum8, eight_at, eight_of}
use Rattle.rules.specs.Ledger.{Expense, absent_option, or_blank, at}
use Rattle.rules.specs.Sound.{sound_in}
use Rattle.rules.specs.Action.{Action}
use Rattle.rules.specs.Refusal.{at_last_version}
use Rattle.rules.specs.Step.{founds, counts, states, apply, edited, gives}
use Rattle.images.specs.Meaning.{bits, present, meaning, meaning_in, record_of, counters_of, group_record_at, sound_record, sound_record_in}
use Rattle.images.specs.Image.{encode, decode, home_of, replica_of, Checked, sound_part_in}
use Rattle.images.specs.Calls.{acted, ruled, done, acted_in}
use Rattle.rules.proofs.Basics.{Same, same, other, same?, eqb_true, eqb_false, and_right}
use Rattle.rules.proofs.Accepted.{test}
use Rattle.rules.proofs.Sound.{leb_le}
use Rattle.images.proofs.Codec.{eight_back}
use Rattle.images.proofs.Round.{expense_is, record_at, sound_at, read_acks, part_octets, counters_eight}
use Rattle.images.proofs.Write.{write_states, write_counts, write_founds}
use Rattle.kinds.specs.Edit.{edit, raised_record}

pub some_of : (e : ExpenseRecord) → e.payer ≢ no_expense → meaning e ≡ some (present e)
unfolding meaning_in
some_of e n = rw (ne_eqb e.payer no_expense n)

-- An expense that is not absent has a payer, and one that is not at its last version has room for one more.
pub there : (e : ExpenseRecord) → absent_option (meaning e) ≡ false → e.payer ≢ no_expense
unfolding meaning_in
there e h z = true≢false (rw (eq-eqb e.payer no_expense z) at h)

pub version_left : (e : ExpenseRecord) → absent_option (meaning e) ≡ false → at_last_version (or_blank (meaning e)) ≡ false → e.version ≢ last_version
version_left e h k = eqb_false e.version last_version (ap (λ o. at_last_version (or_blank o)) (sym (some_of e (there e h))) ∙ k)

pub counters_of_lem : (b : Bytes) (n : ℕ) (g : GroupRecord) → g ≡ group_record_at (decode b) n → counters_of g ≡ (decode b).counter n
counters_of_lem b n g p = ap counters_of p ∙ eight_back ((decode b).counter n) (counters_eight current b n)

-- Nothing is written when refused.
pub refused : (b : Bytes) (x : Action) (r : ℕ) → r ≡ ruled b x → r ≢ 0 → b ≡ done b x
unfolding done
refused b x r p n = rw (ne_eqb (ruled b x) 0 (λ z. n (p ∙ z)))

-- A refusal passed on by `?`, whose number is the action's answer.
pub refuses : (b : Bytes) (x : Action) (d : Result (Unit {0}) Refusal) (e : Refusal) → IsErrAnd d (λ y. y ≡ e) → refusals.number e ≡ ruled b x → (code d ≡ ruled b x) × (b ≡ done b x)
refuses b x d e h p = (passed_on d e h ∙ p, refused b x (refusals.number e) p (above_zero e))

pub accepted : (b : Bytes) (x : Action) (out : Bytes) → 0 ≡ ruled b x → out ≡ acted b x → out ≡ done b x
unfolding done
accepted b x out z q = q ∙ rw (eq-eqb (ruled b x) 0 (sym z))

-- A kind that gives a counter: the group as code has it, with that counter set.
module _ (b : Bytes) (ok : Checked b) (x : Action) (out : Bytes) (z : 0 ≡ ruled b x) where
  pub counted : (n u m v : ℕ) → n < group_count → u < 8 → gives x (decode b) ≡ counts n u m → v ≡ m → (g new : GroupRecord) → g ≡ group_record_at (decode b) n
      → (new.counters ≡ set g.counters u v) × (new.rule ≡ g.rule) → out ≡ splice b (group_place n) (group_bytes_of new) → out ≡ done b x
  unfolding acted_in
  counted n u m v kn ku gi ev g new q en e =
      let list : new.counters ≡ set (eight_of ((decode b).counter n)) u m = en.0 ∙ (λ i. set (q i).counters u (ev i)) in
      accepted b x out z (e ∙ write_counts b ok n u m kn ku new list (ap (rule_told_in current) (en.1 ∙ ap (λ t. t.rule) q) ∙ told_again current ((decode b).rule n)) ∙ ap (λ y. encode (home_of b) (replica_of b) (apply y (decode b))) (sym gi))

  -- The kind that founds a group: the group as code has it, with its first counter and its rule.
  pub founded : (n u k : ℕ) → n < group_count → u < 8 → gives x (decode b) ≡ founds n u k → (g new : GroupRecord) → g ≡ group_record_at (decode b) n
      → (new.counters ≡ set g.counters u 1) × (new.rule ≡ k) → out ≡ splice b (group_place n) (group_bytes_of new) → out ≡ done b x
  unfolding acted_in
  founded n u k kn ku gi g new q en e =
      let list : new.counters ≡ set (eight_of ((decode b).counter n)) u 1 = en.0 ∙ (λ i. set (q i).counters u 1) in
      accepted b x out z (e ∙ write_founds b ok n u k kn ku new list (ap (rule_told_in current) en.1) ∙ ap (λ y. encode (home_of b) (replica_of b) (apply y (decode b))) (sym gi))

  -- A kind that states an expense.
  pub stated : (c : ℕ) → c < expense_count → (s : Expense) → gives x (decode b) ≡ states c s → (f : ExpenseRecord) → f ≡ record_of (some s)
      → out ≡ splice b (expense_place c) (bytes_of f) → out ≡ done b x
  unfolding acted_in
  stated c k s gi f q e =
      accepted b x out z (e ∙ write_states b ok c k s f q ∙ ap (λ y. encode (home_of b) (replica_of b) (apply y (decode b))) (sym gi))

-- The expense of a number, as code has it: its record e.
module _ (b : Bytes) (ok : Checked b) (c : ℕ) (k : c < expense_count) (e : ExpenseRecord) (p : e ≡ expense_of (expense_part b c)) where
  pub seen : (decode b).expense c ≡ meaning e
  seen = expense_is b ok c k ∙ ap meaning (sym p)

  sound_here : sound_record (home_of b e.payer) ((decode b).counter e.group) c e ≡ true
  unfolding sound_part_in
  sound_here = ap (λ t. sound_record (home_of b t.payer) ((decode b).counter t.group) c t) p ∙ sound_at b ok c k

  group_of : (or_blank (meaning e)).group ≡ e.group
  unfolding meaning_in sound_record_in
  group_of = go (same? e.payer no_expense)
    where
      go : Same e.payer no_expense → (or_blank (meaning e)).group ≡ e.group
      go (same q t) = let z = test _ (rw t at sound_here) in rw t (sym (eqb_true e.group 0 (z 0)))
      go (other q t) = rw t

  -- The counters of the group that it is in.
  pub seen_counters : (g : GroupRecord) → g ≡ group_record_at (decode b) e.group → (decode b).counter (at (decode b) c).group ≡ counters_of g
  seen_counters g q = ap (λ o. (decode b).counter (or_blank o).group) seen ∙ ap (decode b).counter group_of ∙ sym (counters_of_lem b e.group g q)

  pub acks_byte : e.acknowledged < 256
  acks_byte = rw p (read_acks (expense_part b c) (part_octets expense_size (expense_place c) b ok.octets))

  -- A present one: its record is the record of what it means, and its shares are within the limit.
  module _ (n : e.payer ≢ no_expense) where
    pub present_is : record_of (some (present e)) ≡ e
    present_is = ap record_of (sym (some_of e n)) ∙ ap (λ t. record_of (meaning t)) p ∙ record_at b ok c k ∙ sym p

    pub at_is : at (decode b) c ≡ present e
    at_is = ap or_blank (seen ∙ some_of e n)

    pub total_limit : sum8 (eight_at e.shares) ≤ most_total
    unfolding sound_record_in
    total_limit =
        let z : (ltb e.deleted 2 && sound_in (home_of b e.payer) ((decode b).counter e.group) c (present e)) ≡ true = rw (ne_eqb e.payer no_expense n) at sound_here in
        leb_le (sum8 (eight_at e.shares)) most_total (test _ (and_right (ltb e.deleted 2) _ z) 4)

    -- What an edit keeps of it.
    pub kept_deleted : e.deleted ≡ number (present e).deleted
    unfolding record_of
    kept_deleted = sym (ap (λ t. t.deleted) present_is)

    pub kept_acks : e.acknowledged ≡ bits (present e).acknowledged
    unfolding record_of
    kept_acks = sym (ap (λ t. t.acknowledged) present_is)

    pub kept_shares : e.shares ≡ eight_of (present e).shares
    unfolding record_of
    kept_shares = sym (ap (λ t. t.shares) present_is)

    -- A kind that edits it: the raised record m with the edit's fields is what the kind states.
    pub edits : (x : Action) (out : Bytes) → 0 ≡ ruled b x → (m : ExpenseRecord) → m ≡ raised_record e → (g d w : ℕ) (s : List ℕ) (y : ℕ) (D : Bool) (W : ℕ → Bool) (S : ℕ → ℕ) (Y : ℕ)
        → gives x (decode b) ≡ states c (edited (present e) g D W S Y) → d ≡ number D → w ≡ bits W → s ≡ eight_of S → y ≡ Y
        → out ≡ splice b (expense_place c) (bytes_of (edit m g d w s y)) → out ≡ done b x
    unfolding record_of
    edits x out z m q g d w s y D W S Y gi ed ew es ey =
        stated b ok x out z c k (edited (present e) g D W S Y) gi (edit m g d w s y) (same_e (ap (λ t. t.payer) q) refl ed ew (ap (λ t. t.version) q) es ey)
