-- Kind 6 from what its callees ensure, over plain variables.
use Rattle.std.proofs.Common.{◌≡◌, sym, ap, ap₂, ◌∙◌, Bool, not, ℕ, ◌<◌, ◌≢◌, eqb, List, [], ◌∷◌}
use Rattle.format.specs.Layout.{expense_count, expense_place, no_expense, no_group, last_version}
use Rattle.format.specs.declared.ExpenseRecord.{ExpenseRecord}
use Rattle.format.specs.declared.GroupRecord.{GroupRecord}
use Rattle.format.specs.Bytes.{Bytes, expense_of, bytes_of, expense_part, splice}
use Rattle.rules.specs.Tests.{Check, first, eight_at}
use Rattle.rules.specs.Ledger.{member_in, nobody}
use Rattle.rules.specs.Action.{take_out}
use Rattle.rules.specs.Step.{states, payer_ack, edited, gives}
use Rattle.rules.specs.Refusal.{take_out_checks, checks}
use Rattle.images.specs.Meaning.{bits, meaning, meaning_in, counters_of, group_record_at}
use Rattle.images.specs.Image.{decode, Checked}
use Rattle.images.specs.Calls.{ruled, done}
use Rattle.rules.proofs.Basics.{Same, same, other, same?}
use Rattle.rules.proofs.Accepted.{pass}
use Rattle.kinds.specs.Edit.{edit, raised_record}
use Rattle.kinds.proofs.Seen.{there, version_left, counters_of_lem, seen, at_is, kept_deleted, kept_shares, edits}

abbrev pub plain : (absent : Bool) (payer : ℕ) (member : Bool) (has group actor version : ℕ) → List Check
plain t p m h n a v = (t, 10) ∷ (eqb p no_expense, 17) ∷ (not m, 11) ∷ (not (eqb h n), 22) ∷ (not (eqb p a), 18) ∷ (eqb v last_version, 27) ∷ []

-- The list of the values that the code looks at is the rules' list of the record.
pub listed : (e : ExpenseRecord) (f : ℕ → ℕ) (a n : ℕ) (t m : Bool) → t ≡ nobody f → m ≡ member_in f a
    → first (plain t e.payer m e.group n a e.version) ≡ first (take_out_checks (meaning e) f a n)
unfolding first meaning_in
listed e f a n t m et em = go (same? e.payer no_expense)
  where
    go : Same e.payer no_expense → first (plain t e.payer m e.group n a e.version) ≡ first (take_out_checks (meaning e) f a n)
    go (same p q) = rw (q, et)
    go (other p q) = rw (q, et, em)

pub not_last : (e : ExpenseRecord) (f : ℕ → ℕ) (a n : ℕ) → 0 ≡ first (take_out_checks (meaning e) f a n) → e.version ≢ last_version
not_last e f a n z = let passed = pass (take_out_checks (meaning e) f a n) tt (sym z) in version_left e (passed 1) (passed 5)

module _ (b : Bytes) (ok : Checked b) (a n c : ℕ) (k : c < expense_count) (e : ExpenseRecord) (p : e ≡ expense_of (expense_part b c))
    (g : GroupRecord) (q : g ≡ group_record_at (decode b) n) where
  pub ruled_is : first (take_out_checks (meaning e) (counters_of g) a n) ≡ ruled b (take_out a n c)
  unfolding ruled checks
  ruled_is = ap₂ (λ o f. first (take_out_checks o f a n)) (sym (seen b ok c k e p)) (counters_of_lem b n g q)

  pub takes : 0 ≡ first (take_out_checks (meaning e) (counters_of g) a n) → (w : ℕ) → w ≡ bits (payer_ack a (eight_at e.shares)) → (h : ExpenseRecord) → h ≡ raised_record e
      → (out : Bytes) → out ≡ splice b (expense_place c) (bytes_of (edit h no_group h.deleted w h.shares h.day)) → (0 ≡ ruled b (take_out a n c)) × (out ≡ done b (take_out a n c))
  unfolding gives
  takes z w ew h eh out y =
      let i : e.payer ≢ no_expense = there e (pass (take_out_checks (meaning e) (counters_of g) a n) tt (sym z) 1) in (
        z ∙ ruled_is,
        edits b ok c k e p i (take_out a n c) out (z ∙ ruled_is) h eh no_group h.deleted w h.shares h.day _ _ _ _
            (ap (λ x. states c (edited x no_group x.deleted (payer_ack a x.shares) x.shares x.day)) (at_is b ok c k e p i))
            (ap (λ x. x.deleted) eh ∙ kept_deleted b ok c k e p i) ew (ap (λ x. x.shares) eh ∙ kept_shares b ok c k e p i) (ap (λ x. x.day) eh) y,
      )
