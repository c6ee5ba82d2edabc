-- Kind 5 from what its callees ensure, over plain variables.
use Rattle.std.proofs.Common.{◌≡◌, sym, ap, ap₂, ◌∙◌, Bool, not, ℕ, ◌<◌, ◌≢◌, eqb, List, [], ◌∷◌}
use Rattle.format.specs.Layout.{expense_count, expense_place, no_expense, no_group, last_version}
use Rattle.format.specs.declared.ExpenseRecord.{ExpenseRecord}
use Rattle.format.specs.declared.GroupRecord.{GroupRecord}
use Rattle.format.specs.Bytes.{Bytes, expense_of, bytes_of, expense_part, splice}
use Rattle.rules.specs.Tests.{Check, first, eight_at}
use Rattle.rules.specs.Ledger.{member_in, nobody}
use Rattle.rules.specs.Action.{put_in}
use Rattle.rules.specs.Step.{states, edited, gives}
use Rattle.rules.specs.Refusal.{stranger_in, put_in_checks, checks}
use Rattle.images.specs.Meaning.{meaning, meaning_in, counters_of, group_record_at}
use Rattle.images.specs.Image.{decode, Checked}
use Rattle.images.specs.Calls.{ruled, done}
use Rattle.rules.proofs.Basics.{Same, same, other, same?}
use Rattle.rules.proofs.Accepted.{pass}
use Rattle.kinds.specs.Edit.{edit, raised_record}
use Rattle.kinds.proofs.Seen.{there, version_left, counters_of_lem, seen, at_is, kept_deleted, kept_acks, kept_shares, edits}

abbrev pub plain : (absent : Bool) (payer : ℕ) (member : Bool) (actor group : ℕ) (strange : Bool) (version : ℕ) → List Check
plain t p m a g s v = (t, 10) ∷ (eqb p no_expense, 17) ∷ (not m, 11) ∷ (not (eqb p a), 18) ∷ (not (eqb g no_group), 21) ∷ (s, 23) ∷ (eqb v last_version, 27) ∷ []

-- The list of the values that the code looks at is the rules' list of the record.
pub listed : (e : ExpenseRecord) (f : ℕ → ℕ) (a : ℕ) (t m s : Bool) → t ≡ nobody f → m ≡ member_in f a → s ≡ stranger_in f (eight_at e.shares)
    → first (plain t e.payer m a e.group s e.version) ≡ first (put_in_checks (meaning e) f a)
unfolding first meaning_in
listed e f a t m s et em es = go (same? e.payer no_expense)
  where
    go : Same e.payer no_expense → first (plain t e.payer m a e.group s e.version) ≡ first (put_in_checks (meaning e) f a)
    go (same p q) = rw (q, et)
    go (other p q) = rw (q, et, em, es)

pub not_last : (e : ExpenseRecord) (f : ℕ → ℕ) (a : ℕ) → 0 ≡ first (put_in_checks (meaning e) f a) → e.version ≢ last_version
not_last e f a z = let passed = pass (put_in_checks (meaning e) f a) tt (sym z) in version_left e (passed 1) (passed 6)

module _ (b : Bytes) (ok : Checked b) (a n c : ℕ) (k : c < expense_count) (e : ExpenseRecord) (p : e ≡ expense_of (expense_part b c))
    (g : GroupRecord) (q : g ≡ group_record_at (decode b) n) where
  pub ruled_is : first (put_in_checks (meaning e) (counters_of g) a) ≡ ruled b (put_in a n c)
  unfolding ruled checks
  ruled_is = ap₂ (λ o f. first (put_in_checks o f a)) (sym (seen b ok c k e p)) (counters_of_lem b n g q)

  pub puts : 0 ≡ first (put_in_checks (meaning e) (counters_of g) a) → (h : ExpenseRecord) → h ≡ raised_record e
      → (out : Bytes) → out ≡ splice b (expense_place c) (bytes_of (edit h n h.deleted h.acknowledged h.shares h.day)) → (0 ≡ ruled b (put_in a n c)) × (out ≡ done b (put_in a n c))
  unfolding gives
  puts z h eh out w =
      let i : e.payer ≢ no_expense = there e (pass (put_in_checks (meaning e) (counters_of g) a) tt (sym z) 1) in (
        z ∙ ruled_is,
        edits b ok c k e p i (put_in a n c) out (z ∙ ruled_is) h eh n h.deleted h.acknowledged h.shares h.day _ _ _ _
            (ap (λ x. states c (edited x n x.deleted x.acknowledged x.shares x.day)) (at_is b ok c k e p i))
            (ap (λ x. x.deleted) eh ∙ kept_deleted b ok c k e p i) (ap (λ x. x.acknowledged) eh ∙ kept_acks b ok c k e p i) (ap (λ x. x.shares) eh ∙ kept_shares b ok c k e p i) (ap (λ x. x.day) eh) w,
      )
