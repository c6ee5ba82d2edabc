-- Kind 8 from what its callees ensure, over plain variables.
use Rattle.std.proofs.Common.{◌≡◌, refl, sym, ap, ap₂, ◌∙◌, Bool, true, not, ◌&&◌, ℕ, ◌<◌, ◌≢◌, eqb, List, [], ◌∷◌}
use Rattle.format.specs.Layout.{expense_count, expense_place, no_expense, no_group, last_version}
use Rattle.format.specs.declared.ExpenseRecord.{ExpenseRecord}
use Rattle.format.specs.declared.GroupRecord.{GroupRecord}
use Rattle.format.specs.Bytes.{Bytes, expense_of, bytes_of, expense_part, splice}
use Rattle.rules.specs.Tests.{Check, first}
use Rattle.rules.specs.Ledger.{member_in}
use Rattle.rules.specs.Action.{delete}
use Rattle.rules.specs.Step.{states, edited, gives}
use Rattle.rules.specs.Refusal.{delete_checks, checks}
use Rattle.images.specs.Meaning.{present, meaning, meaning_in, counters_of, group_record_at}
use Rattle.images.specs.Image.{decode, Checked}
use Rattle.images.specs.Calls.{ruled, done}
use Rattle.rules.proofs.Basics.{Same, same, other, same?}
use Rattle.rules.proofs.Accepted.{pass}
use Rattle.kinds.specs.Edit.{edit, raised_record}
use Rattle.kinds.proofs.Seen.{there, version_left, seen, seen_counters, at_is, kept_acks, kept_shares, edits}

abbrev pub plain : (payer actor deleted : ℕ) (barred : Bool) (version : ℕ) → List Check
plain p a d t v = (eqb p no_expense, 17) ∷ (not (eqb p a), 18) ∷ (eqb d 1, 24) ∷ (t, 11) ∷ (eqb v last_version, 27) ∷ []

-- The list of the values that the code looks at is the rules' list of the record.
pub listed : (e : ExpenseRecord) (f : ℕ → ℕ) (a : ℕ) (m : Bool) → m ≡ member_in f a
    → first (plain e.payer a e.deleted (not (eqb e.group no_group) && not m) e.version) ≡ first (delete_checks (meaning e) f a)
unfolding first meaning_in
listed e f a m em = go (same? e.payer no_expense)
  where
    go : Same e.payer no_expense → first (plain e.payer a e.deleted (not (eqb e.group no_group) && not m) e.version) ≡ first (delete_checks (meaning e) f a)
    go (same p q) = rw q
    go (other p q) = rw (q, em)

pub not_last : (e : ExpenseRecord) (f : ℕ → ℕ) (a : ℕ) → 0 ≡ first (delete_checks (meaning e) f a) → e.version ≢ last_version
not_last e f a z = let passed = pass (delete_checks (meaning e) f a) tt (sym z) in version_left e (passed 0) (passed 4)

module _ (b : Bytes) (ok : Checked b) (a c : ℕ) (k : c < expense_count) (e : ExpenseRecord) (p : e ≡ expense_of (expense_part b c))
    (g : GroupRecord) (q : g ≡ group_record_at (decode b) e.group) where
  pub ruled_is : first (delete_checks (meaning e) (counters_of g) a) ≡ ruled b (delete a c)
  unfolding ruled checks
  ruled_is = sym (ap₂ (λ o f. first (delete_checks o f a)) (seen b ok c k e p) (seen_counters b ok c k e p g q))

  pub deletes : 0 ≡ first (delete_checks (meaning e) (counters_of g) a) → (h : ExpenseRecord) → h ≡ raised_record e
      → (out : Bytes) → out ≡ splice b (expense_place c) (bytes_of (edit h h.group 1 h.acknowledged h.shares h.day)) → (0 ≡ ruled b (delete a c)) × (out ≡ done b (delete a c))
  unfolding gives
  deletes z h eh out w =
      let i : e.payer ≢ no_expense = there e (pass (delete_checks (meaning e) (counters_of g) a) tt (sym z) 0) in
      let gi : gives (delete a c) (decode b) ≡ states c (edited (present e) h.group true (present e).acknowledged (present e).shares (present e).day) =
      ap (λ x. states c (edited x x.group true x.acknowledged x.shares x.day)) (at_is b ok c k e p i)
      ∙ ap (λ n. states c (edited (present e) n true (present e).acknowledged (present e).shares (present e).day)) (sym (ap (λ x. x.group) eh)) in (
        z ∙ ruled_is,
        edits b ok c k e p i (delete a c) out (z ∙ ruled_is) h eh h.group 1 h.acknowledged h.shares h.day _ _ _ _ gi
            refl (ap (λ x. x.acknowledged) eh ∙ kept_acks b ok c k e p i) (ap (λ x. x.shares) eh ∙ kept_shares b ok c k e p i) (ap (λ x. x.day) eh) w,
      )
