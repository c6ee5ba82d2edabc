-- Kind 7 from what its callees ensure, over plain variables.
use Rattle.std.proofs.Common.{◌≡◌, refl, sym, ap, ap₂, ◌∙◌, Bool, not, ◌&&◌, ℕ, ◌<◌, ◌≢◌, eqb, List, [], ◌∷◌, length}
use Rattle.format.specs.Layout.{expense_count, expense_place, no_expense, no_group, last_version}
use Rattle.format.specs.declared.ExpenseRecord.{ExpenseRecord}
use Rattle.format.specs.declared.GroupRecord.{GroupRecord}
use Rattle.format.specs.Bytes.{Bytes, expense_of, bytes_of, expense_part, splice}
use Rattle.format.proofs.Round.{eight}
use Rattle.rules.specs.Tests.{Check, first, eight_at}
use Rattle.rules.specs.Action.{change}
use Rattle.rules.specs.Step.{states, payer_ack, edited, gives}
use Rattle.rules.specs.Refusal.{outside, stranger_in, change_checks, checks}
use Rattle.images.specs.Meaning.{bits, present, meaning, meaning_in, counters_of, group_record_at}
use Rattle.images.specs.Image.{decode, Checked}
use Rattle.images.specs.Calls.{ruled, done}
use Rattle.rules.proofs.Basics.{Same, same, other, same?}
use Rattle.rules.proofs.Accepted.{pass}
use Rattle.kinds.specs.Edit.{edit, raised_record}
use Rattle.kinds.proofs.Seen.{there, version_left, seen, seen_counters, at_is, kept_deleted, edits}

abbrev pub plain : (payer actor : ℕ) (outside : Bool) (deleted : ℕ) (strange : Bool) (version : ℕ) → List Check
plain p a t d s v = (eqb p no_expense, 17) ∷ (not (eqb p a), 18) ∷ (t, 19) ∷ (eqb d 1, 24) ∷ (s, 23) ∷ (eqb v last_version, 27) ∷ []

-- The list of the values that the code looks at is the rules' list of the record.
pub listed : (e : ExpenseRecord) (f : ℕ → ℕ) (a : ℕ) (h : ℕ → ℕ) (t s : Bool) → t ≡ outside h → s ≡ stranger_in f h
    → first (plain e.payer a t e.deleted (not (eqb e.group no_group) && s) e.version) ≡ first (change_checks (meaning e) f a h)
unfolding first meaning_in
listed e f a h t s et es = go (same? e.payer no_expense)
  where
    go : Same e.payer no_expense → first (plain e.payer a t e.deleted (not (eqb e.group no_group) && s) e.version) ≡ first (change_checks (meaning e) f a h)
    go (same p q) = rw q
    go (other p q) = rw (q, et, es)

pub not_last : (e : ExpenseRecord) (f : ℕ → ℕ) (a : ℕ) (s : ℕ → ℕ) → 0 ≡ first (change_checks (meaning e) f a s) → e.version ≢ last_version
not_last e f a s z = let passed = pass (change_checks (meaning e) f a s) tt (sym z) in version_left e (passed 0) (passed 5)

module _ (b : Bytes) (ok : Checked b) (a c : ℕ) (l : List ℕ) (day : ℕ) (k : c < expense_count) (len : length l ≡ 8) (e : ExpenseRecord) (p : e ≡ expense_of (expense_part b c))
    (g : GroupRecord) (q : g ≡ group_record_at (decode b) e.group) where
  pub ruled_is : first (change_checks (meaning e) (counters_of g) a (eight_at l)) ≡ ruled b (change a c (eight_at l) day)
  unfolding ruled checks
  ruled_is = sym (ap₂ (λ o f. first (change_checks o f a (eight_at l))) (seen b ok c k e p) (seen_counters b ok c k e p g q))

  pub changes : 0 ≡ first (change_checks (meaning e) (counters_of g) a (eight_at l)) → (w : ℕ) → w ≡ bits (payer_ack a (eight_at l)) → (h : ExpenseRecord) → h ≡ raised_record e
      → (out : Bytes) → out ≡ splice b (expense_place c) (bytes_of (edit h h.group h.deleted w l day))
      → (0 ≡ ruled b (change a c (eight_at l) day)) × (out ≡ done b (change a c (eight_at l) day))
  unfolding gives
  changes z w ew h eh out y =
      let i : e.payer ≢ no_expense = there e (pass (change_checks (meaning e) (counters_of g) a (eight_at l)) tt (sym z) 0) in (
        z ∙ ruled_is,
        edits b ok c k e p i (change a c (eight_at l) day) out (z ∙ ruled_is) h eh h.group h.deleted w l day _ _ _ _
            (ap (λ x. states c (edited x x.group x.deleted (payer_ack a (eight_at l)) (eight_at l) day)) (at_is b ok c k e p i) ∙ ap (λ m. states c (edited (present e) m (present e).deleted (payer_ack a (eight_at l)) (eight_at l) day)) (sym (ap (λ x. x.group) eh)))
            (ap (λ x. x.deleted) eh ∙ kept_deleted b ok c k e p i) ew (sym (eight l len)) refl y,
      )
