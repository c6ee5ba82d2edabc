-- Kind 10 from what its callees ensure, over plain variables.
use mathlib.Core.Bool.{not-not}
use Rattle.std.proofs.Common.{◌≡◌, sym, ap, ap₂, ◌∙◌, Bool, true, not, ℕ, ◌+◌, ◌≤◌, ◌<◌, ◌≢◌, eqb, List, [], ◌∷◌, arith}
use Rattle.format.specs.Layout.{expense_count, expense_place, no_expense, no_group, last_version, most_total}
use Rattle.format.specs.declared.ExpenseRecord.{ExpenseRecord}
use Rattle.format.specs.declared.GroupRecord.{GroupRecord}
use Rattle.format.specs.Bytes.{Bytes, expense_of, bytes_of, expense_part, splice}
use Rattle.rules.specs.Tests.{Check, first, sum8, eight_at, eight_of}
use Rattle.rules.specs.Ledger.{member_in}
use Rattle.rules.specs.Action.{absorb}
use Rattle.rules.specs.Step.{states, edited, moved, gives}
use Rattle.rules.specs.Refusal.{absorb_checks, checks}
use Rattle.images.specs.Meaning.{read_bits, present, meaning, meaning_in, counters_of, group_record_at}
use Rattle.images.specs.Image.{decode, Checked}
use Rattle.images.specs.Calls.{ruled, done}
use Rattle.rules.proofs.Basics.{Same, same, other, same?}
use Rattle.rules.proofs.Sums.{below_sum}
use Rattle.rules.proofs.Accepted.{pass}
use Rattle.kinds.specs.Edit.{edit, raised_record}
use Rattle.kinds.proofs.Seen.{there, version_left, seen, seen_counters, at_is, kept_deleted, kept_acks, total_limit, edits}

abbrev pub group_plain : (group : ℕ) (member inside : Bool) (version : ℕ) → List Check
group_plain g m x v = (eqb g no_group, 22) ∷ (not m, 11) ∷ (x, 28) ∷ (eqb v last_version, 27) ∷ []

abbrev pub plain : (other actor payer deleted share : ℕ) (already : Bool) (rest : ℕ) → List Check
plain w a p d s t r = (eqb w a, 29) ∷ (eqb p no_expense, 17) ∷ (eqb d 1, 24) ∷ (not (eqb p a), 18) ∷ (eqb s 0, 25) ∷ (t, 26) ∷ (true, r) ∷ []

-- The list of the values that the code looks at, with those that look at the group behind the others, is the rules' list of the record.
pub listed : (e : ExpenseRecord) (f : ℕ → ℕ) (a w r : ℕ) (t : Bool) → t ≡ read_bits e.acknowledged w → r ≡ first (group_plain e.group (member_in f a) (member_in f w) e.version)
    → first (plain w a e.payer e.deleted (eight_at e.shares w) t r) ≡ first (absorb_checks (meaning e) f a w)
unfolding first meaning_in
listed e f a w r t et er = go (same? e.payer no_expense)
  where
    go : Same e.payer no_expense → first (plain w a e.payer e.deleted (eight_at e.shares w) t r) ≡ first (absorb_checks (meaning e) f a w)
    go (same p q) = rw q
    go (other p q) = rw (q, et, er, not-not (eqb e.group no_group))

pub not_last : (e : ExpenseRecord) (f : ℕ → ℕ) (a o : ℕ) → 0 ≡ first (absorb_checks (meaning e) f a o) → e.version ≢ last_version
not_last e f a o z = let passed = pass (absorb_checks (meaning e) f a o) tt (sym z) in version_left e (passed 1) (passed 9)

module _ (b : Bytes) (ok : Checked b) (a o c : ℕ) (ka : a < 8) (ko : o < 8) (k : c < expense_count) (e : ExpenseRecord) (p : e ≡ expense_of (expense_part b c))
    (g : GroupRecord) (q : g ≡ group_record_at (decode b) e.group) where
  pub ruled_is : first (absorb_checks (meaning e) (counters_of g) a o) ≡ ruled b (absorb a o c)
  unfolding ruled checks
  ruled_is = sym (ap₂ (λ y f. first (absorb_checks y f a o)) (seen b ok c k e p) (seen_counters b ok c k e p g q))

  module _ (z : 0 ≡ first (absorb_checks (meaning e) (counters_of g) a o)) where
    here : e.payer ≢ no_expense
    here = there e (pass (absorb_checks (meaning e) (counters_of g) a o) tt (sym z) 1)

    -- The two shares together stay within 32 bits.
    pub sum_fits : eight_at e.shares a + eight_at e.shares o < 4_294_967_296
    sum_fits =
        let l : sum8 (eight_at e.shares) ≤ most_total = total_limit b ok c k e p here in
        let ha : eight_at e.shares a ≤ sum8 (eight_at e.shares) = below_sum (eight_at e.shares) a ka in
        let ho : eight_at e.shares o ≤ sum8 (eight_at e.shares) = below_sum (eight_at e.shares) o ko in
        omega arith

    pub absorbs : (l : List ℕ) → l ≡ eight_of (moved a o (eight_at e.shares)) → (h : ExpenseRecord) → h ≡ raised_record e
        → (out : Bytes) → out ≡ splice b (expense_place c) (bytes_of (edit h h.group h.deleted h.acknowledged l h.day))
        → (0 ≡ ruled b (absorb a o c)) × (out ≡ done b (absorb a o c))
    unfolding gives
    absorbs l el h eh out w =
        let gi : gives (absorb a o c) (decode b) ≡ states c (edited (present e) h.group (present e).deleted (present e).acknowledged (moved a o (present e).shares) (present e).day) =
        ap (λ y. states c (edited y y.group y.deleted y.acknowledged (moved a o y.shares) y.day)) (at_is b ok c k e p here)
        ∙ ap (λ v. states c (edited (present e) v (present e).deleted (present e).acknowledged (moved a o (present e).shares) (present e).day)) (sym (ap (λ y. y.group) eh)) in (
          z ∙ ruled_is,
          edits b ok c k e p here (absorb a o c) out (z ∙ ruled_is) h eh h.group h.deleted h.acknowledged l h.day _ _ _ _ gi
              (ap (λ y. y.deleted) eh ∙ kept_deleted b ok c k e p here) (ap (λ y. y.acknowledged) eh ∙ kept_acks b ok c k e p here) el (ap (λ y. y.day) eh) w,
        )
