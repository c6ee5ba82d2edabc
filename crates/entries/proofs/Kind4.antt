-- Kind 4 from what its callees ensure, over plain variables.
use Rattle.std.proofs.Common.{◌≡◌, refl, sym, ap₂, ◌∙◌, Bool, not, ℕ, ◌/◌, ◌<◌, eqb, List, [], ◌∷◌, length}
use Rattle.format.specs.Layout.{expense_count, expense_place, expenses_each, no_expense, no_group}
use Rattle.format.specs.declared.ExpenseRecord.{ExpenseRecord}
use Rattle.format.specs.Bytes.{Bytes, expense_of, bytes_of, expense_part, splice}
use Rattle.format.proofs.Round.{eight, same_e}
use Rattle.rules.specs.Tests.{first, eight_at}
use Rattle.rules.specs.Action.{enter}
use Rattle.rules.specs.Step.{payer_ack, entered, gives}
use Rattle.rules.specs.Refusal.{outside, enter_checks, checks}
use Rattle.images.specs.Meaning.{bits, meaning, meaning_in, record_of}
use Rattle.images.specs.Image.{replica_of, Checked}
use Rattle.images.specs.Calls.{ruled, done}
use Rattle.rules.proofs.Basics.{Same, same, other, same?}
use Rattle.kinds.proofs.Seen.{stated, seen}

-- The list of the values that the code looks at is the rules' list of the record.
pub listed : (c s : ℕ) (e : ExpenseRecord) (h : ℕ → ℕ) (t : Bool) → t ≡ outside h
    → first ((not (eqb (c / expenses_each) s), 15) ∷ (not (eqb e.payer no_expense), 16) ∷ (t, 19) ∷ []) ≡ first (enter_checks s c (meaning e) h)
unfolding first meaning_in
listed c s e h t et = go (same? e.payer no_expense)
  where
    go : Same e.payer no_expense → first ((not (eqb (c / expenses_each) s), 15) ∷ (not (eqb e.payer no_expense), 16) ∷ (t, 19) ∷ []) ≡ first (enter_checks s c (meaning e) h)
    go (same p q) = rw (q, et)
    go (other p q) = rw q

module _ (b : Bytes) (ok : Checked b) (a c : ℕ) (l : List ℕ) (day : ℕ) (k : c < expense_count) (len : length l ≡ 8) (e : ExpenseRecord) (p : e ≡ expense_of (expense_part b c)) (s : ℕ) (es : s ≡ replica_of b) where
  pub ruled_is : first (enter_checks s c (meaning e) (eight_at l)) ≡ ruled b (enter a c (eight_at l) day)
  unfolding ruled checks
  ruled_is = ap₂ (λ n o. first (enter_checks n c o (eight_at l))) es (sym (seen b ok c k e p))

  pub enters : 0 ≡ first (enter_checks s c (meaning e) (eight_at l)) → (w : ℕ) (out : Bytes) → w ≡ bits (payer_ack a (eight_at l))
      → out ≡ splice b (expense_place c) (bytes_of (record { payer = a; group = no_group; deleted = 0; acknowledged = w; version = 0; shares = l; day = day }))
      → (0 ≡ ruled b (enter a c (eight_at l) day)) × (out ≡ done b (enter a c (eight_at l) day))
  unfolding gives record_of
  enters z w out ew q = (z ∙ ruled_is, stated b ok (enter a c (eight_at l) day) out (z ∙ ruled_is) c k (entered a (eight_at l) day) refl _ (same_e refl refl refl ew refl (sym (eight l len)) refl) q)
