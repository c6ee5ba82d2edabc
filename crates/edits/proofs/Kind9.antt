-- Kind 9 from what its callees ensure, over plain variables.
use mathlib.Core.Bool.{not-not}
use Rattle.std.proofs.Common.{◌≡◌, refl, sym, ap, ap₂, ◌∙◌, Bool, not, ℕ, ◌^◌, ◌<◌, ◌≢◌, ◌||◌, eqb, bit_or, List, [], ◌∷◌}
use Rattle.std.proofs.Math.Option.{some}
use Rattle.format.specs.Layout.{expense_count, expense_place, no_expense, no_group}
use Rattle.format.specs.declared.ExpenseRecord.{ExpenseRecord}
use Rattle.format.specs.declared.GroupRecord.{GroupRecord}
use Rattle.format.specs.Bytes.{Bytes, expense_of, bytes_of, expense_part, splice}
use Rattle.format.proofs.Round.{same_e}
use Rattle.rules.specs.Tests.{Check, first, eight_at}
use Rattle.rules.specs.Ledger.{member_in, at}
use Rattle.rules.specs.Action.{acknowledge}
use Rattle.rules.specs.Step.{add_ack, gives}
use Rattle.rules.specs.Refusal.{acknowledge_checks, checks}
use Rattle.images.specs.Meaning.{read_bits, bits, present, meaning, meaning_in, record_of, counters_of, group_record_at}
use Rattle.images.specs.Image.{decode, Checked}
use Rattle.images.specs.Calls.{ruled, done, acted_in}
use Rattle.rules.proofs.Basics.{Same, same, other, same?}
use Rattle.rules.proofs.Accepted.{pass}
use Rattle.images.proofs.Codec.{add_bit}
use Rattle.images.proofs.Write.{write_acks}
use Rattle.kinds.specs.Edit.{edit}
use Rattle.kinds.proofs.Seen.{some_of, there, accepted, seen, seen_counters, acks_byte, kept_deleted, kept_shares}

abbrev pub plain : (payer deleted group : ℕ) (member : Bool) (share : ℕ) (already : Bool) → List Check
plain p d g m s t = (eqb p no_expense, 17) ∷ (eqb d 1, 24) ∷ (eqb g no_group, 22) ∷ (not m, 11) ∷ (eqb s 0, 25) ∷ (t, 26) ∷ []

-- The list of the values that the code looks at is the rules' list of the record.
pub listed : (e : ExpenseRecord) (f : ℕ → ℕ) (a : ℕ) (m t : Bool) → m ≡ member_in f a → t ≡ read_bits e.acknowledged a
    → first (plain e.payer e.deleted e.group m (eight_at e.shares a) t) ≡ first (acknowledge_checks (meaning e) f a)
unfolding first meaning_in
listed e f a m t em et = go (same? e.payer no_expense)
  where
    go : Same e.payer no_expense → first (plain e.payer e.deleted e.group m (eight_at e.shares a) t) ≡ first (acknowledge_checks (meaning e) f a)
    go (same p q) = rw q
    go (other p q) = rw (q, em, et, not-not (eqb e.group no_group))

module _ (b : Bytes) (ok : Checked b) (a c : ℕ) (ka : a < 8) (k : c < expense_count) (e : ExpenseRecord) (p : e ≡ expense_of (expense_part b c))
    (g : GroupRecord) (q : g ≡ group_record_at (decode b) e.group) where
  pub ruled_is : first (acknowledge_checks (meaning e) (counters_of g) a) ≡ ruled b (acknowledge a c)
  unfolding ruled checks
  ruled_is = sym (ap₂ (λ o f. first (acknowledge_checks o f a)) (seen b ok c k e p) (seen_counters b ok c k e p g q))

  pub acknowledges : 0 ≡ first (acknowledge_checks (meaning e) (counters_of g) a) → (w : ℕ) (out : Bytes) → w ≡ bit_or e.acknowledged (2 ^ a)
      → out ≡ splice b (expense_place c) (bytes_of (edit e e.group e.deleted w e.shares e.day)) → (0 ≡ ruled b (acknowledge a c)) × (out ≡ done b (acknowledge a c))
  unfolding acted_in gives record_of
  acknowledges z w out ew y =
      let i : e.payer ≢ no_expense = there e (pass (acknowledge_checks (meaning e) (counters_of g) a) tt (sym z) 0) in
      let bits_are : w ≡ bits (λ u. read_bits e.acknowledged u || eqb u a) = ew ∙ sym (add_bit e.acknowledged a (acks_byte b ok c k e p) ka) in
      let new : edit e e.group e.deleted w e.shares e.day ≡ record_of (add_ack a (some (present e))) =
      same_e refl refl (kept_deleted b ok c k e p i) bits_are refl (kept_shares b ok c k e p i) refl in
      let here_is : (decode b).expense c ≡ some (present e) = seen b ok c k e p ∙ some_of e i in (
        z ∙ ruled_is,
        accepted b (acknowledge a c) out (z ∙ ruled_is)
            (y ∙ write_acks b ok c (at (decode b) c).version a k _ (new ∙ ap (λ o. record_of (add_ack a o)) (sym here_is))),
      )
