-- Two records of one expense merged, over plain variables: what stays, what is taken over, what is united.
use Rattle.std.proofs.Common.{◌≡◌, refl, sym, ap, ap₂, ◌∙◌, Bool, true, false, cond, ◌≢◌, ℕ, ◌<◌, arith, bit_or, ltb, length, eq-eqb, ne_eqb, lt-ltb, le-ltb, Ordering, nat_cmp}
use Rattle.format.specs.Layout.{current, expense_size, no_expense}
use Rattle.format.specs.Bytes.{Bytes, Octets, expense_of, bytes_of}
use Rattle.format.specs.declared.ExpenseRecord.{ExpenseRecord}
use Rattle.format.proofs.Round.{write_back, same_e}
use Rattle.rules.specs.Merge.{united, merge_expense}
use Rattle.images.specs.Meaning.{present, meaning, meaning_in, record_of}
use Rattle.store.specs.Changed.{record_with_acknowledged}
use Rattle.std.specs.Cmp.{ranks}
use Rattle.std.specs.Ordering.{MatchOrdering}
use Rattle.merge_record.specs.Merged.{merged_record}
use Rattle.rules.proofs.Basics.{Same, same, other, same?}
use mathlib.Core.Option.{some}
use Rattle.rules.specs.Ledger.{with_acks}
use Rattle.images.proofs.Codec.{or_bits}

-- What a comparison of two numbers tells.
pub ranked : (v w : ℕ) (o : Ordering) → o ≡ nat_cmp v w → MatchOrdering o (v < w) (v ≡ w) (w < v)
ranked v w o e = rw e (ranks v w)

-- Two parts merged: what stays, what is taken over, what is united.
module _ (p q : Bytes) (x y : ℕ) (ex : x ≡ (expense_of p).payer) (ey : y ≡ (expense_of q).payer) (long : length p ≡ expense_size) (octets : Octets p) where
  abbrev pub Merged : Bytes → Type 0
  Merged r = r ≡ bytes_of (merged_record (expense_of p) (expense_of q))

  stays : merged_record (expense_of p) (expense_of q) ≡ expense_of p → Merged p
  stays h = sym (ap bytes_of h ∙ write_back current p octets long)

  pub merged_none : y ≡ no_expense → Merged p
  unfolding merged_record
  merged_none z = stays (rw (eq-eqb (expense_of q).payer no_expense (sym ey ∙ z)))

  module _ (m : y ≢ no_expense) where
    pub merged_new : x ≡ no_expense → (e : ExpenseRecord) (r : Bytes) → e ≡ expense_of q → r ≡ bytes_of e → Merged r
    unfolding merged_record
    merged_new z e r ee er =
        er ∙ ap bytes_of ee ∙ ap bytes_of (rw (ne_eqb (expense_of q).payer no_expense (λ z. m (ey ∙ z)), eq-eqb (expense_of p).payer no_expense (sym ex ∙ z)))

    module _ (n : x ≢ no_expense) (v w : ℕ) (ev : v ≡ (expense_of p).version) (ew : w ≡ (expense_of q).version) where
      both : merged_record (expense_of p) (expense_of q)
          ≡ cond (ltb v w) (expense_of q) (cond (ltb w v) (expense_of p) (record_with_acknowledged (expense_of p) (bit_or (expense_of p).acknowledged (expense_of q).acknowledged)))
      unfolding merged_record
      both =
          rw (ne_eqb (expense_of q).payer no_expense (λ z. m (ey ∙ z)), ne_eqb (expense_of p).payer no_expense (λ z. n (ex ∙ z)))
          (ap₂ (λ a b. cond (ltb a b) (expense_of q) (cond (ltb b a) (expense_of p) (record_with_acknowledged (expense_of p) (bit_or (expense_of p).acknowledged (expense_of q).acknowledged)))) (sym ev) (sym ew))

      pub merged_newer : v < w → (e : ExpenseRecord) (r : Bytes) → e ≡ expense_of q → r ≡ bytes_of e → Merged r
      merged_newer k e r ee er = er ∙ ap bytes_of ee ∙ ap bytes_of (sym (both ∙ rw (lt-ltb v w k)))

      pub merged_older : w < v → Merged p
      merged_older k = stays (both ∙ rw (le-ltb v w (omega arith), lt-ltb w v k))

      pub merged_same : v ≡ w → (k m a : ℕ) (r : Bytes) → k ≡ (expense_of p).acknowledged → m ≡ (expense_of q).acknowledged → a ≡ bit_or k m
          → r ≡ bytes_of (record_with_acknowledged (expense_of p) a) → Merged r
      merged_same h k m a r ek em ea er =
          er ∙ ap (λ t. bytes_of (record_with_acknowledged (expense_of p) t)) (ea ∙ ap₂ bit_or ek em)
          ∙ ap bytes_of (sym (both ∙ rw (le-ltb v w (omega arith), le-ltb w v (omega arith))))

-- The record of a merged expense.
pub merged_is : (e f : ExpenseRecord) → record_of (meaning e) ≡ e → record_of (meaning f) ≡ f → e.acknowledged < 256 → f.acknowledged < 256
    → merged_record e f ≡ record_of (merge_expense (meaning e) (meaning f))
unfolding merged_record meaning_in record_of
merged_is e f p q ke kf = go (same? e.payer no_expense) (same? f.payer no_expense)
  where
    both : (t u : Bool) → record_of (some (present e)) ≡ e → record_of (some (present f)) ≡ f
        → cond t f (cond u e (record_with_acknowledged e (bit_or e.acknowledged f.acknowledged)))
        ≡ record_of (some (cond t (present f) (cond u (present e) (with_acks (present e) (united (present e) (present f))))))
    both true u pe pf = sym pf
    both false true pe pf = sym pe
    both false false pe pf =
        same_e refl refl (sym (ap (λ x. x.deleted) pe)) (sym (or_bits e.acknowledged f.acknowledged ke kf)) refl (sym (ap (λ x. x.shares) pe)) refl

    go : Same e.payer no_expense → Same f.payer no_expense → merged_record e f ≡ record_of (merge_expense (meaning e) (meaning f))
    go (same a x) (same b y) = let z = rw x at p in rw (x, y) (sym z)
    go (same a x) (other b y) = let z = rw y at q in rw (x, y) (sym z)
    go (other a x) (same b y) = let z = rw x at p in rw (x, y) (sym z)
    go (other a x) (other b y) = let z = rw x at p in let w = rw y at q in rw (x, y) (both (ltb e.version f.version) (ltb f.version e.version) z w)
