-- An expense of a group that counts: what it adds to the sums. And the expenses of an image.
use Rattle.std.proofs.Common.{◌≡◌, refl, sym, ap, ◌∙◌, Bool, true, false, not, cond, ◌&&◌, ◌||◌, List, ℕ, ◌<◌, ltb, eqb}
use mathlib.Core.Option.{none}
use Rattle.format.specs.Layout.{no_expense, expense_count}
use Rattle.format.specs.declared.ExpenseRecord.{ExpenseRecord}
use Rattle.format.specs.Bytes.{Bytes, expense_of, expense_part}
use Rattle.rules.specs.Tests.{number, only, every8, sum8, eight_at}
use Rattle.rules.specs.Balance.{counts_acknowledged, valid, paid_in, held_in, used_in, valid_in}
use Rattle.images.specs.Meaning.{read_bits, present, meaning, meaning_in}
use Rattle.images.specs.Image.{decode, read_expense, decode_in}
use Rattle.rules.proofs.Basics.{Same, same, other, same?, ltb_true}
use Rattle.fields.specs.Fields.{stands_in}

-- An expense counts in a group where it stands in it and all its shares count as acknowledged.
abbrev pub backed : (rule : ℕ) → ExpenseRecord → Bool
backed rule e = every8 (λ u. eqb (eight_at e.shares u) 0 || counts_acknowledged rule (eight_at e.shares u) (read_bits e.acknowledged u))

pub backed_is : (rule : ℕ) (e : ExpenseRecord) (s : List ℕ) (a : ℕ) (r : Bool) → s ≡ e.shares → a ≡ e.acknowledged
    → r ≡ every8 (λ u. eqb (eight_at s u) 0 || counts_acknowledged rule (eight_at s u) (read_bits a u)) → r ≡ backed rule e
backed_is rule e s a r es ea er = er ∙ (λ i. every8 (λ u. eqb (eight_at (es i) u) 0 || counts_acknowledged rule (eight_at (es i) u) (read_bits (ea i) u)))

and_middle : (a b c d : Bool) → (b && (a && c && d)) ≡ (a && b && c && d)
and_middle true true c d = refl
and_middle true false c d = refl
and_middle false true c d = refl
and_middle false false c d = refl

module _ (rule g : ℕ) (e : ExpenseRecord) where
  abbrev pub counts : Bool
  counts = stands_in e g && backed rule e

  counts_is : counts ≡ (not (eqb e.payer no_expense) && valid rule g (present e))
  counts_is = sym (and_middle (eqb e.group g) (not (eqb e.payer no_expense)) (not (eqb e.deleted 1)) (backed rule e))

  pub paid_of : (u : ℕ) → paid_in rule g u (meaning e) ≡ only (counts && eqb e.payer u) (sum8 (eight_at e.shares))
  unfolding meaning_in
  paid_of u = go (same? e.payer no_expense) ∙ ap (λ t. only (t && eqb e.payer u) (sum8 (eight_at e.shares))) (sym counts_is)
    where
      go : Same e.payer no_expense → paid_in rule g u (meaning e) ≡ only (not (eqb e.payer no_expense) && valid rule g (present e) && eqb e.payer u) (sum8 (eight_at e.shares))
      go (same p q) = rw q
      go (other p q) = rw q

  pub held_of : (u : ℕ) → held_in rule g u (meaning e) ≡ only counts (eight_at e.shares u)
  unfolding meaning_in
  held_of u = go (same? e.payer no_expense) ∙ ap (λ t. only t (eight_at e.shares u)) (sym counts_is)
    where
      go : Same e.payer no_expense → held_in rule g u (meaning e) ≡ only (not (eqb e.payer no_expense) && valid rule g (present e)) (eight_at e.shares u)
      go (same p q) = rw q
      go (other p q) = rw q

  pub used_of : (u : ℕ) → used_in rule g u (meaning e) ≡ number (counts && ltb 0 (eight_at e.shares u))
  unfolding meaning_in
  used_of u = go (same? e.payer no_expense) ∙ ap (λ t. number (t && ltb 0 (eight_at e.shares u))) (sym counts_is)
    where
      go : Same e.payer no_expense → used_in rule g u (meaning e) ≡ number (not (eqb e.payer no_expense) && valid rule g (present e) && ltb 0 (eight_at e.shares u))
      go (same p q) = rw q
      go (other p q) = rw q

  pub valid_of : valid_in rule g (meaning e) ≡ number counts
  unfolding meaning_in
  valid_of = go (same? e.payer no_expense) ∙ ap number (sym counts_is)
    where
      go : Same e.payer no_expense → valid_in rule g (meaning e) ≡ number (not (eqb e.payer no_expense) && valid rule g (present e))
      go (same p q) = rw q
      go (other p q) = rw q

-- The expenses of an image.
module _ (b : Bytes) where
  abbrev pub at : ℕ → ExpenseRecord
  at c = expense_of (expense_part b c)

  pub meant : (c : ℕ) → c < expense_count → (decode b).expense c ≡ meaning (at c)
  unfolding decode_in read_expense
  meant c k = ap (λ t. cond t (meaning (at c)) none) (ltb_true c expense_count k)
