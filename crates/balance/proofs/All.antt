-- All days: an image's days are two bytes, so an expense's day is never above 65,535, and the expenses from day 0 to 65,535 are all of them.
use Rattle.std.proofs.Common.{◌≡◌, refl, ap, ap₂, ◌∙◌, Bool, cond, ◌&&◌, ℕ, ◌≤◌, arith}
use mathlib.Core.Option.{none}
use Rattle.format.specs.Layout.{expense_size, expense_count, expense_place}
use Rattle.format.specs.declared.ExpenseRecord.{ExpenseRecord}
use Rattle.format.specs.Bytes.{Bytes, Octets, expense_of, expense_part}
use Rattle.calendar.specs.Calendar.{between}
use Rattle.images.specs.Meaning.{meaning}
use Rattle.rules.specs.Month.{dated, of_days}
use Rattle.images.specs.Image.{decode, read_expense, decode_in}
use Rattle.rules.proofs.Basics.{Less, less, more, less?, ltb_false}
use Rattle.rules.proofs.Sound.{le_leb}
use Rattle.images.proofs.Round.{part_octets}
use Rattle.rules.proofs.Theory.{ledger_path}
use Rattle.validity.proofs.Counts.{at, meant}
use Rattle.balance.specs.declared.Sums.{Sums}
use Rattle.balance.specs.Dated.{from_to}
use Rattle.balance.specs.Sums.{sums_of}
use Rattle.balance.proofs.Dated.{dated_meaning}

abbrev every_day : ℕ → Bool
every_day = between 0 65_535

day_small : (p : Bytes) → Octets p → (expense_of p).day ≤ 65_535
unfolding expense_of
day_small p o = let a = o 40 in let b = o 41 in omega arith

kept_whole : (e : ExpenseRecord) → e.day ≤ 65_535 → dated every_day (meaning e) ≡ meaning e
kept_whole e k = dated_meaning every_day e ∙ ap (λ t. cond t (meaning e) none) (ap₂ ◌&&◌ (le_leb 0 e.day (omega arith)) (le_leb e.day 65_535 k))

module _ (b : Bytes) (o : Octets b) where
  none_beyond : (c : ℕ) → expense_count ≤ c → (decode b).expense c ≡ none
  unfolding decode_in read_expense
  none_beyond c k = ap (λ t. cond t (meaning (at b c)) none) (ltb_false c expense_count k)

  expense_kept : (c : ℕ) → dated every_day ((decode b).expense c) ≡ (decode b).expense c
  expense_kept c = go (less? c expense_count)
    where
      go : Less c expense_count → dated every_day ((decode b).expense c) ≡ (decode b).expense c
      go (less k _) = rw (meant b c k) (kept_whole (at b c) (day_small (expense_part b c) (part_octets expense_size (expense_place c) b o)))
      go (more k _) = rw (none_beyond c k)

  pub all_days : from_to 0 65_535 (decode b) ≡ decode b
  unfolding of_days
  all_days = ledger_path _ _ (λ g u. refl) (λ g. refl) expense_kept

  -- So the sums from day 0 to 65,535 are those of the whole ledger.
  pub all_sums : (rule g : ℕ) (s : Sums) → s ≡ sums_of (from_to 0 65_535 (decode b)) rule g → s ≡ sums_of (decode b) rule g
  all_sums rule g s e = e ∙ ap (λ l. sums_of l rule g) all_days
