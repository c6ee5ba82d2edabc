-- What the test over a table of first days shows: its entry for a month is that month's first day, and by its length each month ends the day
-- before the next entry, the last with the last day.
use mathlib.Core.Path.{◌≡◌, refl, sym, ◌∙◌, ap}
use mathlib.Core.Bool.{true}
use mathlib.Core.List.{List, [], ◌∷◌}
use Prim.Native.Nat.{ℕ, zero, suc, ◌+◌, ◌-◌, ◌<◌}
use native.Mathlib.Omega.{arith}
use lib.Dec.{eqb}
use lib.ListN.{get_or, length}
use borrow.Author.Tests.{eqb-true}
use Rattle.format.specs.Layout.{last_day, month_count}
use Rattle.calendar.specs.Calendar.{month_length, first_day, Tabled, rises}
use Rattle.calendar.proofs.Tests.{and_left, and_right}
use Rattle.calendar.proofs.Months.{next_first, first_after_last}

-- What the test says of the place behind the table, of the first entry, and of the rest.
none_left : (m d : ℕ) → rises m d [] ≡ true → (m ≡ month_count) × (d ≡ last_day + 1)
unfolding rises
none_left m d t =
    let months = eqb m month_count in
    let days = eqb d (last_day + 1) in
    (eqb-true m month_count (and_left months days t), eqb-true d (last_day + 1) (and_right months days t))

first_entry : (m d x : ℕ) (xs : List ℕ) → rises m d (x ∷ xs) ≡ true → x ≡ d
unfolding rises
first_entry m d x xs t = eqb-true x d (and_left (eqb x d) (rises (m + 1) (x + month_length m) xs) t)

rest_rises : (m d x : ℕ) (xs : List ℕ) → rises m d (x ∷ xs) ≡ true → rises (m + 1) (x + month_length m) xs ≡ true
unfolding rises
rest_rises m d x xs t = and_right (eqb x d) (rises (m + 1) (x + month_length m) xs) t

rest_begins : (m d x : ℕ) (xs : List ℕ) → rises m d (x ∷ xs) ≡ true → d ≡ first_day m → x + month_length m ≡ first_day (m + 1)
rest_begins m d x xs t e = omega (arith, first_entry m d x xs t, next_first m)

-- The same of the whole of it: how many entries there are, where the months end, and each entry.
months_left : (m d : ℕ) (xs : List ℕ) → rises m d xs ≡ true → m + length xs ≡ month_count
months_left m d [] t = omega (arith, (none_left m d t).0)
months_left m d (x ∷ xs) t = omega (arith, months_left (m + 1) (x + month_length m) xs (rest_rises m d x xs t))

end_from : (m d : ℕ) (xs : List ℕ) → rises m d xs ≡ true → d ≡ first_day m → first_day month_count ≡ last_day + 1
end_from m d [] t e = ap first_day (sym (none_left m d t).0) ∙ sym e ∙ (none_left m d t).1
end_from m d (x ∷ xs) t e = end_from (m + 1) (x + month_length m) xs (rest_rises m d x xs t) (rest_begins m d x xs t e)

entry_from : (m d : ℕ) (xs : List ℕ) → rises m d xs ≡ true → d ≡ first_day m → (k : ℕ) → m + k < month_count → get_or xs k 0 ≡ first_day (m + k)
entry_from m d [] t e k h = absurd (omega (arith, (none_left m d t).0))
entry_from m d (x ∷ xs) t e zero h = let q : m ≡ m + 0 = omega arith in first_entry m d x xs t ∙ e ∙ ap first_day q
entry_from m d (x ∷ xs) t e (suc k) h =
    let q : m + 1 + k ≡ m + suc k = omega arith in
    entry_from (m + 1) (x + month_length m) xs (rest_rises m d x xs t) (rest_begins m d x xs t e) k (omega arith) ∙ ap first_day q

entry : (table : List ℕ) → rises 0 0 table ≡ true → (m : ℕ) → m < month_count → get_or table m 0 ≡ first_day m
unfolding first_day
entry table t m h = let q : 0 + m ≡ m = omega arith in entry_from 0 0 table t refl m (omega arith) ∙ ap first_day q

end : (table : List ℕ) → rises 0 0 table ≡ true → first_day month_count ≡ last_day + 1
unfolding first_day
end table t = end_from 0 0 table t refl

pub tabled : (table : List ℕ) → rises 0 0 table ≡ true → Tabled table
tabled table t = record {
  all_months = omega (arith, months_left 0 0 table t);
  first_days = entry table t;
  ends_before_next = λ m h. omega (arith, first_after_last m, entry table t (m + 1) h);
  ends_with_last_day = omega (arith, first_after_last (month_count - 1), end table t);
}
