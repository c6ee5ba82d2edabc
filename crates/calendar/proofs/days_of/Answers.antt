use mathlib.Core.Path.{◌≡◌, ◌∙◌}
use Prim.Native.Nat.{ℕ}
use native.Mathlib.Omega.{arith}
use Rattle.calendar.specs.declared.Month.{Month}
use Rattle.calendar.specs.Calendar.{days_of, year_of, month_of, month_length, last_day_of}
use Rattle.calendar.proofs.Months.{length_between, ends_by_last_day}
use Rattle.calendar.proofs.days_of.Goals as goal

-- What has the days of the month that a month number names has its length.

length_is : {days year : ℕ} {name : Month} (m : ℕ) → year ≡ year_of m → name ≡ month_of m → days ≡ days_of year name → days ≡ month_length m
unfolding month_length
length_is m y n d = d ∙ (λ i. days_of (y i) (n i))

pub overflow_add-last : goal.overflow_add-last
overflow_add-last c =
    let month = c.args.month in
    let inside = c.requires in
    let first = c.first_days-days.ensures.first_days month inside in
    let length = length_is month c.year_of.ensures c.month_of.ensures c.days_in-length.ensures in
    omega (arith, first, length, ends_by_last_day month inside)

pub overflow_sub-last : goal.overflow_sub-last
overflow_sub-last c =
    let month = c.args.month in
    omega (arith, length_is month c.year_of.ensures c.month_of.ensures c.days_in-length.ensures, length_between month)

pub returns : goal.returns
unfolding last_day_of
returns c =
    let month = c.args.month in
    let inside = c.requires in
    let first = c.first_days-days.ensures.first_days month inside in
    let length = length_is month c.year_of.ensures c.month_of.ensures c.days_in-length.ensures in
    (first, omega (arith, first, length))
