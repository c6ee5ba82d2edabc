-- A ledger with one part of it replaced. It rests on nothing.
use mathlib.Core.Bool.{cond}
use mathlib.Core.Option.{Option}
use Prim.Native.Nat.{ℕ}
use lib.Dec.{eqb}
use Rattle.rules.specs.Ledger.{Expense, Ledger}

-- A ledger with one expense replaced, and with one group's counters and rule replaced.
abbrev pub with_expense : Ledger → ℕ → Option Expense → Ledger
with_expense l c o = record { counter = l.counter; rule = l.rule; expense = λ d. cond (eqb d c) o (l.expense d) }

abbrev pub with_group : Ledger → ℕ → (ℕ → ℕ) → ℕ → Ledger
with_group l g f k = record { counter = λ h. cond (eqb h g) f (l.counter h); rule = λ h. cond (eqb h g) k (l.rule h); expense = l.expense }
