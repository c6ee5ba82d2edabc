-- What an image holds, of whichever version: the counters and rules of its groups (the paper's crews) and its expenses (the paper's costs), as decoded values.
use Rattle.std.specs.Prelude.{Bool, true, false, not, cond, ℕ, ◌%◌, ltb, eqb}
use Rattle.std.proofs.Math.Option.{Option, none, some, get_or}
use Rattle.format.specs.Layout.{no_group}
use Rattle.rules.specs.Tests.{sum8, every8}

-- A present expense: users and groups by number, a function of the user for acknowledgements and for shares.
pub record Expense : Type 0 where
  pub payer : ℕ
  pub group : ℕ
  pub deleted : Bool
  pub acknowledged : ℕ → Bool
  pub version : ℕ
  pub shares : ℕ → ℕ
  pub day : ℕ

-- The same expense with other acknowledgements.
abbrev pub with_acks : Expense → (ℕ → Bool) → Expense
with_acks e f = record { payer = e.payer; group = e.group; deleted = e.deleted; acknowledged = f; version = e.version; shares = e.shares; day = e.day }

-- `counter g u` is user u's membership counter in group g, and `rule g` the group's rule; an expense number has an expense or none.
pub record Ledger : Type 0 where
  pub counter : ℕ → ℕ → ℕ
  pub rule : ℕ → ℕ
  pub expense : ℕ → Option Expense

-- "no crews, no costs"
abbrev pub empty : Ledger
empty = record { counter = λ g u. 0; rule = λ g. 0; expense = λ c. none }

-- Counters f of one group. "Odd means member, even not, above zero ever a member. A crew is absent when all eight are zero."
abbrev pub member_in : (ℕ → ℕ) → ℕ → Bool
member_in f u = eqb (f u % 2) 1

abbrev pub ever_in : (ℕ → ℕ) → ℕ → Bool
ever_in f u = ltb 0 (f u)

abbrev pub nobody : (ℕ → ℕ) → Bool
nobody f = every8 (λ u. not (ever_in f u))

-- The same of a group of a ledger.
abbrev pub member : Ledger → ℕ → ℕ → Bool
member l g u = member_in (l.counter g) u

abbrev pub group_absent : Ledger → ℕ → Bool
group_absent l g = nobody (l.counter g)

-- A group's rule from two places: "zero when the crew is absent", so that of the first, or of the second where the first has none.
abbrev pub either_rule : ℕ → ℕ → ℕ
either_rule k j = cond (eqb k 0) j k

-- "The amount is the total of the shares and isn't stored."
abbrev pub total : Expense → ℕ
total e = sum8 e.shares

abbrev pub in_group : Expense → Bool
in_group e = not (eqb e.group no_group)

-- The expense of a number; where there is none, a blank stands for it, on which nothing comes to depend: 'absent' is asked first.
abbrev pub absent_option : Option Expense → Bool
absent_option none = true
absent_option (some e) = false

abbrev pub blank : Expense
blank = record { payer = 0; group = 0; deleted = false; acknowledged = λ u. false; version = 0; shares = λ u. 0; day = 0 }

abbrev pub or_blank : Option Expense → Expense
or_blank o = get_or o blank

abbrev pub absent : Ledger → ℕ → Bool
absent l c = absent_option (l.expense c)

abbrev pub at : Ledger → ℕ → Expense
at l c = or_blank (l.expense c)
