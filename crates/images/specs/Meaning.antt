-- What the records of an image mean: the meeting point of code, which has structs, and rules, which have ledgers.
use Rattle.std.specs.Prelude.{Bool, false, cond, ◌&&◌, [], ◌∷◌, ℕ, ◌+◌, ◌*◌, ◌/◌, ◌%◌, ◌^◌, ltb, eqb}
use Rattle.std.proofs.Math.Option.{Option, none, some}
use Rattle.format.specs.Layout.{Version, v1, v2, v3, current, user_count, no_expense, equal_rule, undated}
use Rattle.format.specs.Bytes.{rule_told_in}
use Rattle.format.specs.declared.ExpenseRecord.{ExpenseRecord}
use Rattle.format.specs.declared.GroupRecord.{GroupRecord}
use Rattle.rules.specs.Tests.{all_of, every8, number, eight_at, eight_of}
use Rattle.rules.specs.Ledger.{Expense, Ledger, nobody}
use Rattle.rules.specs.Sound.{sound_in}

-- "acknowledgements (bit u, of value 2 to the power u, for user u)": a set of users from a byte; and back.
abbrev pub read_bits : ℕ → ℕ → Bool
read_bits n u = cond (ltb u user_count) (eqb (n / 2 ^ u % 2) 1) false

abbrev pub bits : (ℕ → Bool) → ℕ
bits p = number (p 0) + 2 * number (p 1) + 4 * number (p 2) + 8 * number (p 3) + 16 * number (p 4) + 32 * number (p 5) + 64 * number (p 6) + 128 * number (p 7)

-- What the day d of a cost is in a version: "undated, and stands in costs raised from older images".
abbrev pub day_in : Version → ℕ → ℕ
day_in v1 d = undated
day_in v2 d = undated
day_in v3 d = d

-- The expense of a record whose payer is no 255.
abbrev pub present_in : Version → ExpenseRecord → Expense
present_in v e = record {
  payer = e.payer;
  group = e.group;
  deleted = eqb e.deleted 1;
  acknowledged = read_bits e.acknowledged;
  version = e.version;
  shares = eight_at e.shares;
  day = day_in v e.day;
}

-- "payer (0 to 7, or 255 for no cost, then the other bytes are zero)": what a record means, and the record of a meaning.
unfoldable pub meaning_in : Version → ExpenseRecord → Option Expense
meaning_in v e = cond (eqb e.payer no_expense) none (some (present_in v e))

unfoldable pub record_of : Option Expense → ExpenseRecord
record_of none = record { payer = no_expense; group = 0; deleted = 0; acknowledged = 0; version = 0; shares = eight_of (λ u. 0); day = 0 }
record_of (some e) = record {
  payer = e.payer;
  group = e.group;
  deleted = number e.deleted;
  acknowledged = bits e.acknowledged;
  version = e.version;
  shares = eight_of e.shares;
  day = e.day;
}

-- The counters of a group, the record of counters and a rule, and that of a group of a ledger, as far as the version tells it.
abbrev pub counters_of : GroupRecord → ℕ → ℕ
counters_of g = eight_at g.counters

abbrev pub group_record_of : (ℕ → ℕ) → ℕ → GroupRecord
group_record_of f k = record { counters = eight_of f; rule = k }

abbrev pub group_record_in : Version → Ledger → ℕ → GroupRecord
group_record_in v l g = group_record_of (l.counter g) (rule_told_in v (l.rule g))

abbrev pub group_record_at : Ledger → ℕ → GroupRecord
group_record_at = group_record_in current

-- What the rule k of a group with counters f is in a version: version 1 has none, and so "its present crews under rule 1".
abbrev pub rule_in : Version → (ℕ → ℕ) → ℕ → ℕ
rule_in v1 f k = cond (nobody f) 0 equal_rule
rule_in v2 f k = k
rule_in v3 f k = k

-- Record c is sound, given the home of its payer and the counters of its group: no expense and zeros, or "deleted (0 or 1)" and a sound expense.
abbrev pub blank_record : ExpenseRecord → Bool
blank_record e = all_of (eqb e.group 0 ∷ eqb e.deleted 0 ∷ eqb e.acknowledged 0 ∷ eqb e.version 0 ∷ every8 (λ u. eqb (eight_at e.shares u) 0) ∷ eqb e.day 0 ∷ [])

unfoldable pub sound_record_in : Version → (home : ℕ) → (ℕ → ℕ) → (c : ℕ) → ExpenseRecord → Bool
sound_record_in v h f c e = cond (eqb e.payer no_expense) (blank_record e) (ltb e.deleted 2 && sound_in h f c (present_in v e))

-- The same of the current version.
abbrev pub present : ExpenseRecord → Expense
present = present_in current

abbrev pub meaning : ExpenseRecord → Option Expense
meaning = meaning_in current

abbrev pub sound_record : (home : ℕ) → (ℕ → ℕ) → (c : ℕ) → ExpenseRecord → Bool
sound_record = sound_record_in current
