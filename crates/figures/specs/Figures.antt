-- A statement's figures from a group's rule, its eight counters and its sums, as code has them: lists of eight.
use Rattle.std.specs.Prelude.{List, ℕ}
use Rattle.rules.specs.Tests.{sum8, eight_at, eight_of}
use Rattle.rules.specs.Ledger.{member_in}
use Rattle.rules.specs.Parts.{members_in}
use Rattle.balance.specs.declared.Sums.{Sums}
use Rattle.parts.specs.Parts.{gifts_from, parts_from}
use Rattle.lines.specs.Lines.{lines_from}
use Rattle.figures.specs.declared.Report.{Report}

abbrev pub report_with : (rule : ℕ) → (counters : List ℕ) → Sums → (gifts : List ℕ) → (total : ℕ) → Report
report_with n f s g t = record {
  totals = record { answer = 0; members = members_in (member_in (eight_at f)); expenses = s.expenses; gifts = t };
  lines = lines_from f s.paid s.held g (parts_from n f t (eight_of (eight_at s.uses)));
}

unfoldable pub report_from : (rule : ℕ) → (counters : List ℕ) → Sums → Report
report_from n f s = report_with n f s (gifts_from f s.paid s.held) (sum8 (eight_at (gifts_from f s.paid s.held)))
