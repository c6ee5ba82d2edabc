-- The whole statement of a group: the totals, and the eight lines, all zero where it is refused.
use Rattle.std.specs.Prelude.{cond, List, ℕ, eqb, pos, replicate}
use Rattle.format.specs.Layout.{user_count}
use Rattle.format.specs.Bytes.{Bytes}
use Rattle.format.specs.declared.Line.{Line}
use Rattle.rules.specs.Balance.{lines_of}
use Rattle.images.specs.Image.{decode}
use Rattle.images.specs.Calls.{statement_answer, refused_totals, statement_totals}
use Rattle.std.specs.declared.result.Result.{Result}
use Rattle.std.specs.declared.result.Result.TheVariants.{Ok, Err}
use Rattle.refusals.specs.declared.Refusal.{Refusal}
use Rattle.refusals.specs.Numbers.{number}
use Rattle.figures.specs.declared.Report.{Report}

abbrev pub zero_lines : List Line
zero_lines = replicate user_count (record { counter = 0; raw = pos 0; gift = 0; part = 0; balance = pos 0 })

abbrev pub refused_report : ℕ → Report
refused_report k = record { totals = refused_totals k; lines = zero_lines }

unfoldable pub report_of : Bytes → (group lent : ℕ) → Report
report_of b g n = record { totals = statement_totals b g n; lines = cond (eqb (statement_answer b g n) 0) (lines_of (decode b) g) zero_lines }

-- The report that an answer stands for: where it is refused, that of the refusal's number.
abbrev pub report_in : Result Report Refusal → Report
report_in (Ok r) = r
report_in (Err e) = refused_report (number e)
