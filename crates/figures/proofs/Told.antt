-- What a report tells, for the caller who hands its lines on.
use Rattle.std.proofs.Common.{◌≡◌, sym, ap, ◌∙◌, ℕ, cond, eq-eqb}
use Rattle.format.specs.Bytes.{Bytes}
use Rattle.rules.specs.Balance.{members, lines_of, totals_of}
use Rattle.images.specs.Image.{decode}
use Rattle.images.specs.Calls.{statement_answer, refused_totals, statement_totals, statement_totals_in}
use Rattle.figures.specs.declared.Report.{Report}
use Rattle.figures.specs.Whole.{zero_lines, report_of}

module _ (b : Bytes) (g n : ℕ) where
  -- A statement that is not refused.
  module _ (z : 0 ≡ statement_answer b g n) (r : Report) (e : r ≡ report_of b g n) where
    told : r ≡ record { totals = totals_of (decode b) g; lines = lines_of (decode b) g }
    unfolding report_of statement_totals_in
    told = e ∙ ap (λ t. record { totals = cond t (totals_of (decode b) g) (refused_totals (statement_answer b g n)); lines = cond t (lines_of (decode b) g) zero_lines }) (eq-eqb (statement_answer b g n) 0 (sym z))

    pub members_are : r.totals.members ≡ members (decode b) g
    unfolding totals_of
    members_are = ap (λ t. t.totals.members) told

    pub lines_are : r.lines ≡ lines_of (decode b) g
    lines_are = ap (λ t. t.lines) told

  -- The totals, refused or not.
  pub totals_are : (r : Report) → r ≡ report_of b g n → r.totals ≡ statement_totals b g n
  unfolding report_of
  totals_are r e = ap (λ t. t.totals) e
