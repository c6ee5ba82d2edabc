-- The text of one group and of the first groups, from what the callees ensure, over plain variables.
use Rattle.std.proofs.Common.{◌≡◌, refl, sym, ap, ap₂, ◌∙◌, Bool, true, false, ℕ, ◌+◌, [], ◌++◌, length, get_or}
use native.Mathlib.Numerals.{add-one}
use Rattle.format.specs.Layout.{user_count}
use Rattle.format.specs.Bytes.{Bytes}
use Rattle.format.specs.declared.GroupRecord.{GroupRecord}
use Rattle.rules.specs.Ledger.{Ledger, nobody, group_absent}
use Rattle.rules.specs.Balance.{line_of, lines_of, totals_of}
use Rattle.images.specs.Meaning.{counters_of, group_record_at}
use Rattle.images.specs.Image.{decode}
use Rattle.balance.specs.declared.Sums.{Sums}
use Rattle.balance.specs.Sums.{sums_of}
use Rattle.kinds.proofs.Seen.{counters_of_lem}
use Rattle.figures.specs.declared.Report.{Report}
use Rattle.figures.specs.Figures.{report_from}
use Rattle.figures.proofs.Made.{report_is}
use Rattle.text.specs.Text.{crew_line, users_text, crew_text, crews_text}
use Rattle.text_lines.specs.Room.{no_line}

lines_are : (l : Ledger) (g : ℕ) → users_text user_count (λ u. get_or (lines_of l g) u no_line) ≡ users_text user_count (line_of l g)
unfolding users_text lines_of
lines_are l g = refl

-- The counters as code has them.
module _ (b : Bytes) (g : ℕ) (c : GroupRecord) (ec : c ≡ group_record_at (decode b) g) (t : Bool) (et : t ≡ nobody (counters_of c)) where
  absent_is : t ≡ group_absent (decode b) g
  absent_is = et ∙ ap nobody (counters_of_lem b g c ec)

  pub crew_absent : t ≡ true → crew_text (decode b) g ≡ []
  unfolding crew_text
  crew_absent x = rw (sym absent_is ∙ x) refl

  module _ (s : Sums) (r : Report) (es : s ≡ sums_of (decode b) ((decode b).rule g) g) (er : r ≡ report_from c.rule c.counters s) (x : t ≡ false) where
    told : r ≡ record { totals = totals_of (decode b) g; lines = lines_of (decode b) g }
    told =
        let rule : c.rule ≡ (decode b).rule g = ap (λ y. y.rule) ec in
        er ∙ report_is (decode b) g c.rule c.counters s rule (ap (λ y. y.counters) ec) (es ∙ ap (λ k. sums_of (decode b) k g) (sym rule))

    pub eight_lines : length r.lines ≡ user_count
    unfolding lines_of
    eight_lines = ap (λ x. length x.lines) told

    pub crew_present : crew_line g r.totals ++ users_text user_count (λ u. get_or r.lines u no_line) ≡ crew_text (decode b) g
    unfolding crew_text
    crew_present =
        rw (sym absent_is ∙ x)
        (ap₂ (λ y z. y ++ z) (ap (λ y. crew_line g y.totals) told) (ap (λ y. users_text user_count (λ u. get_or y.lines u no_line)) told ∙ lines_are (decode b) g))

-- One group more.
pub next_crew : (l : Ledger) (g : ℕ) → crews_text (g + 1) l ≡ crews_text g l ++ crew_text l g
unfolding crews_text
next_crew l g = rw add-one refl
