-- A statement made from a group's rule, counters and sums: put together from its parts, and that of the rules.
use mathlib.Core.Path.{◌≡◌, refl, sym, ap, ◌∙◌}
use mathlib.Core.List.{List}
use mathlib.Core.Logic.{◌≢◌}
use Prim.Native.Nat.{ℕ}
use Rattle.format.specs.Layout.{expense_count, use_rule}
use Rattle.format.specs.declared.Line.{Line}
use Rattle.rules.specs.Tests.{sum8, eight_at, eight_of}
use Rattle.rules.specs.Ledger.{Ledger, member_in}
use Rattle.rules.specs.Parts.{members_in, rank_in, weights_in, largest, quotient, remainder, left_over, part_by_use, part_equally, part_in}
use Rattle.rules.specs.Balance.{paid, held, weight, valid_expenses, raw, gift, gifts, members, part, balance, line_of, lines_of, totals_of}
use Rattle.rules.proofs.Basics.{Same, same, other, same?}
use Rattle.rules.proofs.Parts.{other_equally}
use Rattle.balance.specs.declared.Sums.{Sums}
use Rattle.balance.specs.Sums.{uses_to, sums_of}
use Rattle.balance.proofs.Laws.{sums_are, uses_are}
use Rattle.parts.specs.Parts.{gift_at, gifts_from, parts_from}
use Rattle.lines.specs.Lines.{line_at, lines_from}
use Rattle.figures.specs.declared.Report.{Report}
use Rattle.figures.specs.Figures.{report_from}

-- The gifts g, their total t, the members m, the weights w, the parts q, the lines ls.
pub report_made : (n : ℕ) (f : List ℕ) (s : Sums) (g : List ℕ) (t m : ℕ) (w q : List ℕ) (ls : List Line) → g ≡ gifts_from f s.paid s.held → t ≡ sum8 (eight_at g)
    → m ≡ members_in (member_in (eight_at f)) → w ≡ eight_of (eight_at s.uses) → q ≡ parts_from n f t w → ls ≡ lines_from f s.paid s.held g q
    → ◌≡◌ {A = Report} (record { totals = record { answer = 0; members = m; expenses = s.expenses; gifts = t }; lines = ls }) (report_from n f s)
unfolding report_from
report_made n f s g t m w q ls eg et em ew eq el =
    let ft : t ≡ sum8 (eight_at (gifts_from f s.paid s.held)) = et ∙ ap (λ x. sum8 (eight_at x)) eg in
    let fl : ls ≡ lines_from f s.paid s.held g (parts_from n f t w) = el ∙ ap (lines_from f s.paid s.held g) eq in
    (λ i. record { totals = record { answer = 0; members = m; expenses = s.expenses; gifts = t }; lines = fl i })
    ∙ (λ i. record {
      totals = record { answer = 0; members = em i; expenses = s.expenses; gifts = ft i };
      lines = lines_from f s.paid s.held (eg i) (parts_from n f (ft i) (ew i));
    })

-- Under another rule than the second the parts are equal, and the uses are not looked at.
without_uses : (n : ℕ) (f : List ℕ) (s : Sums) (w : List ℕ) → n ≢ use_rule → report_from n f s ≡ report_from n f (record { paid = s.paid; held = s.held; uses = w; expenses = s.expenses })
unfolding report_from parts_from
without_uses n f s w ne = ap (λ q. record { totals = record { answer = 0; members = members_in (member_in (eight_at f)); expenses = s.expenses; gifts = t }; lines = lines_from f s.paid s.held g q }) (equally s.uses ∙ sym (equally w))
  where
    g : List ℕ
    g = gifts_from f s.paid s.held

    t : ℕ
    t = sum8 (eight_at g)

    equally : (x : List ℕ) → parts_from n f t (eight_of (eight_at x)) ≡ eight_of (part_equally (member_in (eight_at f)) t)
    equally x = λ i. eight_of (λ u. other_equally (member_in (eight_at f)) t (eight_at (eight_of (eight_at x))) n ne u i)

-- It is the rules' statement: from whole sums, whatever the rule; and from the sums that code has.
whole_report : (l : Ledger) (g : ℕ)
    → report_from (l.rule g) (eight_of (l.counter g)) (record { paid = eight_of (paid l g); held = eight_of (held l g); uses = eight_of (weight l g); expenses = valid_expenses l g })
    ≡ record { totals = totals_of l g; lines = lines_of l g }
unfolding report_from gifts_from gift_at parts_from lines_from line_at gift gifts members members_in rank_in weights_in largest quotient remainder left_over part_by_use part_equally part_in part raw balance line_of lines_of totals_of
whole_report l g = refl

pub report_is : (l : Ledger) (g n : ℕ) (f : List ℕ) (s : Sums) → n ≡ l.rule g → f ≡ eight_of (l.counter g) → s ≡ sums_of l n g → report_from n f s ≡ record { totals = totals_of l g; lines = lines_of l g }
report_is l g n f s en ef es = ap (report_from n f) (es ∙ sums_are l n g en) ∙ go (same? n use_rule) ∙ (λ i. report_from (en i) (ef i) (whole (eight_of (weight l g)))) ∙ whole_report l g
  where
    whole : List ℕ → Sums
    whole w = record { paid = eight_of (paid l g); held = eight_of (held l g); uses = w; expenses = valid_expenses l g }

    go : Same n use_rule → report_from n f (whole (eight_of (uses_to expense_count l n g))) ≡ report_from n f (whole (eight_of (weight l g)))
    go (same p _) = λ i. report_from n f (whole (eight_of (λ u. uses_are l n g u en p i)))
    go (other p _) = without_uses n f (whole (eight_of (uses_to expense_count l n g))) (eight_of (weight l g)) p
