-- The answers of a list of who pays whom, from what the statement's report tells, over plain variables.
use Rattle.std.proofs.Common.{◌≡◌, ◌≢◌, sym, ap, ◌∙◌, not, cond, List, ℕ, ◌<◌, ℤ, length, eq-eqb, ne_eqb, arith}
use Rattle.format.specs.Layout.{current, user_count, payments_size}
use Rattle.format.specs.Bytes.{Bytes, Octets}
use Rattle.rules.specs.Tests.{first}
use Rattle.rules.specs.Balance.{members, balances_in}
use Rattle.rules.specs.Payments.{settled, row_by_row}
use Rattle.images.specs.Image.{decode, home_of, image_check, Checked}
use Rattle.images.specs.Calls.{or_else, statement_answer, payments_checks, payments_answer, payments_in, payments_cents, statement_answer_in, payments_cents_in}
use Rattle.rules.proofs.Answers.{first_yes, first_no, first_none}
use Rattle.rules.proofs.Sound.{payers, positive}
use Rattle.images.proofs.Round.{sound_decoded}
use Rattle.images.proofs.Checked.{or_else_zero}
use Rattle.images.proofs.Listed.{after_statement, list_settled}
use Rattle.figures.specs.declared.Report.{Report}
use Rattle.figures.specs.Whole.{report_of}
use Rattle.figures.proofs.Told.{members_are, lines_are}

module _ (b : Bytes) (g : ℕ) (cents : List ℕ) where
  -- What is answered is a refusal by this number, and the numbers stay.
  abbrev pub Refused : ℕ → Type 0
  Refused k = (k ≡ payments_answer b g (length cents)) × (cents ≡ payments_cents b g cents)

  refusal : (k : ℕ) → k ≡ payments_answer b g (length cents) → k ≢ 0 → Refused k
  unfolding payments_cents_in
  refusal k e z = (e, ap (λ t. cond t (row_by_row (payments_in (decode b) g)) cents) (sym (ne_eqb (payments_answer b g (length cents)) 0 (λ w. z (e ∙ w)))))

  -- The statement is refused.
  pub refused_statement : (k : ℕ) → k ≡ statement_answer b g user_count → k ≢ 0 → Refused k
  refused_statement k e z =
      let y : k ≡ or_else k (first (payments_checks (length cents) (members (decode b) g))) = rw (ne_eqb k 0 z) in
      refusal k (y ∙ ap (λ x. or_else x (first (payments_checks (length cents) (members (decode b) g)))) e ∙ sym (after_statement current b g (length cents))) z

  -- It is not.
  module _ (z : 0 ≡ statement_answer b g user_count) (r : Report) (e : r ≡ report_of b g user_count) where
    own : (k : ℕ) → k ≡ first (payments_checks (length cents) r.totals.members) → k ≡ payments_answer b g (length cents)
    own k q =
        q ∙ ap (λ m. first (payments_checks (length cents) m)) (members_are b g user_count z r e)
        ∙ ap (λ x. or_else x (first (payments_checks (length cents) (members (decode b) g)))) z
        ∙ sym (after_statement current b g (length cents))

    pub refused_count : length cents ≢ payments_size → Refused 32
    refused_count n = refusal 32 (own 32 (first_yes _ _ _ (ap not (ne_eqb (length cents) payments_size n)))) (λ w. omega arith)

    module _ (n : length cents ≡ payments_size) where
      pub refused_members : r.totals.members ≡ 0 → Refused 33
      refused_members m = refusal 33 (own 33 (first_no _ _ _ _ (ap not (eq-eqb (length cents) payments_size n)) (first_yes _ _ _ (eq-eqb r.totals.members 0 m)))) (λ w. omega arith)

      -- The table that the code makes is the rules', since the balances of a group with a member sum to zero.
      pub granted : r.totals.members ≢ 0 → Octets b → (balances : List ℤ) (table : List (List ℕ)) (out : List ℕ) → balances ≡ balances_in r.lines → table ≡ settled balances → out ≡ row_by_row table
          → (0 ≡ payments_answer b g (length cents)) × (out ≡ payments_cents b g cents)
      unfolding payments_cents_in statement_answer_in
      granted m o balances table out eb et eo =
          let a = own 0 (first_no _ _ _ _ (ap not (eq-eqb (length cents) payments_size n)) (first_no _ _ _ _ (ne_eqb r.totals.members 0 m) first_none)) in
          let c : Checked b = record { octets = o; passes = (or_else_zero (image_check b) _ (sym z)).0 } in
          let k : 0 < members (decode b) g = rw (sym (members_are b g user_count z r e)) (positive r.totals.members (ne_eqb r.totals.members 0 m)) in
          let s = list_settled (decode b) g (payers (home_of b) (decode b) (sound_decoded b c)) k in (
            a,
            eo ∙ ap row_by_row (et ∙ ap settled (eb ∙ ap balances_in (lines_are b g user_count z r e)) ∙ sym s)
                ∙ ap (λ t. cond t (row_by_row (payments_in (decode b) g)) cents) (sym (eq-eqb (payments_answer b g (length cents)) 0 (sym a))),
          )
