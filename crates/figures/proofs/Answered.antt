-- The answers of a statement, from what its callees ensure, over plain variables.
use Rattle.std.proofs.Common.{◌≡◌, ◌≢◌, sym, ap, ◌∙◌, Bool, true, false, not, cond, [], ◌∷◌, ℕ, ◌≤◌, ◌<◌, ltb, eqb, eq-eqb, ne_eqb, IsErrAnd, arith}
use Rattle.std.specs.declared.result.Result.{Result}
use Rattle.std.specs.declared.result.Result.TheVariants.{Ok, Err}
use Rattle.format.specs.Layout.{group_count, user_count}
use Rattle.format.specs.declared.GroupRecord.{GroupRecord}
use Rattle.format.specs.Bytes.{Bytes, group_part}
use Rattle.refusals.specs.declared.Fault.{Fault}
use Rattle.refusals.specs.declared.Refusal.{Refusal}
use Rattle.refusals.specs.Numbers.{fault_number, number, code}
use Rattle.rules.specs.Tests.{first}
use Rattle.rules.specs.Ledger.{nobody, group_absent}
use Rattle.rules.specs.Balance.{lines_of, totals_of}
use Rattle.images.specs.Meaning.{counters_of, group_record_at}
use Rattle.images.specs.Image.{decode, read_group, image_check, decode_in}
use Rattle.images.specs.Calls.{statement_answer, refused_totals, statement_answer_in, statement_totals_in}
use Rattle.refusals.proofs.AboveZero.{fault_above_zero}
use Rattle.rules.proofs.Basics.{ltb_false}
use Rattle.rules.proofs.Sound.{of_every8}
use Rattle.rules.proofs.Answers.{first_yes, first_no, first_none}
use Rattle.balance.specs.declared.Sums.{Sums}
use Rattle.balance.specs.Sums.{sums_of}
use Rattle.kinds.proofs.Seen.{counters_of_lem}
use Rattle.figures.specs.declared.Report.{Report}
use Rattle.figures.specs.Figures.{report_from}
use Rattle.figures.specs.Whole.{zero_lines, refused_report, report_in, report_of}
use Rattle.figures.proofs.Made.{report_is}

-- A refusal that is passed on is answered as it is.
pub passed_on : (r : Result Report Refusal) (e : Refusal) → IsErrAnd r (λ x. x ≡ e) → (code r ≡ number e) × (report_in r ≡ refused_report (number e))
passed_on (Ok x) e h = elim h [ ]
passed_on (Err x) e h = (ap number h, ap (λ y. refused_report (number y)) h)

module _ (b : Bytes) (g n : ℕ) where
  -- What is answered is a refusal by this number.
  abbrev pub Refused : ℕ → Type 0
  Refused k = (k ≡ statement_answer b g n) × (refused_report k ≡ report_of b g n)

  -- A refusal, whichever it is.
  refusal : (k : ℕ) → k ≡ statement_answer b g n → k ≢ 0 → Refused k
  unfolding report_of statement_totals_in
  refusal k q z =
      let e : false ≡ eqb (statement_answer b g n) 0 = sym (ne_eqb (statement_answer b g n) 0 (λ w. z (q ∙ w))) in (
        q,
        (λ i. record { totals = cond (e i) (totals_of (decode b) g) (refused_totals (q i)); lines = cond (e i) (lines_of (decode b) g) zero_lines }),
      )

  pub refused_image : (f : Fault) → fault_number f ≡ image_check b → Refused (fault_number f)
  unfolding statement_answer_in
  refused_image f q = let z = fault_above_zero f in refusal (fault_number f) (rw (ne_eqb (image_check b) 0 (λ w. z (q ∙ w))) q) z

  module _ (sound : image_check b ≡ 0) where
    own : (k : ℕ) → k ≡ first ((group_absent (decode b) g, 10) ∷ (not (eqb n user_count), 32) ∷ []) → k ≡ statement_answer b g n
    unfolding statement_answer_in
    own k e = rw (eq-eqb (image_check b) 0 sound) e

    pub refused_number : group_count ≤ g → Refused 10
    unfolding decode_in
    refused_number k =
        let zeros : (u : ℕ) → u < 8 → not (ltb 0 ((decode b).counter g u)) ≡ true = λ u j. ap (λ t. not (ltb 0 (cond t (read_group (group_part b g) u) 0))) (ltb_false g group_count k) in
        refusal 10 (own 10 (first_yes _ _ _ (of_every8 _ zeros))) (λ z. omega arith)

    -- The counters as code has them.
    module _ (c : GroupRecord) (ec : c ≡ group_record_at (decode b) g) (t : Bool) (et : t ≡ nobody (counters_of c)) where
      absent_is : t ≡ group_absent (decode b) g
      absent_is = et ∙ ap nobody (counters_of_lem b g c ec)

      pub refused_absent : t ≡ true → Refused 10
      refused_absent x = refusal 10 (own 10 (first_yes _ _ _ (sym absent_is ∙ x))) (λ z. omega arith)

      pub refused_lent : t ≡ false → n ≢ user_count → Refused 32
      refused_lent x y = refusal 32 (own 32 (first_no _ _ _ _ (sym absent_is ∙ x) (first_yes _ _ _ (ap not (ne_eqb n user_count y))))) (λ z. omega arith)

      pub granted : (s : Sums) (r : Report) → s ≡ sums_of (decode b) c.rule g → r ≡ report_from c.rule c.counters s → t ≡ false → n ≡ user_count
          → (0 ≡ statement_answer b g n) × (r ≡ report_of b g n)
      unfolding report_of statement_totals_in
      granted s r es er x y =
          let a : 0 ≡ statement_answer b g n = own 0 (first_no _ _ _ _ (sym absent_is ∙ x) (first_no _ _ _ _ (ap not (eq-eqb n user_count y)) first_none)) in
          let e : true ≡ eqb (statement_answer b g n) 0 = sym (eq-eqb (statement_answer b g n) 0 (sym a)) in (
            a,
            er ∙ report_is (decode b) g c.rule c.counters s (ap (λ t. t.rule) ec) (ap (λ t. t.counters) ec) es
                ∙ (λ i. record {
                  totals = cond (e i) (totals_of (decode b) g) (refused_totals (statement_answer b g n));
                  lines = cond (e i) (lines_of (decode b) g) zero_lines;
                }),
          )
