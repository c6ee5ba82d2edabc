-- The answers of a month statement, over plain variables: from the code's tests, and what is known where none refuses.
use Rattle.std.proofs.Common.{◌≡◌, ◌≢◌, sym, ap, ◌∙◌, Bool, true, false, not, cond, List, ◌∷◌, ℕ, ◌≤◌, ◌<◌, ℤ, length, eq-eqb, ne_eqb, arith}
use Rattle.format.specs.Layout.{current, user_count, group_count, month_count}
use Rattle.format.specs.declared.GroupRecord.{GroupRecord}
use Rattle.format.specs.Bytes.{Bytes}
use Rattle.refusals.specs.declared.Fault.{Fault}
use Rattle.refusals.specs.Numbers.{fault_number}
use Rattle.refusals.proofs.AboveZero.{fault_above_zero}
use Rattle.rules.specs.Tests.{first, every8, all_of}
use Rattle.rules.specs.Ledger.{nobody, group_absent}
use Rattle.images.specs.Meaning.{counters_of, group_record_of, group_record_at}
use Rattle.rules.specs.Month.{month_raws}
use Rattle.images.specs.Image.{decode, image_check}
use Rattle.images.specs.Calls.{month_checks, month_answer, month_raws_left, month_answer_in, month_raws_in}
use Rattle.rules.proofs.Basics.{Less, less, more, less?, clash, ltb_true, ltb_false}
use Rattle.rules.proofs.Answers.{first_yes, first_no, first_none}
use Rattle.images.proofs.Round.{group_out}
use Rattle.kinds.proofs.Seen.{counters_of_lem}

-- Beyond the sixteen there is no group; a group by its counters as code has them.
pub absent_beyond : (b : Bytes) (g : ℕ) → group_count ≤ g → true ≡ group_absent (decode b) g
unfolding every8 all_of
absent_beyond b g k = ap nobody (counters_of_lem b g (group_record_of (λ u. 0) 0) (group_out current b g k))

pub absent_is : (b : Bytes) (g : ℕ) (c : GroupRecord) (t : Bool) → c ≡ group_record_at (decode b) g → t ≡ nobody (counters_of c) → t ≡ group_absent (decode b) g
absent_is b g c t ec et = et ∙ ap nobody (counters_of_lem b g c ec)

-- The code's tests, one after the other.
module _ (b : Bytes) (g m : ℕ) (raws : List ℤ) where
  -- What is answered is a refusal by this number, and the numbers stay.
  abbrev pub Refused : ℕ → Type 0
  Refused k = (k ≡ month_answer b g m (length raws)) × (raws ≡ month_raws_left b g m raws)

  refusal : (k : ℕ) → k ≡ month_answer b g m (length raws) → k ≢ 0 → Refused k
  unfolding month_raws_in
  refusal k e z = (e, ap (λ t. cond t (month_raws (decode b) g m) raws) (sym (ne_eqb (month_answer b g m (length raws)) 0 (λ w. z (e ∙ w)))))

  pub refused_image : (f : Fault) → fault_number f ≡ image_check b → Refused (fault_number f)
  unfolding month_answer_in
  refused_image f q = let z = fault_above_zero f in refusal (fault_number f) (rw (ne_eqb (image_check b) 0 (λ w. z (q ∙ w))) q) z

  module _ (sound : image_check b ≡ 0) (absent : Bool) (e : absent ≡ group_absent (decode b) g) where
    own : (k : ℕ) → k ≡ first ((absent, 10) ∷ month_checks (length raws) m) → k ≡ month_answer b g m (length raws)
    unfolding month_answer_in
    own k p = rw (eq-eqb (image_check b) 0 sound) (p ∙ ap (λ t. first ((t, 10) ∷ month_checks (length raws) m)) e)

    pub refused_absent : absent ≡ true → Refused 10
    refused_absent x = refusal 10 (own 10 (first_yes _ _ _ x)) (λ w. omega arith)

    module _ (x : absent ≡ false) where
      pub refused_count : length raws ≢ user_count → Refused 32
      refused_count y = refusal 32 (own 32 (first_no _ _ _ _ x (first_yes _ _ _ (ap not (ne_eqb (length raws) user_count y))))) (λ w. omega arith)

      pub group_ok : g < group_count
      group_ok = go (less? g group_count)
        where
          go : Less g group_count → g < group_count
          go (less h _) = h
          go (more h _) = absurd (clash (sym (absent_beyond b g h ∙ sym e)) x)

      module _ (y : length raws ≡ user_count) where
        pub refused_month : month_count ≤ m → Refused 35
        refused_month z = refusal 35 (own 35 (first_no _ _ _ _ x (first_no _ _ _ _ (ap not (eq-eqb (length raws) user_count y)) (first_yes _ _ _ (ap not (ltb_false m month_count z)))))) (λ w. omega arith)

        pub granted : m < month_count → (out : List ℤ) → out ≡ month_raws (decode b) g m → (0 ≡ month_answer b g m (length raws)) × (out ≡ month_raws_left b g m raws)
        unfolding month_raws_in
        granted z out q =
            let a = own 0 (first_no _ _ _ _ x (first_no _ _ _ _ (ap not (eq-eqb (length raws) user_count y)) (first_no _ _ _ _ (ap not (ltb_true m month_count z)) first_none))) in
            (a, q ∙ ap (λ t. cond t (month_raws (decode b) g m) raws) (sym (eq-eqb (month_answer b g m (length raws)) 0 (sym a))))
