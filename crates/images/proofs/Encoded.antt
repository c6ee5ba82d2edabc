-- The image of a sound ledger whose numbers fit their fields, in each version: it passes the check, it decodes to that ledger, and each call on it answers and leaves
-- what the rules say of the ledger.
use mathlib.Core.Path.{◌≡◌, refl, sym, ap, ◌∙◌, fun_ext}
use mathlib.Core.Bool.{Bool, true, false, not, cond}
use mathlib.Core.Option.{Option, none, some}
use mathlib.Core.Logic.{◌≢◌}
use mathlib.Core.List.{List, [], ◌∷◌}
use Prim.Native.Nat.{ℕ, ◌/◌, ◌%◌, ◌<◌}
use native.Mathlib.Omega.{arith}
use lib.Dec.{ltb, eqb}
use lib.ListN.{length}
use Rattle.format.specs.Layout.{Version, v1, v2, v3, number_in, image_size_in, group_count, user_count, replica_count, expense_count, no_expense}
use Rattle.format.specs.Bytes.{Bytes, day_told_in, expense_of, expense_part_in}
use Rattle.format.specs.declared.Line.{Line}
use Rattle.format.proofs.Round.{told_in}
use Rattle.rules.specs.Tests.{number, all_of, every8, first}
use Rattle.rules.specs.Ledger.{Expense, Ledger, group_absent}
use Rattle.rules.specs.Sound.{rule_fits, rules_fit, sound_in, sound_expense, sound}
use Rattle.rules.specs.Balance.{members, lines_of, totals_of}
use Rattle.rules.specs.Payments.{row_by_row}
use Rattle.rules.specs.Action.{Action}
use Rattle.rules.specs.Step.{ledger_after}
use Rattle.rules.specs.Refusal.{answer}
use Rattle.rules.specs.Merge.{merge_ledger, merge_answer}
use Rattle.images.specs.Meaning.{present_in, record_of, sound_record_in}
use Rattle.images.specs.Image.{Homes, encode_in, decode_in, replica_of, home_of, sound_part_in, mark_ok, version_ok_in, header_ok, image_check_in}
use Rattle.images.specs.Record.{read_action_in}
use Rattle.images.specs.Calls.{act_answer_in, acted_in, acted_by_in, act_image_in, merge_images_answer_in, merged_image_in, merge_images_in, statement_answer_in, statement_totals_in, statement_lines_in, payments_checks, payments_answer_in, payments_in, payments_cents_in}
use Rattle.rules.proofs.Basics.{ltb_false, ltb_true, eqb_self}
use Rattle.rules.proofs.Accepted.{every_below_lem}
use Rattle.rules.proofs.Sound.{of_each, of_every8, of_every_below, eqb_other, Payer, payers}
use Rattle.images.proofs.Range.{PlainOption, Encodable}
use Rattle.images.proofs.Codec.{by8, expense_told, present_back}
use Rattle.images.proofs.Encoding.{encode_length, expense_part_lem, decode_encode}

-- Zero is read as zero.
zero_read : (v : Version) → day_told_in v 0 ≡ 0
zero_read v1 = refl
zero_read v2 = refl
zero_read v3 = refl

number_two : (b : Bool) → number b < 2
number_two true = omega arith
number_two false = omega arith

-- A ledger that an image of a version can hold.
pub record Holds (v : Version) (home : ℕ → ℕ) (l : Ledger) : Type 0 where
  pub fit : Encodable v l
  pub good : sound home l ≡ true

-- The bytes of a version's number.
number_low : (v : Version) → eqb (number_in v % 256) (number_in v) ≡ true
number_low v1 = refl
number_low v2 = refl
number_low v3 = refl

number_high : (v : Version) → eqb (number_in v / 256) 0 ≡ true
number_high v1 = refl
number_high v2 = refl
number_high v3 = refl

module _ {v : Version} (home : ℕ → ℕ) (hm : Homes home) (r : ℕ) (r8 : r < replica_count) (l : Ledger) (h : Holds v home l) where
  pub replica_is : replica_of (encode_in v home r l) ≡ r
  unfolding replica_of encode_in
  replica_is = refl

  pub home_is : home_of (encode_in v home r l) ≡ home
  unfolding home_of encode_in
  home_is = fun_ext (by8 0 (home_of (encode_in v home r l)) home (λ u k. rw (ltb_false u user_count k) (sym (hm.beyond u k))) refl refl refl refl refl refl refl refl)

  pub decode_is : decode_in v (encode_in v home r l) ≡ l
  decode_is = decode_encode v home r l h.fit (payers home l h.good)

  record_sound : (n : ℕ) (f : ℕ → ℕ) (c : ℕ) (o : Option Expense) → PlainOption v o → Payer o → sound_expense home l c o ≡ true → (n ≡ home (record_of o).payer) → (f ≡ l.counter (record_of o).group)
      → sound_record_in v n f c (told_in v (record_of o)) ≡ true
  unfolding sound_record_in record_of sound_expense every8 all_of
  record_sound n f c none p q s a b = rw (zero_read v)
  record_sound n f c (some e) p q s a b =
      let m : present_in v (told_in v (record_of (some e))) ≡ e = present_back v e p in
      let z : sound_in n f c (present_in v (told_in v (record_of (some e)))) ≡ true = ap (sound_in n f c) m ∙ ap (λ k. sound_in k f c e) a ∙ ap (λ k. sound_in (home e.payer) k c e) b ∙ s in
      rw (eqb_other e.payer no_expense (omega arith), ltb_true (number e.deleted) 2 (number_two e.deleted), z)

  part_sound : (c : ℕ) → c < expense_count → sound_part_in v (encode_in v home r l) c ≡ true
  unfolding sound_part_in sound
  part_sound c k =
      let e : expense_of (expense_part_in v (encode_in v home r l) c) ≡ told_in v (record_of (l.expense c)) = ap expense_of (expense_part_lem v home r l c k) ∙ expense_told v (l.expense c) in
      rw (e, home_is, decode_is) (record_sound _ _ c (l.expense c) (h.fit.plain c) (payers home l h.good c k) (every_below_lem expense_count _ h.good c k) refl refl)

  mark_is : mark_ok (encode_in v home r l) ≡ true
  unfolding encode_in mark_ok
  mark_is = of_each _ (refl, (refl, (refl, tt)))

  version_is : version_ok_in v (encode_in v home r l) ≡ true
  unfolding encode_in version_ok_in
  version_is = of_each _ (number_low v, (number_high v, tt))

  rules_are : rules_fit l ≡ true
  unfolding rules_fit
  rules_are = of_every_below group_count (λ g. rule_fits (l.counter g) (l.rule g)) (λ g k. (h.fit.ruled g).fits)

  header_is : header_ok (encode_in v home r l) ≡ true
  unfolding encode_in header_ok
  header_is =
      of_each _ (
        ltb_true r replica_count r8,
        (of_every8 (λ u. ltb (home_of (encode_in v home r l) u) replica_count) (λ u k. rw home_is (ltb_true (home u) replica_count (hm.below u k))), (refl, (refl, tt))),
      )

  -- It passes the check.
  pub check_is : image_check_in v (encode_in v home r l) ≡ 0
  unfolding image_check_in first
  check_is = rw (encode_length v home r l, eqb_self (image_size_in v), mark_is, version_is, header_is, decode_is, rules_are, of_every_below expense_count (sound_part_in v (encode_in v home r l)) part_sound)

  -- An action.
  pub act_answer_lem : (x : Bytes) → act_answer_in v (encode_in v home r l) x ≡ answer home r (read_action_in v x) l
  unfolding act_answer_in
  act_answer_lem x = rw (check_is, home_is, replica_is, decode_is)

  pub acted_is : (a : Action) → acted_in v (encode_in v home r l) a ≡ encode_in v home r (ledger_after a l)
  unfolding acted_in
  acted_is a = λ i. encode_in v (home_is i) (replica_is i) (ledger_after a (decode_is i))

  pub act_image_lem : (x : Bytes) → act_image_in v (encode_in v home r l) x ≡ cond (eqb (answer home r (read_action_in v x) l) 0) (acted_by_in v (encode_in v home r l) (read_action_in v x)) (encode_in v home r l)
  unfolding act_image_in
  act_image_lem x = ap (λ k. cond (eqb k 0) (acted_by_in v (encode_in v home r l) (read_action_in v x)) (encode_in v home r l)) (act_answer_lem x)

  -- A statement: its answer, its totals and its lines are those of the ledger.
  pub statement_answer_lem : (g n : ℕ) → statement_answer_in v (encode_in v home r l) g n ≡ first ((group_absent l g, 10) ∷ (not (eqb n user_count), 32) ∷ [])
  unfolding statement_answer_in
  statement_answer_lem g n = rw (check_is, decode_is)

  module _ (g : ℕ) (here : group_absent l g ≡ false) where
    pub totals_shown : statement_totals_in v (encode_in v home r l) g user_count ≡ totals_of l g
    unfolding statement_totals_in first
    totals_shown = rw (statement_answer_lem g user_count, here, decode_is)

    pub lines_shown : (lines : List Line) → length lines ≡ user_count → statement_lines_in v (encode_in v home r l) g lines ≡ lines_of l g
    unfolding statement_lines_in first
    lines_shown lines n = rw (n, statement_answer_lem g user_count, here, decode_is)

    pub few_refused : (n : ℕ) → eqb n user_count ≡ false → statement_answer_in v (encode_in v home r l) g n ≡ 32
    unfolding first
    few_refused n e = rw (statement_answer_lem g n, here, e)

  pub absent_refused : (g n : ℕ) → group_absent l g ≡ true → statement_answer_in v (encode_in v home r l) g n ≡ 10
  unfolding first
  absent_refused g n e = rw (statement_answer_lem g n, e)

  -- A list of who pays whom: its answer and what it writes are those of the ledger.
  pub payments_answer_lem : (g n : ℕ) → payments_answer_in v (encode_in v home r l) g n ≡ first ((group_absent l g, 10) ∷ payments_checks n (members l g))
  unfolding payments_answer_in
  payments_answer_lem g n = rw (check_is, decode_is)

  pub payments_cents_lem : (g : ℕ) (cents : List ℕ) → payments_cents_in v (encode_in v home r l) g cents ≡ cond (eqb (payments_answer_in v (encode_in v home r l) g (length cents)) 0) (row_by_row (payments_in l g)) cents
  unfolding payments_cents_in
  payments_cents_lem g cents = ap (λ m. cond (eqb (payments_answer_in v (encode_in v home r l) g (length cents)) 0) (row_by_row (payments_in m g)) cents) decode_is

-- An image of another length than the version's is answered 1.
pub check_length : (v : Version) (b : Bytes) → length b ≢ image_size_in v → image_check_in v b ≡ 1
unfolding image_check_in first
check_length v b n = rw (eqb_other (length b) (image_size_in v) n)

-- A merge.
module _ {v : Version} (home : ℕ → ℕ) (hm : Homes home) (r s : ℕ) (r8 : r < replica_count) (s8 : s < replica_count) (l m : Ledger) (h : Holds v home l) (k : Holds v home m) where
  same_homes : every8 (λ u. eqb (home_of (encode_in v home r l) u) (home_of (encode_in v home s m) u)) ≡ true
  same_homes = of_every8 _ (λ u j. rw (home_is home hm r r8 l h, home_is home hm s s8 m k) (eqb_self (home u)))

  pub merge_answer_lem : merge_images_answer_in v (encode_in v home r l) (encode_in v home s m) ≡ merge_answer l m
  unfolding merge_images_answer_in
  merge_answer_lem = rw (check_is home hm r r8 l h, check_is home hm s s8 m k, same_homes, decode_is home hm r r8 l h, decode_is home hm s s8 m k)

  pub merged_is : merged_image_in v (encode_in v home r l) (encode_in v home s m) ≡ encode_in v home r (merge_ledger l m)
  unfolding merged_image_in
  merged_is = λ i. encode_in v (home_is home hm r r8 l h i) (replica_is home hm r r8 l h i) (merge_ledger (decode_is home hm r r8 l h i) (decode_is home hm s s8 m k i))

  pub merge_image : merge_images_in v (encode_in v home r l) (encode_in v home s m) ≡ cond (eqb (merge_answer l m) 0) (encode_in v home r (merge_ledger l m)) (encode_in v home r l)
  unfolding merge_images_in
  merge_image = λ i. cond (eqb (merge_answer_lem i) 0) (merged_is i) (encode_in v home r l)
