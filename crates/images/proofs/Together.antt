-- The balances of all groups that a call writes are those in the lines of each group's own statement. It rests on the rules' Together (which stands where).
use mathlib.Core.Path.{◌≡◌, refl, sym, ap, ◌∙◌}
use mathlib.Core.Bool.{Bool, true, false, cond}
use mathlib.Core.List.{List}
use Prim.Native.Nat.{ℕ, ◌+◌, ◌*◌, ◌<◌}
use native.Mathlib.Omega.{arith}
use lib.Dec.{eqb}
use lib.IntN.{ℤ, pos}
use lib.ListN.{length, get_or}
use borrow.Author.Tests.{eq-eqb}
use Rattle.format.specs.Layout.{Version, user_count, group_count}
use Rattle.format.specs.Bytes.{Bytes}
use Rattle.format.specs.declared.Line.{Line}
use Rattle.rules.specs.Tests.{first}
use Rattle.rules.specs.Ledger.{group_absent}
use Rattle.rules.specs.Balance.{lines_of, totals_of, balances_in}
use Rattle.rules.specs.Together.{balance_or_zero, all_balances}
use Rattle.images.specs.Image.{decode_in, image_check_in}
use Rattle.images.specs.Calls.{statement_answer_in, statement_totals_in, statement_lines_in, refused_totals, balances_answer_in, balances_left_in}
use Rattle.images.specs.Together.{AsStated}
use Rattle.rules.proofs.Basics.{Same, same, other, same?}
use Rattle.rules.proofs.Accepted.{pass}
use Rattle.rules.proofs.Together.{of_group, balance_at_lem, present_balances}
use Rattle.images.proofs.Checked.{or_else_zero}

-- A statement's totals carry its answer.
pub totals_answer : (v : Version) (b : Bytes) (g n : ℕ) → (statement_totals_in v b g n).answer ≡ statement_answer_in v b g n
unfolding statement_totals_in totals_of
totals_answer v b g n = go (same? (statement_answer_in v b g n) 0)
  where
    go : Same (statement_answer_in v b g n) 0 → (cond (eqb (statement_answer_in v b g n) 0) (totals_of (decode_in v b) g) (refused_totals (statement_answer_in v b g n))).answer ≡ statement_answer_in v b g n
    go (same p q) = rw (q, p)
    go (other p q) = rw q

module _ (v : Version) (b : Bytes) (balances : List ℤ) (e : balances_answer_in v b (length balances) ≡ 0) where
  sound : image_check_in v b ≡ 0
  unfolding balances_answer_in
  sound = (or_else_zero (image_check_in v b) _ e).0

  pub balances_written : balances_left_in v b balances ≡ all_balances (decode_in v b)
  unfolding balances_left_in
  balances_written = rw (eq-eqb (balances_answer_in v b (length balances)) 0 e)

  module _ (g u : ℕ) (g16 : g < group_count) (u8 : u < user_count) where
    figure_is : get_or (balances_left_in v b balances) (user_count * g + u) (pos 0) ≡ balance_or_zero (decode_in v b) g u
    figure_is = ap (λ x. get_or x (user_count * g + u) (pos 0)) balances_written ∙ balance_at_lem group_count (decode_in v b) g u g16 u8

    module _ (lines : List Line) where
      shown_is : statement_answer_in v b g (length lines) ≡ 0 → balance_or_zero (decode_in v b) g u ≡ get_or (balances_in (statement_lines_in v b g lines)) u (pos 0)
      unfolding statement_answer_in statement_lines_in
      shown_is q =
          let here : group_absent (decode_in v b) g ≡ false = pass _ tt (or_else_zero (image_check_in v b) _ q).1 0 in
          sym (of_group (decode_in v b) g u u8)
          ∙ ap (λ x. get_or x u (pos 0)) (present_balances (decode_in v b) g here ∙ ap (λ t. balances_in (cond t (lines_of (decode_in v b) g) lines)) (sym (eq-eqb (statement_answer_in v b g (length lines)) 0 q)))

      none_is : statement_answer_in v b g (length lines) ≡ 10 → balance_or_zero (decode_in v b) g u ≡ pos 0
      unfolding statement_answer_in balance_or_zero first
      none_is q = go (group_absent (decode_in v b) g) (eqb (length lines) user_count) refl refl
        where
          go : (t s : Bool) → group_absent (decode_in v b) g ≡ t → eqb (length lines) user_count ≡ s → balance_or_zero (decode_in v b) g u ≡ pos 0
          go true s a n = rw a
          go false true a n = absurd (let z : 0 ≡ 10 = rw (sound, a, n) at q in omega arith)
          go false false a n = absurd (let z : 32 ≡ 10 = rw (sound, a, n) at q in omega arith)

      pub as_stated : AsStated v b (balances_left_in v b balances) g u lines
      as_stated = record {
        shown = λ q. figure_is ∙ shown_is (sym (totals_answer v b g (length lines)) ∙ q);
        absent = λ q. figure_is ∙ none_is (sym (totals_answer v b g (length lines)) ∙ q);
      }
