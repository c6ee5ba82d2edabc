-- What a statement's answer says of the lent lines: whether they are filled, and that there are eight of them.
use Rattle.std.proofs.Common.{◌≡◌, sym, ap, cond, List, ℕ, ◌≢◌, eqb, length, eq-eqb, ne_eqb}
use Rattle.format.specs.Layout.{user_count}
use Rattle.format.specs.Bytes.{Bytes}
use Rattle.format.specs.declared.Line.{Line}
use Rattle.rules.specs.Balance.{lines_of}
use Rattle.images.specs.Image.{decode, image_check}
use Rattle.images.specs.Calls.{statement_answer, statement_lines, statement_answer_in, statement_lines_in}
use Rattle.rules.proofs.Basics.{eqb_true}
use Rattle.rules.proofs.Accepted.{pass, not_false}
use Rattle.images.proofs.Checked.{or_else_zero}

module _ (b : Bytes) (g : ℕ) (ys : List Line) where
  -- A refusal leaves the lines.
  pub left_alone : statement_answer b g (length ys) ≢ 0 → ys ≡ statement_lines b g ys
  unfolding statement_lines_in
  left_alone h = sym (ap (λ t. cond t (lines_of (decode b) g) ys) (ne_eqb (statement_answer b g (length ys)) 0 h))

  -- Where no refusal holds, eight lines are lent, and filled.
  module _ (h : 0 ≡ statement_answer b g (length ys)) where
    pub eight_lent : length ys ≡ user_count
    unfolding statement_answer_in
    eight_lent = eqb_true _ _ (not_false (eqb (length ys) user_count) (pass _ tt (or_else_zero (image_check b) _ (sym h)).1 1))

    pub filled : lines_of (decode b) g ≡ statement_lines b g ys
    unfolding statement_lines_in
    filled = sym (ap (λ t. cond t (lines_of (decode b) g) ys) (eq-eqb (statement_answer b g (length ys)) 0 (sym h)))
