-- The list of who pays whom of a group: its table is the code's, it clears the group's balances, and so do the numbers that a call writes for an image
-- that passes the check. It rests on the rules' Balance (the balances sum to zero with a member left) and Sentence.
use mathlib.Core.Path.{◌≡◌, refl, sym, ap, ap₂, ◌∙◌}
use mathlib.Core.Bool.{Bool, true, false, not}
use mathlib.Core.List.{List, [], ◌∷◌}
use Prim.Native.Nat.{ℕ, suc, ◌*◌, ◌<◌}
use native.Mathlib.Omega.{arith}
use borrow.Author.Tests.{eq-eqb}
use lib.Dec.{eqb}
use lib.IntN.{pos}
use lib.ListN.{length, length-append}
use lib.Seq.{take_at, drop_at}
use Rattle.format.specs.Layout.{Version, user_count, payments_size}
use Rattle.format.specs.Bytes.{Bytes}
use Rattle.format.specs.declared.Line.{Line}
use Rattle.rules.specs.Tests.{first}
use Rattle.rules.specs.Ledger.{Ledger, group_absent}
use Rattle.rules.specs.Balance.{members, lines_of, balances_in, sumℤ}
use Rattle.rules.specs.Payments.{settled, row_by_row}
use Rattle.rules.specs.Cleared.{table_of, row_at, Cleared}
use Rattle.images.specs.Image.{decode_in, home_of, image_check_in, CheckedIn}
use Rattle.images.specs.Calls.{or_else, statement_answer_in, statement_lines_in, payments_checks, payments_answer_in, payments_in, payments_cents_in}
use Rattle.rules.proofs.Basics.{Same, same, other, same?}
use Rattle.rules.proofs.Accepted.{pass}
use Rattle.rules.proofs.Sound.{Payers, payers, positive}
use Rattle.rules.proofs.Balance.{balances_member}
use Rattle.images.proofs.Round.{sound_decoded}
use Rattle.images.proofs.Checked.{or_else_zero}
use Rattle.rules.proofs.Sentence.{payments_settled, payments_clear}

-- Rows of one width, written row by row: how many numbers, and the table out of them.
abbrev pub Wide : ℕ → List (List ℕ) → Type 0
Wide w t = (i : ℕ) → i < length t → length (row_at t i) ≡ w

pub by_row_length : (w : ℕ) (t : List (List ℕ)) → Wide w t → length (row_by_row t) ≡ length t * w
unfolding row_by_row
by_row_length w [] h = omega arith
by_row_length w (r ∷ t) h = length-append r (row_by_row t) ∙ (let a = h 0 (omega arith) in let b = by_row_length w t (λ i k. h (suc i) (omega arith)) in omega arith)

pub table_back : (w : ℕ) (t : List (List ℕ)) → Wide w t → table_of (length t) w (row_by_row t) ≡ t
unfolding row_by_row table_of
table_back w [] h = refl
table_back w (r ∷ t) h =
    let a = h 0 (omega arith) in
    ap₂ ◌∷◌ (take_at r (row_by_row t) w a) (ap (table_of (length t) w) (drop_at r (row_by_row t) w a) ∙ table_back w t (λ i k. h (suc i) (omega arith)))

pub lines_eight : (l : Ledger) (g : ℕ) → length (balances_in (lines_of l g)) ≡ user_count
unfolding lines_of
lines_eight l g = refl

-- A group with a member left.
module _ (l : Ledger) (g : ℕ) (p : Payers l) (m : 0 < members l g) where
  pub list_settled : payments_in l g ≡ settled (balances_in (lines_of l g))
  list_settled = payments_settled (balances_in (lines_of l g)) (balances_member l g p m)

  pub list_clears : Cleared (balances_in (lines_of l g)) (payments_in l g)
  list_clears = payments_clear (balances_in (lines_of l g)) (balances_member l g p m)

  list_height : length (payments_in l g) ≡ user_count
  list_height = list_clears.height ∙ lines_eight l g

  list_wide : Wide user_count (payments_in l g)
  list_wide i k = list_clears.width i (let a = list_height in let b = lines_eight l g in omega arith) ∙ lines_eight l g

  pub list_length : length (row_by_row (payments_in l g)) ≡ payments_size
  list_length = let a = list_height in let b = by_row_length user_count (payments_in l g) list_wide in b ∙ ap (λ n. n * user_count) a

  pub list_back : table_of user_count user_count (row_by_row (payments_in l g)) ≡ payments_in l g
  list_back = ap (λ n. table_of n user_count (row_by_row (payments_in l g))) (sym list_height) ∙ table_back user_count (payments_in l g) list_wide

-- The refusals are those of the statement with eight lines lent, and then two more, 32 first.
pub after_statement : (v : Version) (b : Bytes) (g n : ℕ)
    → payments_answer_in v b g n ≡ or_else (statement_answer_in v b g user_count) (first ((not (eqb n payments_size), 32) ∷ (eqb (members (decode_in v b) g) 0, 33) ∷ []))
unfolding payments_answer_in statement_answer_in first
after_statement v b g n = go (same? (image_check_in v b) 0) (group_absent (decode_in v b) g) refl
  where
    go : Same (image_check_in v b) 0 → (t : Bool) → group_absent (decode_in v b) g ≡ t
        → payments_answer_in v b g n ≡ or_else (statement_answer_in v b g user_count) (first ((not (eqb n payments_size), 32) ∷ (eqb (members (decode_in v b) g) 0, 33) ∷ []))
    go (same p q) true h = rw (q, h)
    go (same p q) false h = rw (q, h)
    go (other p q) t h = rw (q, q)

-- An image that passes the check.
module _ {v : Version} (b : Bytes) (ok : CheckedIn v b) where
  all_users : Payers (decode_in v b)
  all_users = payers (home_of b) (decode_in v b) (sound_decoded b ok)

  pub checked_zero : (g : ℕ) → 0 < members (decode_in v b) g → sumℤ (balances_in (lines_of (decode_in v b) g)) ≡ pos 0
  checked_zero g = balances_member (decode_in v b) g all_users

  -- What a call writes for it, beside the statement of the same image.
  module _ (g : ℕ) (cents : List ℕ) (e : payments_answer_in v b g (length cents) ≡ 0) where
    tests : (first ((group_absent (decode_in v b) g, 10) ∷ payments_checks (length cents) (members (decode_in v b) g)) ≡ 0) × (image_check_in v b ≡ 0)
    unfolding payments_answer_in
    tests = let z = or_else_zero (image_check_in v b) _ e in (z.1, z.0)

    group_here : group_absent (decode_in v b) g ≡ false
    group_here = pass _ tt tests.0 0

    member_left : 0 < members (decode_in v b) g
    member_left = positive (members (decode_in v b) g) (pass _ tt tests.0 2)

    pub cents_are : payments_cents_in v b g cents ≡ row_by_row (payments_in (decode_in v b) g)
    unfolding payments_cents_in
    cents_are = rw (eq-eqb (payments_answer_in v b g (length cents)) 0 e)

    stated : (lines : List Line) → length lines ≡ user_count → statement_lines_in v b g lines ≡ lines_of (decode_in v b) g
    unfolding statement_lines_in statement_answer_in first
    stated lines n = rw (tests.1, n, group_here)

    pub cents_clear : (lines : List Line) → length lines ≡ user_count → Cleared (balances_in (statement_lines_in v b g lines)) (table_of user_count user_count (payments_cents_in v b g cents))
    cents_clear lines n = rw (stated lines n, cents_are, list_back (decode_in v b) g all_users member_left) (list_clears (decode_in v b) g all_users member_left)
