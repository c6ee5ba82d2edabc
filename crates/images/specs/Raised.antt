-- Document 02, A3: "A van may raise its image between steps." Raising has no part in what a van does: done before raising or after it, it is the same.
use Rattle.std.specs.Prelude.{◌≡◌, List, ℕ, ℤ, length}
use Rattle.format.specs.Layout.{Version}
use Rattle.format.specs.Bytes.{Bytes}
use Rattle.format.specs.declared.Line.{Line}
use Rattle.images.specs.Image.{decode_in, replica_of, home_of, CheckedIn}
use Rattle.images.specs.Record.{read_action_in}
use Rattle.images.specs.Calls.{act_answer_in, act_image_in, merge_images_answer_in, merge_images_in, statement_totals_in, statement_lines_in, payments_answer_in, payments_cents_in, balances_answer_in, balances_left_in, raised_in}

-- An image b that passes the check of version w, raised to version v.
pub record RaisedAlike (w v : Version) (b : Bytes) : Type 0 where
  -- It passes the check there, holds the same groups and expenses, and keeps its header but for the version.
  pub checked : CheckedIn v (raised_in v b)
  pub ledger : decode_in v (raised_in v b) ≡ decode_in w b
  pub replica : replica_of (raised_in v b) ≡ replica_of b
  pub homes : home_of (raised_in v b) ≡ home_of b
  -- An action made before raising and the same made after it: the same answer, the same image. (Its record need not be the same: a founding of version 1 names
  -- no rule.)
  pub acted : (x y : Bytes) → read_action_in w x ≡ read_action_in v y
      → (act_answer_in w b x ≡ act_answer_in v (raised_in v b) y) × (raised_in v (act_image_in w b x) ≡ act_image_in v (raised_in v b) y)
  -- A join of two images before raising, and of both after it.
  pub merged : (d : Bytes) → CheckedIn w d
      → (merge_images_answer_in w b d ≡ merge_images_answer_in v (raised_in v b) (raised_in v d)) × (raised_in v (merge_images_in w b d) ≡ merge_images_in v (raised_in v b) (raised_in v d))
  -- A statement, a list of who pays whom and the balances of all groups.
  pub stated : (g : ℕ) (lines : List Line)
      → (statement_totals_in w b g (length lines) ≡ statement_totals_in v (raised_in v b) g (length lines)) × (statement_lines_in w b g lines ≡ statement_lines_in v (raised_in v b) g lines)
  pub listed : (g : ℕ) (cents : List ℕ)
      → (payments_answer_in w b g (length cents) ≡ payments_answer_in v (raised_in v b) g (length cents)) × (payments_cents_in w b g cents ≡ payments_cents_in v (raised_in v b) g cents)
  pub gathered : (balances : List ℤ)
      → (balances_answer_in w b (length balances) ≡ balances_answer_in v (raised_in v b) (length balances)) × (balances_left_in w b balances ≡ balances_left_in v (raised_in v b) balances)
