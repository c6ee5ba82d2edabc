-- Demand 1: the numbers that the papers write for each call, and that a refusal leaves every lent byte, number and line. "Success returns 0."
-- It rests on the calls on bytes (images, Calls) and on the action of a record (Record). Lookup answers with a part and carries no number.
use Rattle.std.specs.Prelude.{◌≡◌, ◌≢◌, ℕ, ℤ, length}
use Rattle.std.proofs.Math.Option.{Option, none, some}
use mathlib.Core.List.{List, [], ◌∷◌, ◌++◌, Memᴰ}
use Rattle.format.specs.Layout.{Version}
use Rattle.format.specs.Bytes.{Bytes}
use Rattle.format.specs.declared.Line.{Line}
use Rattle.rules.specs.Action.{Action, found, add, leave, enter, put_in, take_out, change, delete, acknowledge, absorb}
use Rattle.images.specs.Image.{image_check_in}
use Rattle.images.specs.Record.{read_action_in}
use Rattle.images.specs.Calls.{empty_answer_in, empty_image_in, act_answer_in, act_image_in, merge_images_answer_in, merge_images_in, refused_totals, statement_totals_in, statement_lines_in, payments_answer_in, payments_cents_in, month_answer_in, month_raws_in, balances_answer_in, balances_left_in, raise_answer_in, raise_image_in}

-- "Empty image. 1 buffer" of another length; "4 van or a home above 7."
abbrev pub empty_numbers : List ℕ
empty_numbers = 0 ∷ 1 ∷ 4 ∷ []

-- "Image check. 1 length; 2 mark; 3 version; 4 header; 5 any unsound cost."
abbrev pub check_numbers : List ℕ
check_numbers = 0 ∷ 1 ∷ 2 ∷ 3 ∷ 4 ∷ 5 ∷ []

-- What each kind adds to 0 to 7, in the paper's order.
abbrev pub kind_numbers : Action → List ℕ
kind_numbers (found a g k) = 8 ∷ 9 ∷ []
kind_numbers (add a o g) = 10 ∷ 11 ∷ 12 ∷ []
kind_numbers (leave a g) = 10 ∷ 11 ∷ 13 ∷ 34 ∷ 14 ∷ []
kind_numbers (enter a c s day) = 15 ∷ 16 ∷ 19 ∷ []
kind_numbers (put_in a g c) = 10 ∷ 17 ∷ 11 ∷ 18 ∷ 21 ∷ 23 ∷ 27 ∷ []
kind_numbers (take_out a g c) = 10 ∷ 17 ∷ 11 ∷ 22 ∷ 18 ∷ 27 ∷ []
kind_numbers (change a c s day) = 17 ∷ 18 ∷ 19 ∷ 24 ∷ 23 ∷ 27 ∷ []
kind_numbers (delete a c) = 17 ∷ 18 ∷ 24 ∷ 11 ∷ 27 ∷ []
kind_numbers (acknowledge a c) = 17 ∷ 24 ∷ 22 ∷ 11 ∷ 25 ∷ 26 ∷ []
kind_numbers (absorb a o c) = 29 ∷ 17 ∷ 24 ∷ 18 ∷ 25 ∷ 26 ∷ 22 ∷ 11 ∷ 28 ∷ 27 ∷ []

-- "Every action, once its image has passed the check. Where that gives no action: 6. 7 actor's home is another van." A record that gives none is never accepted.
abbrev pub act_numbers : Option Action → List ℕ
act_numbers none = 1 ∷ 2 ∷ 3 ∷ 4 ∷ 5 ∷ 6 ∷ []
act_numbers (some a) = 0 ∷ 1 ∷ 2 ∷ 3 ∷ 4 ∷ 5 ∷ 6 ∷ 7 ∷ kind_numbers a

-- "Join. 1 to 5 own; 41 to 45 the same for the other; 30 home tables differ; 31."
abbrev pub merge_numbers : List ℕ
merge_numbers = 0 ∷ 1 ∷ 2 ∷ 3 ∷ 4 ∷ 5 ∷ 41 ∷ 42 ∷ 43 ∷ 44 ∷ 45 ∷ 30 ∷ 31 ∷ []

-- "Statement of a crew. 1 to 5; 10; 32 not eight lines lent."
abbrev pub statement_numbers : List ℕ
statement_numbers = 0 ∷ 1 ∷ 2 ∷ 3 ∷ 4 ∷ 5 ∷ 10 ∷ 32 ∷ []

-- Document 02, A1: "Another length gives 32, after 1 to 5 and 10. 33, crew has no member, last."
abbrev pub payments_numbers : List ℕ
payments_numbers = 0 ∷ 1 ∷ 2 ∷ 3 ∷ 4 ∷ 5 ∷ 10 ∷ 32 ∷ 33 ∷ []

-- Document 02, A6: "35, month above 1199, after 10 and 32."
abbrev pub month_numbers : List ℕ
month_numbers = 0 ∷ 1 ∷ 2 ∷ 3 ∷ 4 ∷ 5 ∷ 10 ∷ 32 ∷ 35 ∷ []

-- Document 02, A8: "another length gives 32, after 1 to 5."
abbrev pub balances_numbers : List ℕ
balances_numbers = 0 ∷ 1 ∷ 2 ∷ 3 ∷ 4 ∷ 5 ∷ 32 ∷ []

-- Document 02, A3: "A call of its own raises: 1 for a wrong length of either, then 2 to 5."
abbrev pub raise_numbers : List ℕ
raise_numbers = 0 ∷ 1 ∷ 2 ∷ 3 ∷ 4 ∷ 5 ∷ []

-- The numbers of all calls, that of an action by its kind.
abbrev pub all_numbers : Option Action → List ℕ
all_numbers o = act_numbers o ++ (empty_numbers ++ (check_numbers ++ (merge_numbers ++ (statement_numbers ++ (payments_numbers ++ (month_numbers ++ (balances_numbers ++ raise_numbers)))))))

-- All calls, on every list of bytes, numbers and lines and with every number, in every version.
pub record Answers : Type 0 where
  -- each answer is one of the numbers written for the call
  pub empty : (v : Version) (b : Bytes) (r : ℕ) (homes : List ℕ) → Memᴰ (empty_answer_in v b r homes) empty_numbers
  pub check : (v : Version) (b : Bytes) → Memᴰ (image_check_in v b) check_numbers
  pub act : (v : Version) (b x : Bytes) → Memᴰ (act_answer_in v b x) (act_numbers (read_action_in v x))
  pub merge : (v : Version) (b d : Bytes) → Memᴰ (merge_images_answer_in v b d) merge_numbers
  pub raise : (v : Version) (b d : Bytes) → Memᴰ (raise_answer_in v b d) raise_numbers
  pub statement : (v : Version) (b : Bytes) (g lent : ℕ) → Memᴰ (statement_totals_in v b g lent).answer statement_numbers
  pub payments : (v : Version) (b : Bytes) (g lent : ℕ) → Memᴰ (payments_answer_in v b g lent) payments_numbers
  pub month : (v : Version) (b : Bytes) (g month lent : ℕ) → Memᴰ (month_answer_in v b g month lent) month_numbers
  pub balances : (v : Version) (b : Bytes) (lent : ℕ) → Memᴰ (balances_answer_in v b lent) balances_numbers
  -- "20 isn't used again" (document 02, A5)
  pub unused : (o : Option Action) → ¬ Memᴰ 20 (all_numbers o)
  -- a refusal leaves every lent byte
  pub empty_left : (v : Version) (b : Bytes) (r : ℕ) (homes : List ℕ) → empty_answer_in v b r homes ≢ 0 → empty_image_in v b r homes ≡ b
  pub act_left : (v : Version) (b x : Bytes) → act_answer_in v b x ≢ 0 → act_image_in v b x ≡ b
  pub merge_left : (v : Version) (b d : Bytes) → merge_images_answer_in v b d ≢ 0 → merge_images_in v b d ≡ b
  pub raise_left : (v : Version) (b d : Bytes) → raise_answer_in v b d ≢ 0 → raise_image_in v b d ≡ d
  -- and every lent number
  pub payments_left : (v : Version) (b : Bytes) (g : ℕ) (cents : List ℕ) → payments_answer_in v b g (length cents) ≢ 0 → payments_cents_in v b g cents ≡ cents
  pub month_left : (v : Version) (b : Bytes) (g month : ℕ) (raws : List ℤ) → month_answer_in v b g month (length raws) ≢ 0 → month_raws_in v b g month raws ≡ raws
  pub balances_left_lem : (v : Version) (b : Bytes) (balances : List ℤ) → balances_answer_in v b (length balances) ≢ 0 → balances_left_in v b balances ≡ balances
  -- and every lent line; "every other figure returned with a refusal is zero"
  pub statement_left : (v : Version) (b : Bytes) (g : ℕ) (lines : List Line) → (statement_totals_in v b g (length lines)).answer ≢ 0
      → (statement_lines_in v b g lines ≡ lines) × (statement_totals_in v b g (length lines) ≡ refused_totals (statement_totals_in v b g (length lines)).answer)
