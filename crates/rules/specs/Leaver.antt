-- Document 02, A2: what its test is for. Nothing that others do makes the raw balance of a leaver fall below what it was at the leave.
use Rattle.std.specs.Prelude.{◌≡◌, false, List, [], ◌∷◌, ◌≢◌, ℕ, ℤ, pos, ◌+ℤ◌}
use Rattle.std.proofs.Math.Option.{some}
use Rattle.rules.specs.Ledger.{Ledger}
use Rattle.rules.specs.Balance.{raw}
use Rattle.rules.specs.Pending.{pending}
use Rattle.rules.specs.Action.{Action, add, leave, acknowledge, actor}
use Rattle.rules.specs.Step.{ledger_after}
use Rattle.rules.specs.Refusal.{answer}

-- The second number is the first, or higher.
abbrev pub AtLeast : ℤ → ℤ → Type 0
AtLeast z y = (k : ℕ) × (y ≡ z +ℤ pos k)

-- The ledger after a list of actions, each with the replica on which it is made.
unfoldable pub after_all : List (ℕ × Action) → Ledger → Ledger
after_all [] l = l
after_all (x ∷ xs) l = after_all xs (ledger_after x.1 l)

-- Each of them is accepted, its actor is another user than u, and none makes u a member of group g again.
unfoldable pub ByOthers : (home : ℕ → ℕ) (g u : ℕ) → List (ℕ × Action) → Ledger → Type 0
ByOthers home g u [] l = Unit {0}
ByOthers home g u (x ∷ xs) l =
    (answer home x.0 (some x.1) l ≡ 0) × (actor x.1 ≢ u) × ((a : ℕ) → x.1 ≢ add a u g) × ByOthers home g u xs (ledger_after x.1 l)

-- User u may leave group g of ledger l on replica r.
pub record LeaverKept (home : ℕ → ℕ) (r g u : ℕ) (l : Ledger) : Type 0 where
  -- No share of theirs that counts as acknowledged waits.
  pub settled : pending l g u ≡ false
  -- After that an acknowledgement by another user leaves the leaver's raw where it was or raises it;
  pub acknowledged : (w a c : ℕ) → a ≢ u → answer home w (some (acknowledge a c)) (ledger_after (leave u g) l) ≡ 0
      → AtLeast (raw (ledger_after (leave u g) l) g u) (raw (ledger_after (acknowledge a c) (ledger_after (leave u g) l)) g u)
  -- and so does all that others do, in whatever order. So a leaver, who owed nothing, comes to owe nothing by it.
  pub kept : (xs : List (ℕ × Action)) → ByOthers home g u xs (ledger_after (leave u g) l) → AtLeast (raw (ledger_after (leave u g) l) g u) (raw (after_all xs (ledger_after (leave u g) l)) g u)
  pub owes_nothing : (xs : List (ℕ × Action)) → ByOthers home g u xs (ledger_after (leave u g) l) → (k : ℕ) × (raw (after_all xs (ledger_after (leave u g) l)) g u ≡ pos k)
