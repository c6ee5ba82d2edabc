-- Document 02, A5, "The stranger's share": kind 10's refusals with document 01's test between 28 and 27, "20 other was never a member", and that they answer as
-- those without it. They stand here for that alone.
use Rattle.std.specs.Prelude.{◌≡◌, Bool, true, false, not, cond, ◌&&◌, List, [], ◌∷◌, ℕ, eqb}
use Rattle.std.proofs.Math.Option.{none, some}
use Rattle.format.specs.Layout.{Version}
use Rattle.format.specs.Bytes.{Bytes, Octets}
use Rattle.rules.specs.Tests.{Check, first, number}
use Rattle.rules.specs.Ledger.{Ledger, ever_in, at}
use Rattle.rules.specs.Sound.{sound}
use Rattle.rules.specs.Action.{absorb}
use Rattle.rules.specs.Refusal.{refusals, answer}
use Rattle.images.specs.Image.{decode_in, replica_of, home_of, image_check_in}
use Rattle.images.specs.Record.{read_action_in}
use Rattle.images.specs.Calls.{or_else, act_answer_in}

-- A check put behind the one that has a number.
abbrev pub behind : (number : ℕ) → Check → List Check → List Check
behind n k [] = []
behind n k (j ∷ js) = j ∷ cond (eqb j.1 n) (k ∷ js) (behind n k js)

-- "other was never a member" of the expense's group
abbrev pub never_member : Ledger → (other expense : ℕ) → Bool
never_member l o c = not (ever_in (l.counter (at l c).group) o)

-- "28 other is a member; 20 other was never a member; 27"
unfoldable pub asked_answer : (home : ℕ → ℕ) (r actor other expense : ℕ) → Ledger → ℕ
asked_answer home r a o c l = first (behind 28 (never_member l o c, 20) (refusals home r (absorb a o c) l))

-- A ledger that is not sound: user 1, who never belonged to group 0, has a share of its expense 0, which user 0 pays.
abbrev pub stranger_share : Ledger
stranger_share = record {
  counter = λ g u. number (eqb g 0 && eqb u 0);
  rule = λ g. number (eqb g 0);
  expense = λ c. cond (eqb c 0)
      (some (record { payer = 0; group = 0; deleted = false; acknowledged = λ u. eqb u 0; version = 1; shares = λ u. cond (eqb u 0) 300 (cond (eqb u 1) 600 0); day = 0 })) none;
}

pub record StrangerDropped : Type 0 where
  -- "A sound cost in a crew has no positive share of someone who never belonged. Show that absorbing never gets that far."
  pub ledgers : (home : ℕ → ℕ) (r : ℕ) (l : Ledger) → sound home l ≡ true → (a o c : ℕ) → answer home r (some (absorb a o c)) l ≡ asked_answer home r a o c l
  -- So no call answers otherwise, on any bytes: an image that passes the check holds a sound ledger, whatever its history.
  pub calls : (v : Version) (b x : Bytes) → Octets b → (a o c : ℕ) → read_action_in v x ≡ some (absorb a o c)
      → act_answer_in v b x ≡ or_else (image_check_in v b) (asked_answer (home_of b) (replica_of b) a o c (decode_in v b))
  -- It takes soundness: here the test would answer, and without it user 0 absorbs the share.
  pub needed : (sound (λ u. u) stranger_share ≡ false) × (asked_answer (λ u. u) 0 0 1 0 stranger_share ≡ 20) × (answer (λ u. u) 0 (some (absorb 0 1 0)) stranger_share ≡ 0)
