-- Document 01, 'A history, and what its vans have heard': crews and costs worked out from steps.
use Rattle.std.specs.Prelude.{Bool, false, cond, ◌&&◌, ◌||◌, List, [], ◌∷◌, ℕ, max, ltb, eqb}
use Rattle.std.proofs.Math.Option.{Option, none, some, map}
use Rattle.rules.specs.Ledger.{Expense, with_acks, Ledger, either_rule}
use Rattle.rules.specs.Step.{Given, founds, counts, states, acks}

-- "a counter is the largest that any of them gave it, or 0"
abbrev pub counted_by : Given → ℕ → ℕ → ℕ
counted_by (founds g u k) h w = cond (eqb h g && eqb w u) 1 0
counted_by (counts g u n) h w = cond (eqb h g && eqb w u) n 0
counted_by (states c e) h w = 0
counted_by (acks c v u) h w = 0

abbrev pub counter_of : List Given → ℕ → ℕ → ℕ
counter_of [] h w = 0
counter_of (s ∷ ss) h w = max (counted_by s h w) (counter_of ss h w)

-- "In what a van has heard, a crew's rule is that of its founding": of the founding among the steps, of which there is one at most; or 0.
abbrev pub ruled_by : Given → ℕ → ℕ
ruled_by (founds g u k) h = cond (eqb h g) k 0
ruled_by (counts g u n) h = 0
ruled_by (states c e) h = 0
ruled_by (acks c v u) h = 0

abbrev pub rule_of : List Given → ℕ → ℕ
rule_of [] h = 0
rule_of (s ∷ ss) h = either_rule (ruled_by s h) (rule_of ss h)

-- "A cost is as the step with its highest version gave it; without such a step it is absent."
abbrev pub newer : Option Expense → Option Expense → Option Expense
newer none o = o
newer (some e) none = some e
newer (some e) (some f) = cond (ltb e.version f.version) (some f) (some e)

abbrev pub stated_by : Given → ℕ → Option Expense
stated_by (founds g u k) d = none
stated_by (counts g u n) d = none
stated_by (states c e) d = cond (eqb d c) (some e) none
stated_by (acks c v u) d = none

abbrev pub latest : List Given → ℕ → Option Expense
latest [] d = none
latest (s ∷ ss) d = newer (stated_by s d) (latest ss d)

-- "with the bits of heard acknowledgements of that version added": whether user w's acknowledgement of version x of expense d is among the steps.
abbrev pub acked_by : Given → ℕ → ℕ → ℕ → Bool
acked_by (founds g u k) d x w = false
acked_by (counts g u n) d x w = false
acked_by (states c e) d x w = false
acked_by (acks c v u) d x w = eqb d c && (eqb x v && eqb w u)

abbrev pub heard_ack : List Given → ℕ → ℕ → ℕ → Bool
heard_ack [] d x w = false
heard_ack (s ∷ ss) d x w = acked_by s d x w || heard_ack ss d x w

abbrev pub with_heard : List Given → ℕ → Expense → Expense
with_heard ss d e = with_acks e (λ w. e.acknowledged w || heard_ack ss d e.version w)

abbrev pub expense_from : List Given → ℕ → Option Expense
expense_from ss d = map (with_heard ss d) (latest ss d)

-- The ledger worked out from steps.
abbrev pub worked_out : List Given → Ledger
worked_out ss = record { counter = counter_of ss; rule = rule_of ss; expense = expense_from ss }
