-- What the reader's answer means: the paper's kind and fields for each of its cases.
use Rattle.std.specs.Prelude.{ℕ, Bool, cond, List, eqb}
use Rattle.std.specs.Prelude as std
use Rattle.std.specs.Prelude.{Some, None}
use Rattle.std.proofs.Math.Option.{Option, none, some}
use Rattle.format.specs.Layout.{current}
use Rattle.format.specs.Bytes.{Bytes, kind_in, actor_in, other_in, group_in, expense_in, rest_in}
use Rattle.reader.specs.declared.Action.{Action}
use Rattle.reader.specs.declared.Deed.{Deed}
use Rattle.reader.specs.declared.Deed.TheVariants.{Found, Add, Leave, Enter, PutIn, TakeOut, Change, Delete, Acknowledge, Absorb}
use Rattle.rules.specs.Action as rule
use Rattle.rules.specs.Action.{found, add, leave, enter, put_in, take_out, change, delete, acknowledge, absorb}
use Rattle.rules.specs.Tests.{eight_at}
use Rattle.images.specs.Record.{fields_fit_in, kinds}

-- Kinds 1 to 10, each with its fields; the shares of kinds 4 and 7 stand beside.
abbrev pub deed_meaning : (actor : ℕ) → Deed → List ℕ → rule.Action
deed_meaning a (Found g n) s = found a g n
deed_meaning a (Add o g) s = add a o g
deed_meaning a (Leave g) s = leave a g
deed_meaning a (Enter c d) s = enter a c (eight_at s) d
deed_meaning a (PutIn g c) s = put_in a g c
deed_meaning a (TakeOut g c) s = take_out a g c
deed_meaning a (Change c d) s = change a c (eight_at s) d
deed_meaning a (Delete c) s = delete a c
deed_meaning a (Acknowledge c) s = acknowledge a c
deed_meaning a (Absorb o c) s = absorb a o c

abbrev pub action_meaning : Action → List ℕ → rule.Action
action_meaning a s = deed_meaning a.actor a.deed s

-- `None` is a record that gives no action, for which a call answers 6.
abbrev pub reading_meaning : std.Option Action → List ℕ → Option rule.Action
reading_meaning (Some a) s = some (action_meaning a s)
reading_meaning None s = none

-- What a record of the right length gives. Bytes 6 and 7 are a founding's rule and an expense's day.
unfoldable pub reading_in : Bytes → (unshared : Bool) → (shares : ℕ → ℕ) → Option rule.Action
reading_in x unshared s =
    cond (fields_fit_in current (kind_in x) (actor_in x) (other_in x) (group_in x) (expense_in x) (rest_in x) unshared)
    (some (kinds (kind_in x) (actor_in x) (other_in x) (group_in x) (expense_in x) (rest_in x) (rest_in x) s))
    none

-- The enum's case by the kind's number, and by all fields.
abbrev pub deed_of : ℕ → (o g c rest : ℕ) → Deed
deed_of k o g c z =
    cond (eqb k 1) (Found g z)
    (cond (eqb k 2) (Add o g)
    (cond (eqb k 3) (Leave g)
    (cond (eqb k 4) (Enter c z)
    (cond (eqb k 5) (PutIn g c) (cond (eqb k 6) (TakeOut g c) (cond (eqb k 7) (Change c z) (cond (eqb k 8) (Delete c) (cond (eqb k 9) (Acknowledge c) (Absorb o c)))))))))

unfoldable pub kind_of : ℕ → (a o g c rest : ℕ) → Action
kind_of k a o g c z = record { actor = a; deed = deed_of k o g c z }

unfoldable pub reading_of : (kind actor other group expense rest : ℕ) → Bool → std.Option Action
reading_of k a o g c z unshared = cond (fields_fit_in current k a o g c z unshared) (Some (kind_of k a o g c z)) None
