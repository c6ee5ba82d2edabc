-- Sets of users as the check holds them: in the second byte of a number, so that the first byte can tell what stands in no set.
use Rattle.std.specs.Prelude.{◌≡◌, Bool, not, cond, ◌&&◌, List, ℕ, ◌+◌, ◌*◌, ◌^◌, ◌<◌, ltb, eqb, get_or}
use Rattle.std.specs.Int.Bits.{bit_or}
use Rattle.format.specs.Layout.{group_count, no_group}
use Rattle.format.specs.declared.ExpenseRecord.{ExpenseRecord}
use Rattle.rules.specs.Ledger.{ever_in}
use Rattle.images.specs.Meaning.{bits}
use Rattle.rules.specs.Tests.{eight_at, eight_of}

-- Those who were ever members of a group with these counters.
abbrev pub known_set : (ℕ → ℕ) → ℕ
known_set f = 256 * bits (ever_in f)

-- The sets of the sixteen groups with these counters.
abbrev pub Knows : List ℕ → (ℕ → ℕ → ℕ) → Type 0
Knows sets counter = (g : ℕ) → g < group_count → get_or sets g 0 ≡ known_set (counter g)

-- A payer's bit where the payer's home is replica r; else 1, which no set has.
abbrev pub own_mark : (home r u : ℕ) → ℕ
own_mark h r u = cond (eqb h r) (256 * 2 ^ u) 1

abbrev pub own_marks : (ℕ → ℕ) → ℕ → List ℕ
own_marks home r = eight_of (λ u. own_mark (home u) r u)

-- Those with a share.
abbrev pub held_set : (shares : List ℕ) → ℕ
held_set s = 256 * bits (λ u. ltb 0 (eight_at s u))

-- "deleted (0 or 1)", and a bit only for those of the set.
abbrev pub marks_within : ExpenseRecord → (set : ℕ) → Bool
marks_within e k = eqb (bit_or (e.deleted + 256 * e.acknowledged) (bit_or k 1)) (bit_or k 1)

-- With a group, whose members ever are known: the payer, by the mark, and all with a share are among them. Without one: a payer at home there, and a bit for nobody else.
abbrev pub group_fits : ExpenseRecord → (known mine held : ℕ) → Bool
group_fits e k mine held = cond (ltb e.group group_count) (eqb (bit_or (bit_or held mine) k) k) ((eqb e.group no_group && not (eqb mine 1)) && marks_within e mine)
