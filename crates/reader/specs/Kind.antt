-- The numbers of the kinds of actions.
use Rattle.std.specs.Prelude.{ℕ, ◌≡◌, ◌≤◌, ◌<◌, Result, MatchResult}
use Rattle.reader.specs.declared.kind.Kind.{Kind}
use Rattle.reader.specs.declared.kind.Kind.TheVariants.{Found, Add, Leave, Enter, PutIn, TakeOut, Change, Delete, Acknowledge, Absorb}
use Rattle.reader.specs.declared.kind.UnknownKind.{UnknownKind}

abbrev pub kind_number : Kind → ℕ
kind_number Found = 1
kind_number Add = 2
kind_number Leave = 3
kind_number Enter = 4
kind_number PutIn = 5
kind_number TakeOut = 6
kind_number Change = 7
kind_number Delete = 8
kind_number Acknowledge = 9
kind_number Absorb = 10

-- The kind of a number, or an error with a number outside 1 to 10.
abbrev pub Decodes : ℕ → Result Kind UnknownKind → Type 0
Decodes n r = MatchResult r (λ kind. kind_number kind ≡ n) (λ e. (e.0 ≡ n) × (1 ≤ n → 10 < n))
