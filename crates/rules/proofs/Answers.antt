-- A chain of tests and returns is the first of a list of refusals.
use mathlib.Core.Path.{◌≡◌, refl}
use mathlib.Core.Bool.{Bool, true, false}
use mathlib.Core.List.{List, [], ◌∷◌}
use Prim.Native.Nat.{ℕ}
use Rattle.rules.specs.Tests.{Check, first}

pub first_yes : (t : Bool) (n : ℕ) (ks : List Check) → t ≡ true → n ≡ first ((t, n) ∷ ks)
unfolding first
first_yes t n ks h = rw h

pub first_no : (t : Bool) (n : ℕ) (ks : List Check) (r : ℕ) → t ≡ false → r ≡ first ks → r ≡ first ((t, n) ∷ ks)
unfolding first
first_no t n ks r h e = rw h e

pub first_none : 0 ≡ first []
unfolding first
first_none = refl
