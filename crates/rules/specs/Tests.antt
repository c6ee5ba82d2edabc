-- Tests and sums over the eight users and over the numbers below a bound; eight as a list; refusals in order.
use Rattle.std.specs.Prelude.{Bool, true, false, cond, ◌&&◌, ◌||◌, List, [], ◌∷◌, ℕ, zero, suc, ◌+◌, get_or}

-- 1 for a test that holds, else 0.
abbrev pub number : Bool → ℕ
number true = 1
number false = 0

-- n where the test holds, else 0.
abbrev pub only : Bool → ℕ → ℕ
only true n = n
only false n = 0

-- All tests of a list hold.
unfoldable pub all_of : List Bool → Bool
all_of [] = true
all_of (b ∷ bs) = b && all_of bs

-- The sum over the eight users, and a test of all of them.
abbrev pub sum8 : (ℕ → ℕ) → ℕ
sum8 f = f 0 + f 1 + f 2 + f 3 + f 4 + f 5 + f 6 + f 7

unfoldable pub every8 : (ℕ → Bool) → Bool
every8 p = all_of (p 0 ∷ p 1 ∷ p 2 ∷ p 3 ∷ p 4 ∷ p 5 ∷ p 6 ∷ p 7 ∷ [])

-- A list of eight as a function of the user, zero beyond them; and back.
abbrev pub eight_at : List ℕ → ℕ → ℕ
eight_at s u = get_or s u 0

abbrev pub eight_of : (ℕ → ℕ) → List ℕ
eight_of f = f 0 ∷ f 1 ∷ f 2 ∷ f 3 ∷ f 4 ∷ f 5 ∷ f 6 ∷ f 7 ∷ []

-- The sum of a list.
unfoldable pub sum : List ℕ → ℕ
sum [] = 0
sum (n ∷ ns) = n + sum ns

-- The sum over the numbers below n, a test of all of them, and a test of one among them.
unfoldable pub sum_below : ℕ → (ℕ → ℕ) → ℕ
sum_below zero f = 0
sum_below (suc n) f = sum_below n f + f n

unfoldable pub every_below : ℕ → (ℕ → Bool) → Bool
every_below zero p = true
every_below (suc n) p = every_below n p && p n

unfoldable pub some_below : ℕ → (ℕ → Bool) → Bool
some_below zero p = false
some_below (suc n) p = some_below n p || p n

-- A condition with the number that it answers. "The first condition that holds, in the order given, sets the refusal"; 0 where none does.
abbrev pub Check : Type 0
Check = Bool × ℕ

unfoldable pub first : List Check → ℕ
first [] = 0
first (k ∷ ks) = cond k.0 k.1 (first ks)
