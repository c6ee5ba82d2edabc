-- Tests joined, a list of tests that fails by its first, what holds of eight elements, a test as a number.
use Rattle.std.proofs.Common.{◌≡◌, refl, ◌∙◌, ◌++◌, subst, Bool, true, false, ◌&&◌, List, [], ◌∷◌, ℕ, suc, ◌<◌, ◌≤◌, eqb, length, get_or, drop, replicate, sum, drop-cons, drop_of_length-le, arith}
use Rattle.std.proofs.Math.Bool.{and-true, and_assoc}
use lib.Pointwise.{pointwise}
use mir.Val.{bool_byte}
use Rattle.rules.specs.Tests.{number, all_of, every8, sum8, eight_at}

-- Two tests of four users each are a test of the eight.
before_a_test : (a b c d t : Bool) → (all_of (a ∷ b ∷ c ∷ d ∷ []) && t) ≡ (a && (b && (c && (d && t))))
unfolding all_of
before_a_test false b c d t = refl
before_a_test true false c d t = refl
before_a_test true true false d t = refl
before_a_test true true true false t = refl
before_a_test true true true true t = refl

pub two_fours : (p : ℕ → Bool) {r s : Bool} → r ≡ all_of (p 0 ∷ p 1 ∷ p 2 ∷ p 3 ∷ []) → s ≡ all_of (p 4 ∷ p 5 ∷ p 6 ∷ p 7 ∷ []) → (r && s) ≡ every8 p
unfolding every8 all_of
two_fours p q s = (λ i. q i && s i) ∙ before_a_test (p 0) (p 1) (p 2) (p 3) (all_of (p 4 ∷ p 5 ∷ p 6 ∷ p 7 ∷ []))

pub first_fails : (a : Bool) (bs : List Bool) → a ≡ false → false ≡ all_of (a ∷ bs)
unfolding all_of
first_fails a bs h = rw h

-- One more test behind several.
pub one_more : (bs : List Bool) (t : Bool) → all_of (bs ++ t ∷ []) ≡ (all_of bs && t)
unfolding all_of
one_more [] t = and-true t
one_more (b ∷ bs) t = rw (one_more bs t, and_assoc)

-- What holds of eight elements, whatever they are, holds of a list of length 8.
pub of_eight : {A : Type 0} (P : List A → Type 0) → ((a b c d e f g h : A) → P (a ∷ b ∷ c ∷ d ∷ e ∷ f ∷ g ∷ h ∷ [])) → (s : List A) → length s ≡ 8 → P s
of_eight P p [] k = absurd (omega arith)
of_eight P p (x ∷ r) k =
    let at : (n : ℕ) → n < 8 → drop n (x ∷ r) ≡ get_or (x ∷ r) n x ∷ drop (suc n) (x ∷ r) = λ n h. drop-cons (x ∷ r) n x (omega arith) in
    let e₀ = at 0 (omega arith) in
    let e₁ = at 1 (omega arith) in
    let e₂ = at 2 (omega arith) in
    let e₃ = at 3 (omega arith) in
    let e₄ = at 4 (omega arith) in
    let e₅ = at 5 (omega arith) in
    let e₆ = at 6 (omega arith) in
    let e₇ = at 7 (omega arith) in
    let e₈ : drop 8 (x ∷ r) ≡ [] = drop_of_length-le (x ∷ r) {i = 8} (omega arith) in
    let g = λ (n : ℕ). get_or (x ∷ r) n x in
    let e : g 0 ∷ g 1 ∷ g 2 ∷ g 3 ∷ g 4 ∷ g 5 ∷ g 6 ∷ g 7 ∷ [] ≡ x ∷ r = cc in
    subst P e (p (g 0) (g 1) (g 2) (g 3) (g 4) (g 5) (g 6) (g 7))

-- Eight elements that are known one by one.
pub eight_made : {A : Type 0} (d : A) (f : ℕ → A) (s : List A) → length s ≡ 8 → ((u : ℕ) → u < 8 → get_or s u d ≡ f u) → s ≡ f 0 ∷ f 1 ∷ f 2 ∷ f 3 ∷ f 4 ∷ f 5 ∷ f 6 ∷ f 7 ∷ []
eight_made {A} d f s k =
    let P : List A → Type 0 = λ l. ((u : ℕ) → u < 8 → get_or l u d ≡ f u) → l ≡ f 0 ∷ f 1 ∷ f 2 ∷ f 3 ∷ f 4 ∷ f 5 ∷ f 6 ∷ f 7 ∷ [] in
    of_eight P (λ x₀ x₁ x₂ x₃ x₄ x₅ x₆ x₇ e. cc (e 0 (omega arith), e 1 (omega arith), e 2 (omega arith), e 3 (omega arith), e 4 (omega arith), e 5 (omega arith), e 6 (omega arith), e 7 (omega arith))) s k

-- A sum of eight is the sum over the users, and an equality with eight zeros is a test of each.
pub sum_of_eight : (s : List ℕ) → length s ≡ 8 → sum s ≡ sum8 (eight_at s)
sum_of_eight = of_eight (λ s. sum s ≡ sum8 (eight_at s)) (λ a b c d e f g h. omega arith)

pub zeros : (s : List ℕ) → length s ≡ 8 → pointwise eqb s (replicate 8 0) ≡ every8 (λ u. eqb (eight_at s u) 0)
unfolding every8 all_of
zeros = of_eight (λ s. pointwise eqb s (replicate 8 0) ≡ every8 (λ u. eqb (eight_at s u) 0)) (λ a b c d e f g h. refl)

-- A test as a byte is its number.
pub bool_byte_lem : (a : Bool) → (bool_byte a ≡ number a) × (bool_byte a ≤ 1)
bool_byte_lem true = (refl, omega arith)
bool_byte_lem false = (refl, omega arith)
