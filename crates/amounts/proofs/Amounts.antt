-- Eight amounts as a list: nothing, one share each, or one user's total added; and their bound.
use Rattle.std.proofs.Common.{◌≡◌, refl, sym, ap, ap₂, ◌∙◌, Bool, true, false, List, ℕ, zero, suc, ◌+◌, ◌*◌, ◌≤◌, ◌<◌, arith, eqb, length, set, length-set, get_or-set_same, get_or-set_other, sum}
use lib.ListN.{get_or-eq_default}
use Rattle.format.proofs.Round.{eight, same8}
use Rattle.std.specs.Int.{from_bool}
use Rattle.rules.specs.Tests.{number, only, sum8, eight_at, eight_of}
use Rattle.rules.proofs.Basics.{Same, same, other, same?, Less, less, more, less?}
use Rattle.images.proofs.Codec.{eight_at_lem}

-- Eight amounts to which nothing is added.
pub add_none : (l : List ℕ) (f : ℕ → ℕ) → length l ≡ 8 → ((u : ℕ) → u < 8 → f u ≡ 0) → l ≡ eight_of (λ u. eight_at l u + f u)
add_none l f e z =
    let w : (u : ℕ) → u < 8 → eight_at l u ≡ eight_at l u + f u = λ u k. (let v = z u k in omega arith) in
    sym (eight l e)
    ∙ same8 (w 0 (omega arith)) (w 1 (omega arith)) (w 2 (omega arith)) (w 3 (omega arith)) (w 4 (omega arith)) (w 5 (omega arith)) (w 6 (omega arith)) (w 7 (omega arith))

-- What holds of a function's values and of 0 holds of the list's elements.
pub eight_bound : (f : ℕ → ℕ) (m : ℕ) → ((u : ℕ) → f u ≤ m) → (u : ℕ) → eight_at (eight_of f) u ≤ m
eight_bound f m h u = go (less? u 8)
  where
    go : Less u 8 → eight_at (eight_of f) u ≤ m
    go (less k _) = rw (eight_at_lem f u k) (h u)
    go (more k _) = rw (get_or-eq_default (eight_of f) 0 k) (omega arith)

-- One element of eight changed by an addition.
set_add : (f : ℕ → ℕ) (p n : ℕ) → p < 8 → set (eight_of f) p (eight_at (eight_of f) p + n) ≡ eight_of (λ u. f u + only (eqb p u) n)
set_add f p n k = go p k
  where
    z : (u : ℕ) → f u ≡ f u + 0
    z u = omega arith

    go : (p : ℕ) → p < 8 → set (eight_of f) p (eight_at (eight_of f) p + n) ≡ eight_of (λ u. f u + only (eqb p u) n)
    go zero k = same8 refl (z 1) (z 2) (z 3) (z 4) (z 5) (z 6) (z 7)
    go (suc zero) k = same8 (z 0) refl (z 2) (z 3) (z 4) (z 5) (z 6) (z 7)
    go (suc (suc zero)) k = same8 (z 0) (z 1) refl (z 3) (z 4) (z 5) (z 6) (z 7)
    go (suc (suc (suc zero))) k = same8 (z 0) (z 1) (z 2) refl (z 4) (z 5) (z 6) (z 7)
    go (suc (suc (suc (suc zero)))) k = same8 (z 0) (z 1) (z 2) (z 3) refl (z 5) (z 6) (z 7)
    go (suc (suc (suc (suc (suc zero))))) k = same8 (z 0) (z 1) (z 2) (z 3) (z 4) refl (z 6) (z 7)
    go (suc (suc (suc (suc (suc (suc zero)))))) k = same8 (z 0) (z 1) (z 2) (z 3) (z 4) (z 5) refl (z 7)
    go (suc (suc (suc (suc (suc (suc (suc zero))))))) k = same8 (z 0) (z 1) (z 2) (z 3) (z 4) (z 5) (z 6) refl
    go (suc (suc (suc (suc (suc (suc (suc (suc p)))))))) k = absurd (omega arith)

pub total_more : (l : List ℕ) (p n : ℕ) → length l ≡ 8 → p < 8 → set l p (eight_at l p + n) ≡ eight_of (λ u. eight_at l u + only (eqb p u) n)
total_more l p n e k = ap (λ t. set t p (eight_at t p + n)) (sym (eight l e)) ∙ set_add (eight_at l) p n k

pub total_same : (l : List ℕ) (p n : ℕ) → length l ≡ 8 → 8 ≤ p → l ≡ eight_of (λ u. eight_at l u + only (eqb p u) n)
total_same l p n e k = add_none l (λ u. only (eqb p u) n) e z
  where
    z : (u : ℕ) → u < 8 → only (eqb p u) n ≡ 0
    z u j = go (same? p u)
      where
        go : Same p u → only (eqb p u) n ≡ 0
        go (same q _) = absurd (omega arith)
        go (other q r) = rw r

-- Eight amounts m of which those below n are l's with an addition x, the others as in l.
abbrev pub AddedBelow : (n : ℕ) → (l : List ℕ) → (x : ℕ → ℕ) → (m : List ℕ) → Type 0
AddedBelow n l x m = (length m ≡ 8) × ((u : ℕ) → u < n → eight_at m u ≡ eight_at l u + x u) × ((u : ℕ) → n ≤ u → eight_at m u ≡ eight_at l u)

pub added_none : (l : List ℕ) (x : ℕ → ℕ) → length l ≡ 8 → AddedBelow 0 l x l
added_none l x k = (k, λ u j. absurd (omega arith), λ u _. refl)

pub added_next : (n : ℕ) (l : List ℕ) (x : ℕ → ℕ) (m : List ℕ) (t : ℕ) → n < 8 → AddedBelow n l x m → t ≡ x n → AddedBelow (n + 1) l x (set m n (eight_at m n + t))
added_next n l x m t k (e, w, z) v = (
  length-set m n (eight_at m n + t) ∙ e,
  λ u j. below u j (same? u n),
  λ u j. get_or-set_other m n u (eight_at m n + t) 0 (λ q. absurd (omega arith)) ∙ z u (omega arith),
)
  where
    below : (u : ℕ) → u < n + 1 → Same u n → eight_at (set m n (eight_at m n + t)) u ≡ eight_at l u + x u
    below u j (same q _) = rw q (get_or-set_same m n (eight_at m n + t) 0 (omega arith) ∙ ap₂ ◌+◌ (z n (omega arith)) v)
    below u j (other q _) = get_or-set_other m n u (eight_at m n + t) 0 q ∙ w u (omega arith)

pub added_all : (n : ℕ) (l : List ℕ) (x : ℕ → ℕ) (m : List ℕ) → n ≡ 8 → AddedBelow n l x m → m ≡ eight_of (λ u. eight_at l u + x u)
added_all n l x m q (e, w, z) = sym (eight m e) ∙ same8 (w 0 (omega arith)) (w 1 (omega arith)) (w 2 (omega arith)) (w 3 (omega arith)) (w 4 (omega arith)) (w 5 (omega arith)) (w 6 (omega arith)) (w 7 (omega arith))

-- A test as a number, as code makes it.
pub from_test : (b : Bool) → from_bool b ≡ number b
from_test true = refl
from_test false = refl

-- A list of eight has the sum of its eight elements.
pub sum_eight : (l : List ℕ) → length l ≡ 8 → sum l ≡ sum8 (eight_at l)
sum_eight l k = ap sum (sym (eight l k)) ∙ omega arith

pub sum8_bound : (f : ℕ → ℕ) (m : ℕ) → ((u : ℕ) → f u ≤ m) → sum8 f ≤ 8 * m
sum8_bound f m h = let a = h 0 in let b = h 1 in let c = h 2 in let d = h 3 in let e = h 4 in let g = h 5 in let i = h 6 in let j = h 7 in omega arith

pub only_le : (t : Bool) (n m : ℕ) → n ≤ m → only t n ≤ m
only_le true n m h = h
only_le false n m h = omega arith
