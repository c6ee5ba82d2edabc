-- What the history's proof needs of an accepted action, and that each of the ten kinds has it.
use mathlib.Core.Path.{◌≡◌, refl, sym, ap, ◌∙◌}
use mathlib.Core.Bool.{Bool, true, false, not, ◌&&◌}
use mathlib.Core.Option.{Option, none, some, some-injective}
use mathlib.Core.List.{List, [], ◌∷◌}
use Prim.Native.Nat.{ℕ, zero, suc, ◌/◌, ◌≤◌, ◌<◌}
use native.Mathlib.Omega.{arith}
use lib.Dec.{T, ltb, eqb, ltb→lt}
use Rattle.rules.specs.Tests.{all_of, every_below, every8, Check, first}
use Rattle.rules.specs.Ledger.{Expense, Ledger, nobody, at, absent, absent_option}
use Rattle.rules.specs.Sound.{a_rule, sound_expense, sound}
use Rattle.rules.specs.Action.{Action, found, add, leave, enter, put_in, take_out, change, delete, acknowledge, absorb, actor, fields_fit}
use Rattle.rules.specs.Step.{Given, founds, counts, states, acks, gives}
use Rattle.rules.specs.Refusal.{checks, answer}
use Rattle.rules.proofs.Basics.{true_T, T_true, clash, same?, Same, same, other, eqb_true, less?, Less, less, more, and_left, and_right}

-- The interface: an accepted action's step founds a group of this replica's own that was absent, raises a counter, states a later version of an expense of this replica's own, or acknowledges the version held.
abbrev pub Fits : ℕ → Ledger → Given → Type 0
Fits replica l (founds g u k) = (g / 2 ≡ replica) × (u < 8) × (nobody (l.counter g) ≡ true) × (0 < k)
Fits replica l (counts g u n) = l.counter g u ≤ n
Fits replica l (states c e) = (c / 64 ≡ replica) × ((f : Expense) → l.expense c ≡ some f → f.version < e.version)
Fits replica l (acks c v u) = (e : Expense) × (l.expense c ≡ some e) × (e.version ≡ v)

-- All checks passed.
abbrev pub Passed : List Check → Type 0
Passed [] = Unit {0}
Passed (k ∷ ks) = (k.0 ≡ false) × Passed ks

abbrev pub numbered : List Check → Bool
numbered [] = true
numbered (k ∷ ks) = ltb 0 k.1 && numbered ks

pub passed : (ks : List Check) → T (numbered ks) → first ks ≡ 0 → Passed ks
unfolding first
passed [] t e = tt
passed (k ∷ ks) t e = go k.0 refl (λ p. passed ks (true_T (and_right (ltb 0 k.1) (numbered ks) (T_true _ t))) p)
  where
    go : (b : Bool) → k.0 ≡ b → (first ks ≡ 0 → Passed ks) → Passed (k ∷ ks)
    go true p ih =
        let q : k.1 ≡ 0 = rw p at e in
        let r : 0 < k.1 = ltb→lt 0 k.1 (true_T (and_left (ltb 0 k.1) (numbered ks) (T_true _ t))) in
        absurd (omega arith)
    go false p ih = (p, ih (rw p at e))

-- The check at a place of the list, and that it passed.
abbrev pub nth : List Check → ℕ → Bool
nth [] i = false
nth (k ∷ ks) zero = k.0
nth (k ∷ ks) (suc i) = nth ks i

nth_passed : (ks : List Check) → Passed ks → (i : ℕ) → nth ks i ≡ false
nth_passed [] p i = refl
nth_passed (k ∷ ks) p zero = p.0
nth_passed (k ∷ ks) p (suc i) = nth_passed ks p.1 i

pub pass : (ks : List Check) → T (numbered ks) → first ks ≡ 0 → (i : ℕ) → nth ks i ≡ false
pass ks t e = nth_passed ks (passed ks t e)

pub not_false : (b : Bool) → not b ≡ false → b ≡ true
not_false true e = refl
not_false false e = sym e

pub every_below_lem : (n : ℕ) (p : ℕ → Bool) → every_below n p ≡ true → (i : ℕ) → i < n → p i ≡ true
unfolding every_below
every_below_lem zero p e i h = absurd (omega arith)
every_below_lem (suc n) p e i h = go (same? i n) (λ k. every_below_lem n p (and_left (every_below n p) (p n) e) i k)
  where
    go : Same i n → (i < n → p i ≡ true) → p i ≡ true
    go (same q _) ih = rw q (and_right (every_below n p) (p n) e)
    go (other q _) ih = ih (omega arith)

pub there_is : (l : Ledger) (c : ℕ) → absent l c ≡ false → l.expense c ≡ some (at l c)
there_is l c h = go (l.expense c) refl
  where
    go : (o : Option Expense) → l.expense c ≡ o → l.expense c ≡ some (at l c)
    go none p = absurd (clash (ap absent_option p) h)
    go (some e) p = rw p

-- All tests of a list hold, one by one.
abbrev pub Each : List Bool → Type 0
Each [] = Unit {0}
Each (b ∷ bs) = (b ≡ true) × Each bs

pub each : (bs : List Bool) → all_of bs ≡ true → Each bs
unfolding all_of
each [] e = tt
each (b ∷ bs) e = (and_left b (all_of bs) e, each bs (and_right b (all_of bs) e))

-- The test at a place of the list, and that it holds.
abbrev pub nth_test : List Bool → ℕ → Bool
nth_test [] i = true
nth_test (b ∷ bs) zero = b
nth_test (b ∷ bs) (suc i) = nth_test bs i

nth_each : (bs : List Bool) → Each bs → (i : ℕ) → nth_test bs i ≡ true
nth_each [] p i = refl
nth_each (b ∷ bs) p zero = p.0
nth_each (b ∷ bs) p (suc i) = nth_each bs p.1 i

pub test : (bs : List Bool) → all_of bs ≡ true → (i : ℕ) → nth_test bs i ≡ true
test bs e = nth_each bs (each bs e)

-- The payer's replica owns the number of a sound expense.
pub owner_of : (home : ℕ → ℕ) (l : Ledger) (c : ℕ) (e : Expense) → sound_expense home l c (some e) ≡ true → home e.payer ≡ c / 64
unfolding sound_expense
owner_of home l c e h = eqb_true (home e.payer) (c / 64) (test _ h 2)

pub ltb_lt : (m n : ℕ) → ltb m n ≡ true → m < n
ltb_lt m n e = ltb→lt m n (true_T e)

-- A test of all eight users holds at each.
at8 : (p : ℕ → Bool) → Each (p 0 ∷ p 1 ∷ p 2 ∷ p 3 ∷ p 4 ∷ p 5 ∷ p 6 ∷ p 7 ∷ []) → (u : ℕ) → u < 8 → p u ≡ true
at8 p h zero k = h.0
at8 p h (suc zero) k = h.1.0
at8 p h (suc (suc zero)) k = h.1.1.0
at8 p h (suc (suc (suc zero))) k = h.1.1.1.0
at8 p h (suc (suc (suc (suc zero)))) k = h.1.1.1.1.0
at8 p h (suc (suc (suc (suc (suc zero))))) k = h.1.1.1.1.1.0
at8 p h (suc (suc (suc (suc (suc (suc zero)))))) k = h.1.1.1.1.1.1.0
at8 p h (suc (suc (suc (suc (suc (suc (suc zero))))))) k = h.1.1.1.1.1.1.1.0
at8 p h (suc (suc (suc (suc (suc (suc (suc (suc n)))))))) k = absurd (omega arith)

pub every_8 : (p : ℕ → Bool) → every8 p ≡ true → (u : ℕ) → u < 8 → p u ≡ true
unfolding every8
every_8 p e u k = at8 p (each _ e) u k

-- In an absent group each of the eight counters is zero.
pub nobody_zero : (f : ℕ → ℕ) → nobody f ≡ true → (u : ℕ) → u < 8 → f u ≡ 0
nobody_zero f h u k = go (less? 0 (f u))
  where
    go : Less 0 (f u) → f u ≡ 0
    go (less j p) = absurd (clash (every_8 _ h u k) (ap not p))
    go (more j p) = omega arith

-- A rule is 1 or 2.
pub rule_two : (k : ℕ) → a_rule k ≡ true → (0 < k) × (k < 3)
rule_two k h = go (same? k 1) (same? k 2)
  where
    go : Same k 1 → Same k 2 → (0 < k) × (k < 3)
    go (same p q) _ = (omega arith, omega arith)
    go (other p q) (same r t) = (omega arith, omega arith)
    go (other p q) (other r t) = absurd (clash h (rw (q, t)))

-- An edit by the payer.
edit_fits : (home : ℕ → ℕ) (replica a c : ℕ) (l : Ledger) → sound home l ≡ true → ltb c 512 ≡ true → not (eqb (home a) replica) ≡ false → absent l c ≡ false → not (eqb (at l c).payer a) ≡ false
    → (c / 64 ≡ replica) × ((f : Expense) → l.expense c ≡ some f → f.version < suc (at l c).version)
unfolding sound
edit_fits home replica a c l so lt ho ab pa =
    let is : l.expense c ≡ some (at l c) = there_is l c ab in
    let s₁ : sound_expense home l c (l.expense c) ≡ true = every_below_lem 512 _ so c (ltb_lt c 512 lt) in
    let s₂ : sound_expense home l c (some (at l c)) ≡ true = rw is at s₁ in
    let p₁ : home (at l c).payer ≡ c / 64 = owner_of home l c (at l c) s₂ in
    let p₂ : (at l c).payer ≡ a = eqb_true (at l c).payer a (not_false _ pa) in
    (sym p₁ ∙ ap home p₂ ∙ eqb_true (home a) replica (not_false _ ho), λ f q. let z : at l c ≡ f = some-injective (at l c) f (sym is ∙ q) in rw (← z) (omega arith))

pub fits : (home : ℕ → ℕ) (replica : ℕ) (x : Action) (l : Ledger) → sound home l ≡ true → answer home replica (some x) l ≡ 0 → Fits replica l (gives x l)
unfolding answer checks gives fields_fit actor
fits home replica (found a g k) l so e =
    let p = pass _ tt e in
    let f = test _ (not_false _ (p 0)) in
    (eqb_true (g / 2) replica (not_false _ (p 2)), ltb_lt a 8 (f 0), not_false _ (p 3), (rule_two k (f 2)).0)
fits home replica (add a o g) l so e = omega arith
fits home replica (leave a g) l so e = omega arith
fits home replica (enter a c s day) l so e =
    let p = pass _ tt e in
    (eqb_true (c / 64) replica (not_false _ (p 2)), λ f q. absurd (clash (not_false _ (p 3)) (ap absent_option q)))
fits home replica (put_in a g c) l so e =
    let p = pass _ tt e in
    edit_fits home replica a c l so (test _ (not_false _ (p 0)) 2) (p 1) (p 3) (p 5)
fits home replica (take_out a g c) l so e =
    let p = pass _ tt e in
    edit_fits home replica a c l so (test _ (not_false _ (p 0)) 2) (p 1) (p 3) (p 6)
fits home replica (change a c s day) l so e =
    let p = pass _ tt e in
    edit_fits home replica a c l so (test _ (not_false _ (p 0)) 1) (p 1) (p 2) (p 3)
fits home replica (delete a c) l so e =
    let p = pass _ tt e in
    edit_fits home replica a c l so (test _ (not_false _ (p 0)) 1) (p 1) (p 2) (p 3)
fits home replica (acknowledge a c) l so e =
    let p = pass _ tt e in
    (at l c, there_is l c (p 2), refl)
fits home replica (absorb a o c) l so e =
    let p = pass _ tt e in
    edit_fits home replica a c l so (test _ (not_false _ (p 0)) 2) (p 1) (p 3) (p 5)
