-- Soundness as facts, and back as the test.
use mathlib.Core.Path.{◌≡◌, refl, ap, ◌∙◌}
use mathlib.Core.Bool.{Bool, true, false, not, ◌||◌}
use mathlib.Core.Option.{Option, none, some}
use mathlib.Core.Logic.{◌≢◌}
use mathlib.Core.List.{List, [], ◌∷◌}
use Prim.Native.Nat.{ℕ, zero, suc, ◌/◌, ◌≤◌, ◌<◌}
use native.Mathlib.Omega.{arith}
use lib.Dec.{ltb, leb, eqb, leb→le, le→leb}
use Rattle.rules.proofs.Basics.{true_T, T_true, clash, same?, Same, same, other, eqb_true, eqb_self, eqb_false, ltb_true}
use Rattle.format.specs.Layout.{no_group}
use Rattle.rules.specs.Tests.{all_of, every8, every_below}
use Rattle.rules.specs.Ledger.{Expense, Ledger, ever_in, in_group, total}
use Rattle.rules.specs.Sound.{day_fits, sound_expense, sound}
use Rattle.rules.proofs.Accepted.{Each, test, every_8, every_below_lem, ltb_lt, not_false}

pub of_each : (bs : List Bool) → Each bs → all_of bs ≡ true
unfolding all_of
of_each [] h = refl
of_each (b ∷ bs) h = rw h.0 (of_each bs h.1)

pub of_every8 : (p : ℕ → Bool) → ((u : ℕ) → u < 8 → p u ≡ true) → every8 p ≡ true
unfolding every8
of_every8 p h = of_each _ (h 0 (omega arith), (h 1 (omega arith), (h 2 (omega arith), (h 3 (omega arith), (h 4 (omega arith), (h 5 (omega arith), (h 6 (omega arith), (h 7 (omega arith), tt))))))))

pub of_every_below : (n : ℕ) (p : ℕ → Bool) → ((i : ℕ) → i < n → p i ≡ true) → every_below n p ≡ true
unfolding every_below
of_every_below zero p h = refl
of_every_below (suc n) p h = rw (of_every_below n p (λ i k. h i (omega arith)), h n (omega arith))

-- A test `not a || b` is an implication, and `a || b` one from the other side.
pub imp : (a b : Bool) → (not a || b) ≡ true → a ≡ true → b ≡ true
imp true b e p = e
imp false b e p = absurd (clash p refl)

pub of_imp : (a b : Bool) → (a ≡ true → b ≡ true) → (not a || b) ≡ true
of_imp true b h = h refl
of_imp false b h = refl

pub or_else : (a b : Bool) → (a || b) ≡ true → a ≡ false → b ≡ true
or_else true b e p = absurd (clash refl p)
or_else false b e p = e

pub of_or_else : (a b : Bool) → (a ≡ false → b ≡ true) → (a || b) ≡ true
of_or_else true b h = refl
of_or_else false b h = h refl

pub leb_le : (m n : ℕ) → leb m n ≡ true → m ≤ n
leb_le m n e = leb→le m n (true_T e)

pub le_leb : (m n : ℕ) → m ≤ n → leb m n ≡ true
le_leb m n h = T_true _ (le→leb m n h)

pub eqb_other : (m n : ℕ) → m ≢ n → eqb m n ≡ false
eqb_other m n h = go (same? m n)
  where
    go : Same m n → eqb m n ≡ false
    go (same p e) = absurd (h p)
    go (other p e) = e

pub positive : (n : ℕ) → eqb n 0 ≡ false → 0 < n
positive n e = let z = eqb_false n 0 e in omega arith

pub not_zero : (n : ℕ) → 0 < n → eqb n 0 ≡ false
not_zero n h = eqb_other n 0 (omega arith)

pub no_group_lem : (e : Expense) → e.group ≡ 255 → in_group e ≡ false
no_group_lem e p = rw p

pub in_group_lem : (e : Expense) → e.group ≢ 255 → in_group e ≡ true
in_group_lem e p = ap not (eqb_other e.group 255 p)

-- A present expense is sound.
pub record Good (home : ℕ → ℕ) (l : Ledger) (c : ℕ) (e : Expense) : Type 0 where
  pub payer8 : e.payer < 8
  pub group16 : (ltb e.group 16 || eqb e.group no_group) ≡ true
  pub homed : home e.payer ≡ c / 64
  pub low : 1 ≤ total e
  pub high : total e ≤ 1_000_000_000
  pub bits : (u : ℕ) → u < 8 → e.acknowledged u ≡ true → 0 < e.shares u
  pub lone : e.group ≡ 255 → (u : ℕ) → u < 8 → e.acknowledged u ≡ true → u ≡ e.payer
  pub payer_in : e.group ≢ 255 → 0 < l.counter e.group e.payer
  pub shares_in : e.group ≢ 255 → (u : ℕ) → u < 8 → 0 < e.shares u → 0 < l.counter e.group u
  pub dayed : day_fits e.day ≡ true

module _ (home : ℕ → ℕ) (l : Ledger) (c : ℕ) (e : Expense) where
  pub good : sound_expense home l c (some e) ≡ true → Good home l c e
  unfolding sound_expense
  good h =
      let p = test _ h in
      record {
        payer8 = ltb_lt e.payer 8 (p 0);
        group16 = p 1;
        homed = eqb_true (home e.payer) (c / 64) (p 2);
        low = leb_le 1 (total e) (p 3);
        high = leb_le (total e) 1_000_000_000 (p 4);
        bits = λ u k a. ltb_lt 0 (e.shares u) (imp (e.acknowledged u) (ltb 0 (e.shares u)) (every_8 _ (p 5) u k) a);
        lone = λ q u k a. eqb_true u e.payer (imp (e.acknowledged u) (eqb u e.payer) (every_8 _ (or_else _ _ (p 6) (no_group_lem e q)) u k) a);
        payer_in = λ q. ltb_lt 0 (l.counter e.group e.payer) (or_else (eqb e.group no_group) (ever_in (l.counter e.group) e.payer) (p 7) (eqb_other e.group no_group q));
        shares_in = λ q u k s. ltb_lt 0 (l.counter e.group u) (or_else (eqb (e.shares u) 0) (ever_in (l.counter e.group) u) (every_8 _ (or_else (eqb e.group no_group) _ (p 8) (eqb_other e.group no_group q)) u k) (not_zero (e.shares u) s));
        dayed = p 9;
      }

  no_in_group : in_group e ≡ false → e.group ≡ 255
  no_in_group h = eqb_true e.group 255 (not_false _ h)

  pub ungood : Good home l c e → sound_expense home l c (some e) ≡ true
  unfolding sound_expense
  ungood g =
      of_each _ (
        ltb_true e.payer 8 g.payer8,
        (
          g.group16,
          (
            ap (λ n. eqb n (c / 64)) g.homed ∙ eqb_self (c / 64),
            (
              le_leb 1 (total e) g.low,
              (
                le_leb (total e) 1_000_000_000 g.high,
                (
                  of_every8 _ (λ u k. of_imp (e.acknowledged u) (ltb 0 (e.shares u)) (λ a. ltb_true 0 (e.shares u) (g.bits u k a))),
                  (
                    of_or_else (in_group e) _ (λ q. of_every8 _ (λ u k. of_imp (e.acknowledged u) (eqb u e.payer) (λ a. ap (λ n. eqb n e.payer) (g.lone (no_in_group q) u k a) ∙ eqb_self e.payer))),
                    (
                      of_or_else (eqb e.group no_group) _ (λ q. ltb_true 0 (l.counter e.group e.payer) (g.payer_in (eqb_false e.group no_group q))),
                      (
                        of_or_else (eqb e.group no_group) _ (λ q. of_every8 _ (λ u k. of_or_else (eqb (e.shares u) 0) (ever_in (l.counter e.group) u) (λ s. ltb_true 0 (l.counter e.group u) (g.shares_in (eqb_false e.group no_group q) u k (positive (e.shares u) s))))),
                        (g.dayed, tt),
                      ),
                    ),
                  ),
                ),
              ),
            ),
          ),
        ),
      )

abbrev pub GoodOption : (ℕ → ℕ) → Ledger → ℕ → Option Expense → Type 0
GoodOption home l c none = Unit {0}
GoodOption home l c (some e) = Good home l c e

abbrev pub GoodLedger : (ℕ → ℕ) → Ledger → Type 0
GoodLedger home l = (c : ℕ) → c < 512 → GoodOption home l c (l.expense c)

pub good_ledger : (home : ℕ → ℕ) (l : Ledger) → sound home l ≡ true → GoodLedger home l
unfolding sound
good_ledger home l h c k = go (l.expense c) (every_below_lem 512 _ h c k)
  where
    go : (o : Option Expense) → sound_expense home l c o ≡ true → GoodOption home l c o
    go none q = tt
    go (some e) q = good home l c e q

pub ungood_ledger : (home : ℕ → ℕ) (l : Ledger) → GoodLedger home l → sound home l ≡ true
unfolding sound sound_expense
ungood_ledger home l h = of_every_below 512 _ (λ c k. go c (l.expense c) (h c k))
  where
    go : (c : ℕ) (o : Option Expense) → GoodOption home l c o → sound_expense home l c o ≡ true
    go c none q = refl
    go c (some e) q = ungood home l c e q

-- The payer of an expense, where there is one, is one of the eight users: of every expense of a sound ledger.
abbrev pub Payer : Option Expense → Type 0
Payer none = Unit {0}
Payer (some e) = e.payer < 8

abbrev pub Payers : Ledger → Type 0
Payers l = (c : ℕ) → c < 512 → Payer (l.expense c)

pub payers : (home : ℕ → ℕ) (l : Ledger) → sound home l ≡ true → Payers l
payers home l h c k = go (l.expense c) (good_ledger home l h c k)
  where
    go : (o : Option Expense) → GoodOption home l c o → Payer o
    go none g = tt
    go (some e) g = g.payer8

-- More members keep an expense sound.
abbrev pub Grown : Ledger → Ledger → Type 0
Grown l m = (g u : ℕ) → l.counter g u ≤ m.counter g u

pub good_more : {home : ℕ → ℕ} {l : Ledger} {c : ℕ} {e : Expense} (m : Ledger) → Grown l m → Good home l c e → Good home m c e
good_more {home} {l} {c} {e} m h g = record {
  payer8 = g.payer8;
  group16 = g.group16;
  homed = g.homed;
  low = g.low;
  high = g.high;
  bits = g.bits;
  lone = g.lone;
  payer_in = λ q. let z = g.payer_in q in let y = h e.group e.payer in omega arith;
  shares_in = λ q u k s. let z = g.shares_in q u k s in let y = h e.group u in omega arith;
  dayed = g.dayed;
}

pub good_option : (home : ℕ → ℕ) (l m : Ledger) (c : ℕ) → Grown l m → (o : Option Expense) → GoodOption home l c o → GoodOption home m c o
good_option home l m c h none g = tt
good_option home l m c h (some e) g = good_more m h g
