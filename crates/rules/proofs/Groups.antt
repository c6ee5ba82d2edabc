-- What steps give a group: the largest counter of each user, and the rule of its founding. It rests on what is worked out from steps (specs, Heard).
use mathlib.Core.Path.{◌≡◌, refl, sym, ap, ◌∙◌}
use mathlib.Core.Bool.{false, cond}
use mathlib.Core.Logic.{◌≢◌}
use mathlib.Core.List.{List, [], ◌∷◌, ◌++◌}
use Prim.Native.Nat.{ℕ, max, ◌≤◌, ◌<◌}
use native.Mathlib.Omega.{arith}
use lib.Dec.{eqb}
use Rattle.rules.specs.Ledger.{either_rule}
use Rattle.rules.specs.Step.{Given, founds, counts, states, acks}
use Rattle.rules.specs.Heard.{counted_by, counter_of, ruled_by, rule_of}
use Rattle.rules.proofs.Basics.{In, here, there, Same, same, other, same?, eqb_true, eqb_self, false_of}

-- The largest counter and the rule, of two lists of steps.
pub counter_append : (s t : List Given) (g u : ℕ) → counter_of (s ++ t) g u ≡ max (counter_of s g u) (counter_of t g u)
counter_append [] t g u = omega arith
counter_append (x ∷ s) t g u = let ih = counter_append s t g u in omega arith

either_assoc : (k j i : ℕ) → either_rule k (either_rule j i) ≡ either_rule (either_rule k j) i
either_assoc k j i = go (same? k 0)
  where
    go : Same k 0 → either_rule k (either_rule j i) ≡ either_rule (either_rule k j) i
    go (same p q) = rw q
    go (other p q) = rw (q, q)

pub rule_append : (s t : List Given) (g : ℕ) → rule_of (s ++ t) g ≡ either_rule (rule_of s g) (rule_of t g)
rule_append [] t g = refl
rule_append (x ∷ s) t g = ap (either_rule (ruled_by x g)) (rule_append s t g) ∙ either_assoc (ruled_by x g) (rule_of s g) (rule_of t g)

-- A counter is no smaller than any of them gave it, and more steps give no smaller one.
pub counted_le : (x : Given) {s : List Given} (g u : ℕ) → In x s → counted_by x g u ≤ counter_of s g u
counted_le x g u (here {b = y} {l = s} e) = let p = ap (λ z. counted_by z g u) e in omega arith
counted_le x g u (there {b = y} {l = s} h) = let p = counted_le x g u h in omega arith

pub counter_le : (s t : List Given) → ((x : Given) → In x s → In x t) → (g u : ℕ) → counter_of s g u ≤ counter_of t g u
counter_le [] t w g u = omega arith
counter_le (x ∷ s) t w g u =
    let p = counted_le x g u (w x (here refl)) in
    let q = counter_le s t (λ y i. w y (there i)) g u in
    omega arith

-- The founding of a group among the steps gives its rule, and no other does: a group is founded under one rule.
abbrev pub OneRule : List Given → Type 0
OneRule s = (g u k w j : ℕ) → In (founds g u k) s → In (founds g w j) s → k ≡ j

rule_by : (x : Given) (g : ℕ) → ruled_by x g ≢ 0 → (u : ℕ) × (x ≡ founds g u (ruled_by x g))
rule_by (founds h u k) g ne = go (same? g h)
  where
    go : Same g h → (w : ℕ) × (founds h u k ≡ founds g w (cond (eqb g h) k 0))
    go (same p q) = (u, rw (q, p))
    go (other p q) = absurd (ne (rw q))
rule_by (counts h u n) g ne = absurd (ne refl)
rule_by (states c e) g ne = absurd (ne refl)
rule_by (acks c v u) g ne = absurd (ne refl)

pub rule_in_lem : (s : List Given) (g : ℕ) → rule_of s g ≢ 0 → (u : ℕ) × In (founds g u (rule_of s g)) s
rule_in_lem [] g ne = absurd (ne refl)
rule_in_lem (x ∷ s) g ne = go (same? (ruled_by x g) 0) (λ h. rule_in_lem s g h)
  where
    go : Same (ruled_by x g) 0 → (rule_of s g ≢ 0 → (u : ℕ) × In (founds g u (rule_of s g)) s) → (u : ℕ) × In (founds g u (either_rule (ruled_by x g) (rule_of s g))) (x ∷ s)
    go (same p q) ih = let t = ih (λ e. ne (rw q e)) in (t.0, rw q (there t.1))
    go (other p q) ih = let t = rule_by x g p in (t.0, rw q (here (sym t.1)))

pub in_rule : (g u k : ℕ) {s : List Given} → In (founds g u k) s → 0 < k → rule_of s g ≢ 0
in_rule g u k (here {b = x} {l = s} e) pos z =
    let p : ruled_by x g ≡ k = ap (λ y. ruled_by y g) (sym e) ∙ rw (eqb_self g) in
    let q : eqb k 0 ≡ false = false_of (eqb k 0) (λ f. let y = eqb_true k 0 f in omega arith) in
    let r : k ≡ 0 = rw (p, q) at z in
    omega arith
in_rule g u k (there {b = x} {l = s} h) pos z = go (same? (ruled_by x g) 0) (λ y. in_rule g u k h pos y)
  where
    go : Same (ruled_by x g) 0 → (rule_of s g ≡ 0 → ⊥) → ⊥
    go (same p q) ih = ih (rw q at z)
    go (other p q) ih = p (rw q at z)

pub rule_is : (s : List Given) → OneRule s → (g u k : ℕ) → In (founds g u k) s → 0 < k → rule_of s g ≡ k
rule_is s one g u k i pos = let t = rule_in_lem s g (in_rule g u k i pos) in one g t.0 (rule_of s g) u k t.1 i
