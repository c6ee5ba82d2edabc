-- Sets of steps, and what is kept of an acknowledgement when the set grows.
use mathlib.Core.Path.{◌≡◌, refl, sym, ap, ◌∙◌}
use mathlib.Core.Bool.{Bool, true, false, ◌||◌, beq}
use mathlib.Core.Option.{Option, none, some, map, some-injective, none-ne-some}
use mathlib.Core.Logic.{◌⊎◌, inl, inr, ⊎_elim}
use mathlib.Core.List.{List, [], ◌∷◌, Memᴰ}
use Prim.Native.Nat.{ℕ, ◌≤◌}
use native.Mathlib.Omega.{arith}
use lib.Dec.{eqb}
use Rattle.rules.specs.Ledger.{Expense, with_acks}
use Rattle.rules.specs.Step.{Given, founds, states}
use Rattle.rules.specs.Merge.{rules_agree, alike, agree}
use Rattle.rules.specs.Heard.{rule_of, latest, heard_ack, with_heard, expense_from}
use Rattle.rules.proofs.Basics.{In, here, there, in_cases, in_none, Same, same, other, same?, less?, Less, less, more, eqb_self, eqb_true, or_cases, or_left, or_right}
use Rattle.rules.proofs.Groups.{rule_in_lem}
use Rattle.rules.proofs.Theory.{Unique, Within, latest_in, in_latest, in_ack, ack_in}
use Rattle.rules.proofs.Sound.{of_each, of_every8, of_imp}
use Rattle.history.specs.History.{Step, places}
use Rattle.history.specs.Demand.{Kept}

-- Membership in the kit's words and in the rules'.
pub in_mem : {A : Type 0} {a : A} {l : List A} → In a l → Memᴰ a l
in_mem (here e) = Memᴰ.head e
in_mem (there k) = Memᴰ.tail (in_mem k)

pub mem_in : {A : Type 0} {a : A} {l : List A} → Memᴰ a l → In a l
mem_in (Memᴰ.head e) = here e
mem_in (Memᴰ.tail k) = there (mem_in k)

-- The place of a step of the list is among the list's places, and the other way round.
pub place_in : {s : Step} {l : List Step} → In s l → In s.place (places l)
place_in (here e) = here (ap (λ x. x.place) e)
place_in (there h) = there (place_in h)

pub place_of : (l : List Step) (p : ℕ) → In p (places l) → (s : Step) × In s l × (s.place ≡ p)
place_of [] p h = absurd (in_none h)
place_of (t ∷ l) p h = go (in_cases h) (λ k. place_of l p k)
  where
    go : (p ≡ t.place) ⊎ In p (places l) → (In p (places l) → (s : Step) × In s l × (s.place ≡ p)) → (s : Step) × In s (t ∷ l) × (s.place ≡ p)
    go (inl e) ih = (t, here refl, sym e)
    go (inr k) ih = let r = ih k in (r.0, there r.1, r.2)

-- A larger set of steps keeps an acknowledgement, or has a later version.
pub keeps : (s t : List Given) → Unique t → Within s t → (c u : ℕ) (e : Expense) → expense_from s c ≡ some e → e.acknowledged u ≡ true → Kept u e (expense_from t c)
unfolding Kept
keeps s t ut w c u e p q = go (latest s c) refl
  where
    in_t : (a : Expense) → latest s c ≡ some a → In (states c a) t
    in_t a k = w _ (latest_in s c a k)

    same_version : (a b : Expense) → latest s c ≡ some a → latest t c ≡ some b → with_heard s c a ≡ e → a ≡ b → (e.version ≡ b.version) × ((with_heard t c b).acknowledged u ≡ true)
    same_version a b k l z y =
        let v : a.version ≡ b.version = ap (λ x. x.version) y in
        let q' : (a.acknowledged u || heard_ack s c a.version u) ≡ true = ap (λ x. x.acknowledged u) z ∙ q in (
          ap (λ x. x.version) (sym z) ∙ v,
          ⊎_elim
              (λ o. or_left (b.acknowledged u) (heard_ack t c b.version u) (ap (λ x. x.acknowledged u) (sym y) ∙ o))
              (λ o. or_right (b.acknowledged u) (heard_ack t c b.version u) (rw (← v) (in_ack c a.version u (w _ (ack_in s c a.version u o)))))
              (or_cases (a.acknowledged u) (heard_ack s c a.version u) q'),
        )

    go : (o : Option Expense) → latest s c ≡ o → Kept u e (expense_from t c)
    go none k = absurd (none-ne-some e (ap (map (with_heard s c)) (sym k) ∙ p))
    go (some a) k =
        let z : with_heard s c a ≡ e = some-injective (with_heard s c a) e (ap (map (with_heard s c)) (sym k) ∙ p) in
        let ev : a.version ≡ e.version = ap (λ x. x.version) z in
        let o = in_latest c a (in_t a k) in
        let le : a.version ≤ o.0.version = o.2 in
        let go₂ : Less a.version o.0.version → Kept u e (some (with_heard t c o.0)) = λ d. elim d [
          | less j _ ↦ inl (omega arith)
          | more j _ ↦ inr (same_version a o.0 k o.1 z (ut c a o.0 (in_t a k) (latest_in t c o.0 o.1) (omega arith)))
        ] in
        rw o.1 (go₂ (less? a.version o.0.version))

-- Two ledgers worked out from steps of one history agree on equal versions.
alike_self : (e : Expense) (p q : ℕ → Bool) → alike (with_acks e p) (with_acks e q) ≡ true
alike_self e p q = of_each _ (eqb_self e.payer, (eqb_self e.group, (beq_self e.deleted, (of_every8 _ (λ u k. eqb_self (e.shares u)), (eqb_self e.day, tt)))))
  where
    beq_self : (b : Bool) → beq b b ≡ true
    beq_self true = refl
    beq_self false = refl

pub agrees : (s t : List Given) → ((c : ℕ) (e f : Expense) → In (states c e) s → In (states c f) t → e.version ≡ f.version → e ≡ f) → (c : ℕ) → agree (expense_from s c) (expense_from t c) ≡ true
agrees s t uni c = go (latest s c) (latest t c) refl refl
  where
    go : (a b : Option Expense) → latest s c ≡ a → latest t c ≡ b → agree (map (with_heard s c) a) (map (with_heard t c) b) ≡ true
    go none b p q = refl
    go (some e) none p q = refl
    go (some e) (some f) p q = of_imp (eqb e.version f.version) (alike (with_heard s c e) (with_heard t c f)) (λ v.
        let z : f ≡ e = sym (uni c e f (latest_in s c e p) (latest_in t c f q) (eqb_true e.version f.version v)) in
        rw z (alike_self e (with_heard s c e).acknowledged (with_heard t c e).acknowledged))

-- And on the rule of a group that both have heard founded.
pub rules_agree_lem : (s t : List Given) → ((g u k w j : ℕ) → In (founds g u k) s → In (founds g w j) t → k ≡ j) → (g : ℕ) → rules_agree (rule_of s g) (rule_of t g) ≡ true
rules_agree_lem s t one g = go (same? (rule_of s g) 0) (same? (rule_of t g) 0)
  where
    go : Same (rule_of s g) 0 → Same (rule_of t g) 0 → rules_agree (rule_of s g) (rule_of t g) ≡ true
    go (same p q) _ = rw q
    go (other p q) (same a b) = rw (q, b)
    go (other p q) (other a b) =
        let x = rule_in_lem s g p in
        let y = rule_in_lem t g a in
        let z : rule_of s g ≡ rule_of t g = one g x.0 (rule_of s g) y.0 (rule_of t g) x.1 y.1 in
        rw (q, b) (ap (λ n. eqb n (rule_of t g)) z ∙ eqb_self (rule_of t g))
