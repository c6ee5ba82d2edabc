-- Steps of a list, what is kept after a call, and the interface of an accepted step (rules, Accepted: `Fits`) read at what is worked out from steps.
use mathlib.Core.Path.{◌≡◌, refl, sym, ap, ◌∙◌, subst}
use mathlib.Core.Bool.{Bool, true, false, cond}
use mathlib.Core.Option.{Option, none, some, map, some-injective, none-ne-some}
use mathlib.Core.Logic.{◌⊎◌, inl, inr}
use mathlib.Core.List.{List, [], ◌∷◌, ◌++◌}
use Prim.Native.Nat.{ℕ, suc, ◌/◌, ◌≤◌, ◌<◌}
use native.Mathlib.Omega.{arith}
use lib.Dec.{eqb}
use Rattle.format.specs.Layout.{groups_each, expenses_each}
use Rattle.rules.specs.Ledger.{Expense}
use Rattle.rules.specs.Step.{Given, founds, counts, states, acks}
use Rattle.rules.specs.Heard.{counter_of, latest, with_heard, expense_from, worked_out}
use Rattle.rules.proofs.Basics.{In, here, there, in_cases, in_none, Same, same, other, same?, eqb_self}
use Rattle.rules.proofs.Groups.{counted_le, OneRule}
use Rattle.rules.proofs.Theory.{Unique, Within, Adds, in_latest}
use Rattle.rules.proofs.Accepted.{Fits, nobody_zero}
use Rattle.history.specs.History.{after, Step, givens}

-- What a step of the list gives is among what the list gives, and the other way round.
pub given_in : {s : Step} {l : List Step} → In s l → In s.given (givens l)
given_in (here e) = here (ap (λ x. x.given) e)
given_in (there h) = there (given_in h)

pub given_of : (l : List Step) (x : Given) → In x (givens l) → (s : Step) × In s l × (s.given ≡ x)
given_of [] x h = absurd (in_none h)
given_of (t ∷ l) x h = go (in_cases h) (λ k. given_of l x k)
  where
    go : (x ≡ t.given) ⊎ In x (givens l) → (In x (givens l) → (s : Step) × In s l × (s.given ≡ x)) → (s : Step) × In s (t ∷ l) × (s.given ≡ x)
    go (inl e) ih = (t, here refl, sym e)
    go (inr k) ih = let r = ih k in (r.0, there r.1, r.2)

pub givens_append : (s t : List Step) → givens (s ++ t) ≡ givens s ++ givens t
givens_append [] t = refl
givens_append (x ∷ s) t = ap (λ l. x.given ∷ l) (givens_append s t)

pub within_givens : (s t : List Step) → ((x : Step) → In x s → In x t) → Within (givens s) (givens t)
within_givens s t w x i = let r = given_of s x i in subst (λ y. In y (givens t)) r.2 (given_in (w r.0 r.1))

-- What holds of all that was kept and of the new entries holds of all that is kept after a call.
module _ {A B : Type 0} (P : A → B → Type 0) (f : ℕ → ℕ → A) (g : ℕ → ℕ → B) (n r : ℕ) (a : A) (b : B) where
  pub after_both : ((m w : ℕ) → P (f m w) (g m w)) → P a b → (m w : ℕ) → P (after f n r a m w) (after g n r b m w)
  unfolding after
  after_both h k m w = go (eqb m (suc n)) (eqb w r)
    where
      go : (x y : Bool) → P (cond x (cond y a (f n w)) (f m w)) (cond x (cond y b (g n w)) (g m w))
      go true true = k
      go true false = h n w
      go false y = h m w

-- What is kept after a call: the new entry, what is past, and the other replicas' entries.
module _ {A : Type 0} (f : ℕ → ℕ → A) (n r : ℕ) (a : A) where
  pub after_here : after f n r a (suc n) r ≡ a
  unfolding after
  after_here = rw (eqb_self (suc n), eqb_self r)

  pub after_old : (m w : ℕ) → m ≤ n → after f n r a m w ≡ f m w
  unfolding after
  after_old m w h = go (same? m (suc n))
    where
      go : Same m (suc n) → cond (eqb m (suc n)) (cond (eqb w r) a (f n w)) (f m w) ≡ f m w
      go (same p q) = absurd (omega arith)
      go (other p q) = rw q

  pub after_now : (P : A → Type 0) (w : ℕ) → (w ≡ r → P a) → P (f n w) → P (after f n r a (suc n) w)
  unfolding after
  after_now P w h k = rw (eqb_self (suc n)) (go (same? w r))
    where
      go : Same w r → P (cond (eqb w r) a (f n w))
      go (same p q) = rw q (h p)
      go (other p q) = rw q k

-- The interface, read at what is worked out from the steps heard.
module _ (g : List Given) (r : ℕ) where
  pub fits_states : (x : Given) (c : ℕ) (e : Expense) → x ≡ states c e → Fits r (worked_out g) x → (c / expenses_each ≡ r) × ((f : Expense) → In (states c f) g → f.version < e.version)
  fits_states x c e p ft =
      let t : Fits r (worked_out g) (states c e) = subst (λ y. Fits r (worked_out g) y) p ft in (
        t.0,
        λ f k.
            let o = in_latest c f k in
            let z = t.1 (with_heard g c o.0) (ap (map (with_heard g c)) o.1) in
            let y = o.2 in
            omega arith,
      )

  latest_of : (c v : ℕ) (e : Expense) → expense_from g c ≡ some e → e.version ≡ v → (f : Expense) × (latest g c ≡ some f) × (f.version ≡ v)
  latest_of c v e p q = go (latest g c) refl
    where
      go : (o : Option Expense) → latest g c ≡ o → (f : Expense) × (latest g c ≡ some f) × (f.version ≡ v)
      go none k = absurd (none-ne-some e (ap (map (with_heard g c)) (sym k) ∙ p))
      go (some f) k =
          let z : with_heard g c f ≡ e = some-injective (with_heard g c f) e (ap (map (with_heard g c)) (sym k) ∙ p) in
          (f, k, ap (λ y. y.version) z ∙ q)

  pub fits_acks : (x : Given) (c v u : ℕ) → x ≡ acks c v u → Fits r (worked_out g) x → (e : Expense) × (latest g c ≡ some e) × (e.version ≡ v)
  fits_acks x c v u p ft =
      let t : Fits r (worked_out g) (acks c v u) = subst (λ y. Fits r (worked_out g) y) p ft in
      latest_of c v t.0 t.1 t.2

  -- A founding: of a group of this replica's own, of which no founding was heard before.
  pub fits_founds : (x : Given) (h u k : ℕ) → x ≡ founds h u k → Fits r (worked_out g) x
      → (h / groups_each ≡ r) × (u < 8) × (0 < k) × ((w j : ℕ) → w < 8 → In (founds h w j) g → ⊥)
  fits_founds x h u k p ft =
      let t : Fits r (worked_out g) (founds h u k) = subst (λ y. Fits r (worked_out g) y) p ft in (
        t.0,
        t.1,
        t.3,
        λ w j w8 i.
            let z = counted_le (founds h w j) h w i in
            let y : 1 ≤ counter_of g h w = rw (eqb_self h, eqb_self w) at z in
            let q = nobody_zero (counter_of g h) t.2 w w8 in
            omega arith,
      )

  pub fits_adds : (x : Given) → Fits r (worked_out g) x → Adds g x
  fits_adds (founds h u k) ft = (let z = nobody_zero (counter_of g h) ft.2 u ft.1 in omega arith, ft.3)
  fits_adds (counts h u n) ft = ft
  fits_adds (states c e) ft = (fits_states (states c e) c e refl ft).1
  fits_adds (acks c v u) ft = fits_acks (acks c v u) c v u refl ft

states_same : (c : ℕ) (e f : Expense) → states c e ≡ states c f → e ≡ f
states_same c e f p = cc

-- Of each version of an expense there is one step.
abbrev pub Single : List Step → Type 0
Single made = (s t : Step) (c : ℕ) (e f : Expense) → In s made → In t made → s.given ≡ states c e → t.given ≡ states c f → e.version ≡ f.version → s ≡ t

pub single_unique : (made : List Step) → Single made → Unique (givens made)
single_unique made h c e f x y eq =
    let a = given_of made (states c e) x in
    let b = given_of made (states c f) y in
    let p : a.0 ≡ b.0 = h a.0 b.0 c e f a.1 b.1 a.2 b.2 eq in
    states_same c e f (sym a.2 ∙ ap (λ z. z.given) p ∙ b.2)

founds_same : (g u k w j : ℕ) → founds g u k ≡ founds g w j → k ≡ j
founds_same g u k w j p = cc

-- A group is founded once.
abbrev pub Founded : List Step → Type 0
Founded made = (s t : Step) (g u k w j : ℕ) → In s made → In t made → s.given ≡ founds g u k → t.given ≡ founds g w j → s ≡ t

pub founded_one : (made : List Step) → Founded made → OneRule (givens made)
founded_one made h g u k w j x y =
    let a = given_of made (founds g u k) x in
    let b = given_of made (founds g w j) y in
    let p : a.0 ≡ b.0 = h a.0 b.0 g u k w j a.1 b.1 a.2 b.2 in
    founds_same g u k w j (sym a.2 ∙ ap (λ z. z.given) p ∙ b.2)
