-- What is worked out from steps: it depends on the set of steps alone, a step adds to it, a merge unites.
use mathlib.Core.Path.{◌≡◌, refl, sym, ap, ◌∙◌, fun_ext}
use mathlib.Core.Bool.{Bool, true, false, cond, ◌&&◌, ◌||◌, or_assoc, or-true, or-false}
use mathlib.Core.Option.{Option, none, some, map, none-ne-some, some-injective}
use mathlib.Core.Logic.{◌⊎◌, inl, inr, ◌≢◌, ⊎_elim}
use mathlib.Core.List.{List, [], ◌∷◌, ◌++◌}
use Prim.Native.Nat.{ℕ, max, ◌≤◌, ◌<◌}
use native.Mathlib.Omega.{arith}
use lib.Dec.{eqb}
use Rattle.rules.specs.Ledger.{Expense, with_acks, Ledger, either_rule}
use Rattle.rules.specs.Step.{Given, founds, counts, states, acks, add_ack, apply}
use Rattle.rules.specs.Merge.{united, merged, merge_expense, merge_ledger}
use Rattle.rules.specs.Heard.{counter_of, rule_of, newer, stated_by, latest, acked_by, heard_ack, with_heard, expense_from, worked_out}
use Rattle.rules.proofs.Groups.{counter_append, rule_append, counter_le, OneRule, rule_in_lem, in_rule, rule_is}
use Rattle.rules.proofs.Basics.{In, here, there, in_left, in_right, in_either, clash, Same, same, other, same?, eqb_true, eqb_self, Less, less, more, less?, ltb_true, ltb_false, and_left, and_right, false_of, bool_path}

pub merged_lt : (e f : Expense) → e.version < f.version → merged e f ≡ f
merged_lt e f h = rw (ltb_true e.version f.version h)

pub merged_gt : (e f : Expense) → f.version < e.version → merged e f ≡ e
merged_gt e f h = rw (ltb_false e.version f.version (omega arith), ltb_true f.version e.version h)

pub merged_eq : (e f : Expense) → e.version ≡ f.version → merged e f ≡ with_acks e (united e f)
merged_eq e f h = rw (ltb_false e.version f.version (omega arith), ltb_false f.version e.version (omega arith))

-- The acknowledgements heard, of two lists of steps.
pub ack_append : (s t : List Given) (c v u : ℕ) → heard_ack (s ++ t) c v u ≡ (heard_ack s c v u || heard_ack t c v u)
ack_append [] t c v u = refl
ack_append (x ∷ s) t c v u = ap (λ b. acked_by x c v u || b) (ack_append s t c v u) ∙ sym (or_assoc (acked_by x c v u) (heard_ack s c v u) (heard_ack t c v u))

-- The acknowledgement is one of the steps where the test says so.
ack_of : (x : Given) (c v u : ℕ) → acked_by x c v u ≡ true → x ≡ acks c v u
ack_of (founds g w k) c v u e = absurd (clash e refl)
ack_of (counts g w n) c v u e = absurd (clash e refl)
ack_of (states d f) c v u e = absurd (clash e refl)
ack_of (acks d w z) c v u e =
    let k : (eqb v w && eqb u z) ≡ true = and_right (eqb c d) (eqb v w && eqb u z) e in
    let p : c ≡ d = eqb_true c d (and_left (eqb c d) (eqb v w && eqb u z) e) in
    let q : v ≡ w = eqb_true v w (and_left (eqb v w) (eqb u z) k) in
    let r : u ≡ z = eqb_true u z (and_right (eqb v w) (eqb u z) k) in
    cc

pub ack_in : (s : List Given) (c v u : ℕ) → heard_ack s c v u ≡ true → In (acks c v u) s
ack_in [] c v u e = absurd (clash e refl)
ack_in (x ∷ s) c v u e = go (acked_by x c v u) refl (λ h. ack_in s c v u h)
  where
    go : (b : Bool) → acked_by x c v u ≡ b → (heard_ack s c v u ≡ true → In (acks c v u) s) → In (acks c v u) (x ∷ s)
    go true p ih = here (sym (ack_of x c v u p))
    go false p ih = there (ih (rw p at e))

self_ack : (c v u : ℕ) → acked_by (acks c v u) c v u ≡ true
self_ack c v u = rw (eqb_self c, eqb_self v, eqb_self u)

pub in_ack : (c v u : ℕ) {s : List Given} → In (acks c v u) s → heard_ack s c v u ≡ true
in_ack c v u (here {b = x} {l = s} e) = rw (ap (λ y. acked_by y c v u) (sym e) ∙ self_ack c v u)
in_ack c v u (there {b = x} {l = s} h) = rw (in_ack c v u h) (or-true (acked_by x c v u))

-- The latest statement of an expense.
newer_left : (e : Expense) (o : Option Expense) → (f : Expense) × (newer (some e) o ≡ some f) × (e.version ≤ f.version)
newer_left e none = (e, refl, omega arith)
newer_left e (some f) = go (less? e.version f.version)
  where
    go : Less e.version f.version → (h : Expense) × (newer (some e) (some f) ≡ some h) × (e.version ≤ h.version)
    go (less k p) = (f, rw p, omega arith)
    go (more k p) = (e, rw p, omega arith)

newer_right : (o : Option Expense) (e : Expense) → (f : Expense) × (newer o (some e) ≡ some f) × (e.version ≤ f.version)
newer_right none e = (e, refl, omega arith)
newer_right (some f) e = go (less? f.version e.version)
  where
    go : Less f.version e.version → (h : Expense) × (newer (some f) (some e) ≡ some h) × (e.version ≤ h.version)
    go (less k p) = (e, rw p, omega arith)
    go (more k p) = (f, rw p, k)

newer_one : (o q : Option Expense) (e : Expense) → newer o q ≡ some e → (o ≡ some e) ⊎ (q ≡ some e)
newer_one none q e p = inr p
newer_one (some f) none e p = inl p
newer_one (some f) (some h) e p = go (less? f.version h.version)
  where
    go : Less f.version h.version → (some f ≡ some e) ⊎ (some h ≡ some e)
    go (less k r) = inr (rw r at p)
    go (more k r) = inl (rw r at p)

stated_by_lem : (x : Given) (c : ℕ) (e : Expense) → stated_by x c ≡ some e → x ≡ states c e
stated_by_lem (founds g u k) c e p = absurd (none-ne-some e p)
stated_by_lem (counts g u n) c e p = absurd (none-ne-some e p)
stated_by_lem (acks d v u) c e p = absurd (none-ne-some e p)
stated_by_lem (states d f) c e p = go (same? c d)
  where
    go : Same c d → states d f ≡ states c e
    go (same k r) = let q : some f ≡ some e = rw r at p in cc
    go (other k r) = absurd (none-ne-some e (rw r at p))

by_stated : (c : ℕ) (e : Expense) → stated_by (states c e) c ≡ some e
by_stated c e = rw (eqb_self c)

pub latest_in : (s : List Given) (c : ℕ) (e : Expense) → latest s c ≡ some e → In (states c e) s
latest_in [] c e p = absurd (none-ne-some e p)
latest_in (x ∷ s) c e p = go (newer_one (stated_by x c) (latest s c) e p) (λ q. latest_in s c e q)
  where
    go : (stated_by x c ≡ some e) ⊎ (latest s c ≡ some e) → (latest s c ≡ some e → In (states c e) s) → In (states c e) (x ∷ s)
    go (inl q) ih = here (sym (stated_by_lem x c e q))
    go (inr q) ih = there (ih q)

pub in_latest : (c : ℕ) (e : Expense) {s : List Given} → In (states c e) s → (f : Expense) × (latest s c ≡ some f) × (e.version ≤ f.version)
in_latest c e (here {b = x} {l = s} p) =
    let q : stated_by x c ≡ some e = ap (λ y. stated_by y c) (sym p) ∙ by_stated c e in
    rw q (newer_left e (latest s c))
in_latest c e (there {b = x} {l = s} h) = go (in_latest c e h)
  where
    go : (f : Expense) × (latest s c ≡ some f) × (e.version ≤ f.version) → (f : Expense) × (newer (stated_by x c) (latest s c) ≡ some f) × (e.version ≤ f.version)
    go t =
        let r = newer_right (stated_by x c) t.0 in
        let k : e.version ≤ t.0.version = t.2 in
        let k₂ : t.0.version ≤ r.0.version = r.2 in
        (r.0, rw t.1 r.1, omega arith)

-- Facts of a set of steps: of each version of an expense there is one statement, and what is acknowledged is stated.
abbrev pub Unique : List Given → Type 0
Unique s = (c : ℕ) (e f : Expense) → In (states c e) s → In (states c f) s → e.version ≡ f.version → e ≡ f

abbrev pub Closed : List Given → Type 0
Closed s = (c v u : ℕ) → In (acks c v u) s → (e : Expense) × In (states c e) s × (e.version ≡ v)

abbrev pub Within : List Given → List Given → Type 0
Within s t = (x : Given) → In x s → In x t

some_none : {A : Type 0} {o : Option A} {a : A} → o ≡ some a → o ≡ none → ⊥
some_none {a = a} p q = none-ne-some a (sym q ∙ p)

-- Under uniqueness the latest statement is the one of the highest version.
pub latest_is : (s : List Given) → Unique s → (c : ℕ) (e : Expense) → In (states c e) s → ((f : Expense) → In (states c f) s → f.version ≤ e.version) → latest s c ≡ some e
latest_is s uni c e i top =
    let r = in_latest c e i in
    let j = latest_in s c r.0 r.1 in
    let k : e.version ≤ r.0.version = r.2 in
    let k₂ : r.0.version ≤ e.version = top r.0 j in
    let q : r.0 ≡ e = uni c r.0 e j i (omega arith) in
    r.1 ∙ ap some q

pub latest_none : (s : List Given) (c : ℕ) → ((f : Expense) → In (states c f) s → ⊥) → latest s c ≡ none
latest_none s c h = go (latest s c) refl
  where
    go : (o : Option Expense) → latest s c ≡ o → latest s c ≡ none
    go none p = p
    go (some e) p = absurd (h e (latest_in s c e p))

pub none_stated : (s : List Given) (c : ℕ) → latest s c ≡ none → (f : Expense) → In (states c f) s → ⊥
none_stated s c p f i = some_none (in_latest c f i).1 p

pub top_stated : (s : List Given) (c : ℕ) (e : Expense) → latest s c ≡ some e → (f : Expense) → In (states c f) s → f.version ≤ e.version
top_stated s c e p f i =
    let r = in_latest c f i in
    let q : r.0 ≡ e = some-injective r.0 e (sym r.1 ∙ p) in
    rw (← q) r.2

-- No acknowledgement of a version that is not stated.
pub unheard : (s : List Given) → Closed s → (c v u : ℕ) → ((f : Expense) → In (states c f) s → f.version ≢ v) → heard_ack s c v u ≡ false
unheard s cl c v u h = false_of (heard_ack s c v u) (λ p. let r = cl c v u (ack_in s c v u p) in h r.0 r.1 r.2)

-- Equal parts make equal ledgers.
pub ledger_path : (a b : Ledger) → ((g u : ℕ) → a.counter g u ≡ b.counter g u) → ((g : ℕ) → a.rule g ≡ b.rule g) → ((c : ℕ) → a.expense c ≡ b.expense c) → a ≡ b
ledger_path a b p r q = λ i. record { counter = λ g u. p g u i; rule = λ g. r g i; expense = λ c. q c i }

pub acks_path : (e : Expense) (p q : ℕ → Bool) → ((w : ℕ) → p w ≡ q w) → with_acks e p ≡ with_acks e q
acks_path e p q h = λ i. with_acks e (λ w. h w i)

or_swap : (a b c : Bool) → (a || (b || c)) ≡ ((a || b) || (a || c))
or_swap true b c = refl
or_swap false b c = refl

-- An expense worked out from two lists of steps is the merge of the two.
module _ (s t : List Given) (uni : Unique (s ++ t)) (cs : Closed s) (ct : Closed t) (c : ℕ) where
  only_right : (f : Expense) → ((w : ℕ) → heard_ack s c f.version w ≡ false) → with_heard (s ++ t) c f ≡ with_heard t c f
  only_right f h = acks_path f _ _ (λ w. rw (ack_append s t c f.version w, h w))

  only_left : (e : Expense) → ((w : ℕ) → heard_ack t c e.version w ≡ false) → with_heard (s ++ t) c e ≡ with_heard s c e
  only_left e h = acks_path e _ _ (λ w. rw (ack_append s t c e.version w, h w) (rw or-false))

  both : (e : Expense) → with_heard (s ++ t) c e ≡ merged (with_heard s c e) (with_heard t c e)
  both e = acks_path e _ _ (λ w. rw (ack_append s t c e.version w) (or_swap (e.acknowledged w) (heard_ack s c e.version w) (heard_ack t c e.version w)))
      ∙ sym (merged_eq (with_heard s c e) (with_heard t c e) refl)

  top_of : (n : ℕ) → ((f : Expense) → In (states c f) s → f.version ≤ n) → ((f : Expense) → In (states c f) t → f.version ≤ n) → (f : Expense) → In (states c f) (s ++ t) → f.version ≤ n
  top_of n p q f i = ⊎_elim (p f) (q f) (in_either s i)

  merge_go : (a b : Option Expense) → latest s c ≡ a → latest t c ≡ b → expense_from (s ++ t) c ≡ merge_expense (map (with_heard s c) a) (map (with_heard t c) b)
  merge_go none none p q = rw (latest_none (s ++ t) c (λ f i. ⊎_elim (none_stated s c p f) (none_stated t c q f) (in_either s i)))
  merge_go none (some f) p q =
      let l : latest (s ++ t) c ≡ some f = latest_is (s ++ t) uni c f (in_right s (latest_in t c f q)) (top_of f.version (λ h i. absurd (none_stated s c p h i)) (top_stated t c f q)) in
      rw l (ap some (only_right f (λ w. unheard s cs c f.version w (λ h i. absurd (none_stated s c p h i)))))
  merge_go (some e) none p q =
      let l : latest (s ++ t) c ≡ some e = latest_is (s ++ t) uni c e (in_left t (latest_in s c e p)) (top_of e.version (top_stated s c e p) (λ h i. absurd (none_stated t c q h i))) in
      rw l (ap some (only_left e (λ w. unheard t ct c e.version w (λ h i. absurd (none_stated t c q h i)))))
  merge_go (some e) (some f) p q = go (less? e.version f.version) (less? f.version e.version)
    where
      go : Less e.version f.version → Less f.version e.version → expense_from (s ++ t) c ≡ some (merged (with_heard s c e) (with_heard t c f))
      go (less k _) _ =
          let l : latest (s ++ t) c ≡ some f = latest_is (s ++ t) uni c f (in_right s (latest_in t c f q)) (top_of f.version (λ h i. let z = top_stated s c e p h i in omega arith) (top_stated t c f q)) in
          rw (l, merged_lt (with_heard s c e) (with_heard t c f) k) (ap some (only_right f (λ w. unheard s cs c f.version w (λ h i r. let z = top_stated s c e p h i in omega arith))))
      go (more k _) (less j _) =
          let l : latest (s ++ t) c ≡ some e = latest_is (s ++ t) uni c e (in_left t (latest_in s c e p)) (top_of e.version (top_stated s c e p) (λ h i. let z = top_stated t c f q h i in omega arith)) in
          rw (l, merged_gt (with_heard s c e) (with_heard t c f) j) (ap some (only_left e (λ w. unheard t ct c e.version w (λ h i r. let z = top_stated t c f q h i in omega arith))))
      go (more k _) (more j _) =
          let l : latest (s ++ t) c ≡ some e = latest_is (s ++ t) uni c e (in_left t (latest_in s c e p)) (top_of e.version (top_stated s c e p) (λ h i. let z = top_stated t c f q h i in omega arith)) in
          let r : f ≡ e = uni c f e (in_right s (latest_in t c f q)) (in_left t (latest_in s c e p)) (omega arith) in
          rw (l, r) (ap some (both e))

  merge_expense_lem : expense_from (s ++ t) c ≡ merge_expense (expense_from s c) (expense_from t c)
  merge_expense_lem = merge_go (latest s c) (latest t c) refl refl

pub merges : (s t : List Given) → Unique (s ++ t) → Closed s → Closed t → merge_ledger (worked_out s) (worked_out t) ≡ worked_out (s ++ t)
merges s t uni cs ct = sym (ledger_path (worked_out (s ++ t)) (merge_ledger (worked_out s) (worked_out t)) (counter_append s t) (rule_append s t) (merge_expense_lem s t uni cs ct))

-- A step adds to what is worked out, where it fits what was heard before.
abbrev pub Adds : List Given → Given → Type 0
Adds s (founds g u k) = (counter_of s g u ≤ 1) × (0 < k)
Adds s (counts g u n) = counter_of s g u ≤ n
Adds s (states c e) = (f : Expense) → In (states c f) s → f.version < e.version
Adds s (acks c v u) = (e : Expense) × (latest s c ≡ some e) × (e.version ≡ v)

newest : (s : List Given) (c : ℕ) (e : Expense) → ((f : Expense) → In (states c f) s → f.version < e.version) → newer (some e) (latest s c) ≡ some e
newest s c e h = go (latest s c) refl
  where
    go : (o : Option Expense) → latest s c ≡ o → newer (some e) o ≡ some e
    go none p = refl
    go (some f) p = rw (ltb_false e.version f.version (let z = h f (latest_in s c f p) in omega arith))

set_counter_lem : (s : List Given) (g u n : ℕ) → counter_of s g u ≤ n → (h w : ℕ) → cond (eqb h g && eqb w u) n (counter_of s h w) ≡ max (cond (eqb h g && eqb w u) n 0) (counter_of s h w)
set_counter_lem s g u n le h w = go (same? h g) (same? w u)
  where
    go : Same h g → Same w u → cond (eqb h g && eqb w u) n (counter_of s h w) ≡ max (cond (eqb h g && eqb w u) n 0) (counter_of s h w)
    go (same p r) (same q k) = rw (r, k, p, q) (omega arith)
    go (same p r) (other q k) = rw (r, k) (omega arith)
    go (other p r) _ = rw r (omega arith)

add_founds : (s : List Given) (g u k : ℕ) → counter_of s g u ≤ 1 → 0 < k → apply (founds g u k) (worked_out s) ≡ worked_out (founds g u k ∷ s)
add_founds s g u k le pos = ledger_path _ _ (set_counter_lem s g u 1 le) (λ h. go h (same? h g)) (λ d. refl)
  where
    go : (h : ℕ) → Same h g → cond (eqb h g) k (rule_of s h) ≡ either_rule (cond (eqb h g) k 0) (rule_of s h)
    go h (same p r) = rw (r, false_of (eqb k 0) (λ e. let z = eqb_true k 0 e in omega arith))
    go h (other p r) = rw r

add_counts : (s : List Given) (g u n : ℕ) → counter_of s g u ≤ n → apply (counts g u n) (worked_out s) ≡ worked_out (counts g u n ∷ s)
add_counts s g u n le = ledger_path _ _ (set_counter_lem s g u n le) (λ h. refl) (λ d. refl)

add_states : (s : List Given) → Closed s → (c : ℕ) (e : Expense) → ((f : Expense) → In (states c f) s → f.version < e.version) → apply (states c e) (worked_out s) ≡ worked_out (states c e ∷ s)
add_states s cl c e h = ledger_path _ _ (λ g u. omega arith) (λ g. refl) (λ d. go d (same? d c))
  where
    go : (d : ℕ) → Same d c → cond (eqb d c) (some e) (expense_from s d) ≡ expense_from (states c e ∷ s) d
    go d (same p r) = rw (r, p, newest s c e h) (ap some (acks_path e _ _ (λ w. rw (unheard s cl c e.version w (λ f i k. let z = h f i in omega arith)) (sym (or-false (e.acknowledged w))))))
    go d (other p r) = rw r

or_last : (a b c : Bool) → ((a || b) || c) ≡ (a || (c || b))
or_last true b c = refl
or_last false true true = refl
or_last false true false = refl
or_last false false true = refl
or_last false false false = refl

add_acks : (s : List Given) (c v u : ℕ) (e : Expense) → latest s c ≡ some e → e.version ≡ v → apply (acks c v u) (worked_out s) ≡ worked_out (acks c v u ∷ s)
add_acks s c v u e p q = ledger_path _ _ (λ g w. omega arith) (λ g. refl) (λ d. go d (same? d c))
  where
    go : (d : ℕ) → Same d c → cond (eqb d c) (add_ack u (expense_from s d)) (expense_from s d) ≡ expense_from (acks c v u ∷ s) d
    go d (same k r) = rw (r, k, p) (ap some (acks_path e _ _ (λ w. rw (q, eqb_self c, eqb_self v) (or_last (e.acknowledged w) (heard_ack s c v w) (eqb w u)))))
    go d (other k r) = ap (λ b. cond b (add_ack u (expense_from s d)) (expense_from s d)) r ∙ ap (λ f. map f (latest s d)) (fun_ext (λ x. acks_path x _ _ (λ w. rw r)))

pub adds : (s : List Given) (x : Given) → Closed s → Adds s x → apply x (worked_out s) ≡ worked_out (x ∷ s)
adds s (founds g u k) cl h = add_founds s g u k h.0 h.1
adds s (counts g u n) cl h = add_counts s g u n h
adds s (states c e) cl h = add_states s cl c e h
adds s (acks c v u) cl h = add_acks s c v u h.0 h.1 h.2

-- The same steps give the same ledger.
pub same_worked : (s t : List Given) → Unique s → Unique t → OneRule t → Within s t → Within t s → worked_out s ≡ worked_out t
same_worked s t us ut ot st ts =
    ledger_path _ _ (λ g u. let p = counter_le s t st g u in let q = counter_le t s ts g u in omega arith) (λ g. ruled g (same? (rule_of s g) 0) (same? (rule_of t g) 0)) (λ c. go c (latest s c) refl)
  where
    ruled : (g : ℕ) → Same (rule_of s g) 0 → Same (rule_of t g) 0 → rule_of s g ≡ rule_of t g
    ruled g (same p _) (same q _) = p ∙ sym q
    ruled g (same p _) (other q _) = let i = rule_in_lem t g q in absurd (in_rule g i.0 (rule_of t g) (ts _ i.1) (omega arith) p)
    ruled g (other p _) _ = let i = rule_in_lem s g p in sym (rule_is t ot g i.0 (rule_of s g) (st _ i.1) (omega arith))

    heard : (c v w : ℕ) → heard_ack s c v w ≡ heard_ack t c v w
    heard c v w = bool_path _ _ (λ p. in_ack c v w (st _ (ack_in s c v w p))) (λ p. in_ack c v w (ts _ (ack_in t c v w p)))

    go : (c : ℕ) (o : Option Expense) → latest s c ≡ o → expense_from s c ≡ expense_from t c
    go c none p = rw (p, latest_none t c (λ f i. none_stated s c p f (ts _ i)))
    go c (some e) p =
        let l : latest t c ≡ some e = latest_is t ut c e (st _ (latest_in s c e p)) (λ f i. top_stated s c e p f (ts _ i)) in
        rw (p, l) (ap some (acks_path e _ _ (λ w. ap (λ b. e.acknowledged w || b) (heard c e.version w))))
