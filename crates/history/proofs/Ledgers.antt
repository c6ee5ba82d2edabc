-- The claims about every history of ledgers: the same steps give the same ledger, acknowledgements stay, every ledger is sound, merges are accepted.
use mathlib.Core.Path.{◌≡◌, ap, ◌∙◌, subst}
use mathlib.Core.Bool.{true}
use mathlib.Core.Option.{some}
use mathlib.Core.Logic.{◌↔◌}
use mathlib.Core.List.{List}
use Prim.Native.Nat.{ℕ, ◌≤◌}
use lib.ListN.{length}
use Rattle.format.specs.Layout.{Version, group_count, expense_count}
use Rattle.rules.specs.Tests.{first}
use Rattle.rules.specs.Ledger.{Expense}
use Rattle.rules.specs.Step.{Given, founds}
use Rattle.rules.specs.Merge.{rules_agree, agree, merge_answer}
use Rattle.rules.proofs.Basics.{In}
use Rattle.rules.proofs.Theory.{Unique, Within, same_worked}
use Rattle.rules.proofs.Sound.{of_every_below}
use Rattle.history.specs.History.{Call, Step, givens, places}
use Rattle.history.specs.Demand.{Kept}
use Rattle.history.proofs.Run.{run}
use Rattle.history.proofs.Steps.{given_in, given_of, single_unique, founded_one}
use Rattle.history.proofs.Heard.{Invariant}
use Rattle.history.proofs.Sets.{place_in, place_of, keeps, agrees, rules_agree_lem}

-- What the invariant (Heard) gives of the ledgers. Places of steps name what they give.
module _ (home : ℕ → ℕ) (made : ℕ → Version) (h : List Call) (heard : ℕ → ℕ → List Step) (steps : List Step) (i : Invariant (length h) (run home made h) heard steps) where
  place_within : (m r k w : ℕ) → ((p : ℕ) → In p (places (heard m r)) → In p (places (heard k w)))
      → Within (givens (heard m r)) (givens (heard k w))
  place_within m r k w f x y =
      let a = given_of _ x y in
      let b = place_of _ _ (f a.0.place (place_in a.1)) in
      let e : b.0 ≡ a.0 = i.placed b.0 a.0 (i.within k w b.0 b.1) (i.within m r a.0 a.1) b.2 in
      subst (λ z. In z (givens (heard k w))) (ap (λ z. z.given) e ∙ a.2) (given_in b.1)

  given_made : (m r : ℕ) (x : Given) → In x (givens (heard m r)) → In x (givens steps)
  given_made m r x k = let t = given_of _ x k in subst (λ v. In v (givens steps)) t.2 (given_in (i.within m r t.0 t.1))

  heard_unique : (m r : ℕ) → Unique (givens (heard m r))
  heard_unique m r c e f x y = single_unique steps i.single c e f (given_made m r _ x) (given_made m r _ y)

  one_rule : (m r k w g u j x y : ℕ) → In (founds g u j) (givens (heard m r)) → In (founds g x y) (givens (heard k w)) → j ≡ y
  one_rule m r k w g u j x y p q = founded_one steps i.founded g u j x y (given_made m r _ p) (given_made k w _ q)

  -- Equal sets of places, equal ledgers.
  pub same_steps : (m r k w : ℕ) → ((p : ℕ) → In p (places (heard m r)) ↔ In p (places (heard k w))) → run home made h m r ≡ run home made h k w
  same_steps m r k w f =
      rw (i.worked m r, i.worked k w)
      (same_worked _ _ (heard_unique m r) (heard_unique k w) (one_rule k w k w) (place_within m r k w (λ p. (f p).0)) (place_within k w m r (λ p. (f p).1)))

  -- An acknowledgement stays until a later version is held.
  pub stays : (m k r c u : ℕ) (e : Expense) → m ≤ k → k ≤ length h → (run home made h m r).expense c ≡ some e → e.acknowledged u ≡ true → Kept u e ((run home made h k r).expense c)
  stays m k r c u e le top p q =
      rw (i.worked k r)
      (keeps _ _ (heard_unique k r) (λ x y. let t = given_of _ x y in subst (λ v. In v (givens (heard k r))) t.2 (given_in (i.grows m k r le top t.0 t.1))) c u e
      (rw (i.worked m r) at p) q)

  -- A merge of any two ledgers of the history is accepted.
  pub merge_accepted : (m r k w : ℕ) → merge_answer (run home made h m r) (run home made h k w) ≡ 0
  unfolding merge_answer first
  merge_accepted m r k w =
      let a : (c : ℕ) → agree ((run home made h m r).expense c) ((run home made h k w).expense c) ≡ true = λ c.
      rw (i.worked m r, i.worked k w) (agrees _ _ (λ d e f x y. single_unique steps i.single d e f (given_made m r _ x) (given_made k w _ y)) c) in
      let b : (g : ℕ) → rules_agree ((run home made h m r).rule g) ((run home made h k w).rule g) ≡ true = λ g. rw (i.worked m r, i.worked k w) (rules_agree_lem _ _ (one_rule m r k w) g) in
      rw (of_every_below group_count (λ g. rules_agree ((run home made h m r).rule g) ((run home made h k w).rule g)) (λ g j. b g), of_every_below expense_count _ (λ c j. a c))
