-- Accepted merges keep a ledger sound: an expense of the union is one of the two ledgers' own, or two alike whose acknowledgements are united. It rests on Sound, and on Theory for the merge
-- of two versions.
use mathlib.Core.Path.{◌≡◌, sym, ap, ◌∙◌}
use mathlib.Core.Bool.{true}
use mathlib.Core.Option.{Option, none, some}
use mathlib.Core.Logic.{⊎_elim}
use Prim.Native.Nat.{ℕ, ◌<◌}
use native.Mathlib.Omega.{arith}
use lib.Dec.{eqb}
use Rattle.rules.proofs.Basics.{or_cases, eqb_true, eqb_self, less?, Less, less, more}
use Rattle.rules.specs.Ledger.{Expense, with_acks, Ledger}
use Rattle.rules.specs.Sound.{sound}
use Rattle.rules.specs.Merge.{united, merged, merge_expense, merge_ledger, alike, agree, merge_answer}
use Rattle.rules.proofs.Accepted.{pass, test, every_8, every_below_lem, not_false}
use Rattle.rules.proofs.Sound.{imp, Good, GoodOption, good_ledger, ungood_ledger, good_more}
use Rattle.rules.proofs.Theory.{merged_lt, merged_gt, merged_eq}

module _ (home : ℕ → ℕ) (l m : Ledger) (c : ℕ) where
  left : (e : Expense) → Good home l c e → Good home (merge_ledger l m) c e
  left e g = good_more (merge_ledger l m) (λ x u. omega arith) g

  right : (f : Expense) → Good home m c f → Good home (merge_ledger l m) c f
  right f g = good_more (merge_ledger l m) (λ x u. omega arith) g

  both : (e f : Expense) → alike e f ≡ true → Good home l c e → Good home m c f → Good home (merge_ledger l m) c (with_acks e (united e f))
  both e f al ge gf =
      let g = left e ge in
      record {
        payer8 = g.payer8;
        group16 = g.group16;
        homed = g.homed;
        low = g.low;
        high = g.high;
        bits = λ u k b. ⊎_elim (g.bits u k) (λ q. let z = gf.bits u k q in rw (shares_are u k) z) (or_cases (e.acknowledged u) (f.acknowledged u) b);
        lone = λ p u k b. ⊎_elim (g.lone p u k) (λ q. gf.lone (sym (eqb_true e.group f.group (test _ al 1)) ∙ p) u k q ∙ sym (eqb_true e.payer f.payer (test _ al 0))) (or_cases (e.acknowledged u) (f.acknowledged u) b);
        payer_in = g.payer_in;
        shares_in = g.shares_in;
        dayed = g.dayed;
      }
    where
      shares_are : (u : ℕ) → u < 8 → e.shares u ≡ f.shares u
      shares_are u k = eqb_true (e.shares u) (f.shares u) (every_8 _ (test _ al 3) u k)

  merge_one : (a b : Option Expense) → agree a b ≡ true → GoodOption home l c a → GoodOption home m c b → GoodOption home (merge_ledger l m) c (merge_expense a b)
  merge_one none none ag ga gb = tt
  merge_one none (some f) ag ga gb = right f gb
  merge_one (some e) none ag ga gb = left e ga
  merge_one (some e) (some f) ag ga gb = go (less? e.version f.version) (less? f.version e.version)
    where
      go : Less e.version f.version → Less f.version e.version → Good home (merge_ledger l m) c (merged e f)
      go (less k _) _ = rw (merged_lt e f k) (right f gb)
      go (more k _) (less j _) = rw (merged_gt e f j) (left e ga)
      go (more k _) (more j _) =
          let v : e.version ≡ f.version = omega arith in
          rw (merged_eq e f v) (both e f (imp (eqb e.version f.version) (alike e f) ag (ap (λ n. eqb n f.version) v ∙ eqb_self f.version)) ga gb)

pub merge_sound : (home : ℕ → ℕ) (l m : Ledger) → sound home l ≡ true → sound home m ≡ true → merge_answer l m ≡ 0 → sound home (merge_ledger l m) ≡ true
unfolding merge_answer
merge_sound home l m sl sm e =
    let p = pass _ tt e in
    ungood_ledger home (merge_ledger l m) (λ c k. merge_one home l m c (l.expense c) (m.expense c) (every_below_lem 512 _ (not_false _ (p 1)) c k)
    (good_ledger home l sl c k) (good_ledger home m sm c k))
