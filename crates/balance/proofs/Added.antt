-- One expense added to the sums of a group.
use Rattle.std.proofs.Common.{◌≡◌, sym, ap, ap₂, ◌∙◌, Bool, true, false, ◌&&◌, List, ◌⊎◌, inl, inr, ◌≢◌, ℕ, ◌+◌, arith, ltb, eqb, length}
use mathlib.Core.Option.{Option}
use Rattle.format.specs.Layout.{use_rule}
use Rattle.format.specs.declared.ExpenseRecord.{ExpenseRecord}
use Rattle.rules.specs.Tests.{number, only, sum8, eight_at, eight_of}
use Rattle.rules.specs.Ledger.{Expense}
use Rattle.rules.specs.Balance.{paid_in, held_in, valid_in}
use Rattle.images.specs.Meaning.{meaning}
use Rattle.rules.proofs.Sums.{only_zero}
use Rattle.rules.proofs.Sound.{eqb_other}
use Rattle.fields.specs.Fields.{stands_in}
use Rattle.amounts.proofs.Amounts.{add_none}
use Rattle.validity.proofs.Counts.{backed, counts, paid_of, held_of, used_of, valid_of}
use Rattle.balance.specs.declared.Sums.{Sums}
use Rattle.balance.specs.Sums.{uses_in, Added}

-- The uses after an expense, counted where the rule asks for them.
pub uses_added : (rule : ℕ) (n n' l : List ℕ) → length n ≡ 8 → ((rule ≡ use_rule) × (n' ≡ eight_of (λ u. eight_at n u + number (ltb 0 (eight_at l u))))) ⊎ ((rule ≢ use_rule) × (n' ≡ n))
    → n' ≡ eight_of (λ u. eight_at n u + only (eqb rule use_rule) (number (ltb 0 (eight_at l u))))
uses_added rule n n' l k (inl w) = w.1 ∙ (λ i. eight_of (λ u. eight_at n u + only (sym (ap (λ t. eqb t use_rule) w.0) i) (number (ltb 0 (eight_at l u)))))
uses_added rule n n' l k (inr w) = w.1 ∙ add_none n _ k (λ u _. ap (λ t. only t (number (ltb 0 (eight_at l u)))) (eqb_other rule use_rule w.0))

-- Each list of the sums has eight numbers.
abbrev pub EachEight : Sums → Type 0
EachEight s = (length s.paid ≡ 8) × (length s.held ≡ 8) × (length s.uses ≡ 8)

-- The expense of a number, or none, that adds nothing to the sums.
module _ (rule g : ℕ) (o : Option Expense) where
  abbrev pub Nothing : Type 0
  Nothing = ((u : ℕ) → paid_in rule g u o ≡ 0) × ((u : ℕ) → held_in rule g u o ≡ 0) × ((u : ℕ) → uses_in rule g u o ≡ 0) × (valid_in rule g o ≡ 0)

  pub passed_over : (s : Sums) → EachEight s → Nothing → Added rule g o s s
  passed_over s k z = (add_none s.paid _ k.0 (λ u _. z.0 u), add_none s.held _ k.1 (λ u _. z.1 u), add_none s.uses _ k.2 (λ u _. z.2 u), omega (arith, z.3))

module _ (rule g : ℕ) (e : ExpenseRecord) where
  pub counts_not : counts rule g e ≡ false → Nothing rule g (meaning e)
  counts_not z = (
    λ u. paid_of rule g e u ∙ ap (λ t. only (t && eqb e.payer u) (sum8 (eight_at e.shares))) z,
    λ u. held_of rule g e u ∙ ap (λ t. only t (eight_at e.shares u)) z,
    λ u. ap (only (eqb rule use_rule)) (used_of rule g e u ∙ ap (λ t. number (t && ltb 0 (eight_at e.shares u))) z) ∙ only_zero (eqb rule use_rule),
    valid_of rule g e ∙ ap number z,
  )

  module _ (x : Sums) (r : Bool) (er : r ≡ stands_in e g) where
    pub not_standing : EachEight x → r ≡ false → Added rule g (meaning e) x x
    not_standing k z = passed_over rule g (meaning e) x k (counts_not (ap (λ t. t && backed rule e) (sym er ∙ z)))

    module _ (s : r ≡ true) (a : Bool) (ea : a ≡ backed rule e) where
      pub not_backed : EachEight x → a ≡ false → Added rule g (meaning e) x x
      not_backed k z = passed_over rule g (meaning e) x k (counts_not (ap₂ ◌&&◌ (sym er ∙ s) (sym ea ∙ z)))

      pub added : a ≡ true → (t w : ℕ) (l : List ℕ) (y : Sums) → t ≡ sum8 (eight_at e.shares) → w ≡ e.payer → l ≡ e.shares
          → y.paid ≡ eight_of (λ u. eight_at x.paid u + only (eqb w u) t) → y.held ≡ eight_of (λ u. eight_at x.held u + eight_at l u)
          → y.uses ≡ eight_of (λ u. eight_at x.uses u + only (eqb rule use_rule) (number (ltb 0 (eight_at l u)))) → y.expenses ≡ x.expenses + 1 → Added rule g (meaning e) x y
      added z t w l y et ew el qp qh qn qe =
          let v : counts rule g e ≡ true = ap₂ ◌&&◌ (sym er ∙ s) (sym ea ∙ z) in
          let p : (u : ℕ) → only (eqb w u) t ≡ paid_in rule g u (meaning e) = λ u. (λ i. only (sym v i && eqb (ew i) u) (et i)) ∙ sym (paid_of rule g e u) in
          let h : (u : ℕ) → eight_at l u ≡ held_in rule g u (meaning e) = λ u. (λ i. only (sym v i) (eight_at (el i) u)) ∙ sym (held_of rule g e u) in
          let o : (u : ℕ) → only (eqb rule use_rule) (number (ltb 0 (eight_at l u))) ≡ uses_in rule g u (meaning e) =
          λ u. ap (only (eqb rule use_rule)) ((λ i. number (sym v i && ltb 0 (eight_at (el i) u))) ∙ sym (used_of rule g e u)) in (
            qp ∙ (λ i. eight_of (λ u. eight_at x.paid u + p u i)),
            qh ∙ (λ i. eight_of (λ u. eight_at x.held u + h u i)),
            qn ∙ (λ i. eight_of (λ u. eight_at x.uses u + o u i)),
            qe ∙ ap (λ k. x.expenses + k) (sym (valid_of rule g e ∙ ap number v)),
          )
