-- One expense that stands in its group, added to a row in halves.
use Rattle.std.proofs.Common.{◌≡◌, sym, ap, ap₂, ◌∙◌, Bool, true, false, ◌&&◌, List, ℕ, ◌+◌, ◌/◌, ◌%◌, ltb, eqb, length}
use Rattle.format.specs.Layout.{use_rule}
use Rattle.format.specs.declared.ExpenseRecord.{ExpenseRecord}
use Rattle.rules.specs.Tests.{number, only, eight_at, eight_of}
use Rattle.rules.specs.Balance.{held_in}
use Rattle.images.specs.Meaning.{meaning}
use Rattle.fields.specs.Fields.{stands_in}
use Rattle.amounts.proofs.Amounts.{add_none}
use Rattle.validity.proofs.Counts.{backed, counts, held_of, used_of, valid_of}
use Rattle.balance.specs.Sums.{uses_in}
use Rattle.balance.proofs.Added.{counts_not}
use Rattle.gather.specs.Rows.{Halved}

module _ (rule : ℕ) (e : ExpenseRecord) (stands : stands_in e e.group ≡ true) (a b n : List ℕ) (t : Bool) (et : t ≡ backed rule e) where
  pub not_backed : length a ≡ 8 → length b ≡ 8 → length n ≡ 8 → t ≡ false → Halved rule e.group (meaning e) a b n a b n 0
  not_backed ka kb kn z =
      let w = counts_not rule e.group e (ap₂ ◌&&◌ stands (sym et ∙ z)) in
      (add_none a _ ka (λ u _. ap (λ x. x % 65_536) (w.1 u)), add_none b _ kb (λ u _. ap (λ x. x / 65_536) (w.1 u)), add_none n _ kn (λ u _. w.2 u), sym w.3)

  pub added : t ≡ true → (l a' b' n' : List ℕ) → l ≡ e.shares → a' ≡ eight_of (λ u. eight_at a u + eight_at l u % 65_536) → b' ≡ eight_of (λ u. eight_at b u + eight_at l u / 65_536)
      → n' ≡ eight_of (λ u. eight_at n u + only (eqb rule use_rule) (number (ltb 0 (eight_at l u)))) → Halved rule e.group (meaning e) a b n a' b' n' 1
  added z l a' b' n' el qa qb qn =
      let v : counts rule e.group e ≡ true = ap₂ ◌&&◌ stands (sym et ∙ z) in
      let y : (u : ℕ) → eight_at l u ≡ held_in rule e.group u (meaning e) = λ u. (λ i. only (sym v i) (eight_at (el i) u)) ∙ sym (held_of rule e.group e u) in
      let o : (u : ℕ) → only (eqb rule use_rule) (number (ltb 0 (eight_at l u))) ≡ uses_in rule e.group u (meaning e) =
      λ u. ap (only (eqb rule use_rule)) ((λ i. number (sym v i && ltb 0 (eight_at (el i) u))) ∙ sym (used_of rule e.group e u)) in (
        qa ∙ (λ i. eight_of (λ u. eight_at a u + y u i % 65_536)),
        qb ∙ (λ i. eight_of (λ u. eight_at b u + y u i / 65_536)),
        qn ∙ (λ i. eight_of (λ u. eight_at n u + o u i)),
        sym (valid_of rule e.group e ∙ ap number v),
      )
