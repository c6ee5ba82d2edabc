-- The standing over the first n expenses, as the loops work it out, and that it has room for one more.
use Rattle.std.proofs.Common.{◌≡◌, refl, sym, ap, ap₂, ◌∙◌, Bool, false, not, ◌&&◌, ◌||◌, ℕ, ◌+◌, ◌≤◌, ◌<◌, arith, eqb}
use Rattle.format.specs.Layout.{expense_count}
use Rattle.format.specs.Bytes.{Bytes, Octets, expense_of, expense_part}
use Rattle.rules.specs.Tests.{sum_below, some_below}
use Rattle.rules.specs.Balance.{paid_in, held_in}
use Rattle.rules.specs.Pending.{pending_in}
use Rattle.images.specs.Meaning.{meaning}
use Rattle.images.specs.Image.{decode}
use Rattle.rules.proofs.Sums.{or_none, sum_more, some_more}
use Rattle.fields.specs.Fields.{present_in, stands_in}
use Rattle.validity.proofs.Counts.{at, meant}
use Rattle.validity.proofs.Bounds.{paid_bound, held_bound}
use Rattle.standing.specs.declared.Standing.{Standing}
use Rattle.standing.specs.Standing.{standing_of, standing_to, more, Room}
use Rattle.standing.proofs.Concerned.{elsewhere}

module _ (b : Bytes) (rule g u : ℕ) where
  pub start : ◌≡◌ {A = Standing} (record { paid = 0; held = 0; pending = false }) (standing_to 0 (decode b) rule g u)
  unfolding standing_to sum_below some_below
  start = refl

  pub whole : (n : ℕ) → n ≡ expense_count → standing_to n (decode b) rule g u ≡ standing_of (decode b) rule g u
  unfolding standing_of
  whole n z = ap (λ m. standing_to m (decode b) rule g u) z

  -- Expense c, and the standing with it.
  module _ (c : ℕ) (k : c < expense_count) where
    one_more : standing_to (c + 1) (decode b) rule g u ≡ more rule g u (meaning (at b c)) (standing_to c (decode b) rule g u)
    unfolding standing_to
    one_more =
        (λ i. record {
          paid = sum_more (λ n. paid_in rule g u ((decode b).expense n)) c i;
          held = sum_more (λ n. held_in rule g u ((decode b).expense n)) c i;
          pending = some_more (λ n. pending_in rule g u ((decode b).expense n)) c i;
        })
        ∙ ap (λ o. more rule g u o (standing_to c (decode b) rule g u)) (meant b c k)

    -- What the code made of the part of expense c, which stands in the group or does not.
    module _ (part : Bytes) (p : part ≡ expense_part b c) where
      pub with_part : (s r : Standing) → s ≡ standing_to c (decode b) rule g u → r ≡ more rule g u (meaning (expense_of part)) s → r ≡ standing_to (c + 1) (decode b) rule g u
      with_part s r e q = q ∙ ap₂ (λ x t. more rule g u (meaning (expense_of x)) t) p e ∙ sym one_more

      pub without_part : (s : Standing) (t : Bool) → s ≡ standing_to c (decode b) rule g u → t ≡ stands_in (expense_of part) g → t ≡ false → s ≡ standing_to (c + 1) (decode b) rule g u
      without_part s t e et z = with_part s s e (elsewhere rule g u _ s (sym et ∙ z))

    skip_one : (n : ℕ) → n ≡ c + 1 → present_in (at b c) g ≡ false → (s : Standing) → s ≡ standing_to c (decode b) rule g u → s ≡ standing_to n (decode b) rule g u
    skip_one n q z s e =
        rw q (elsewhere rule g u (at b c) s (ap (λ t. t && not (eqb (at b c).deleted 1)) z) ∙ ap (more rule g u (meaning (at b c))) e ∙ sym one_more)

  pub skip_four : (c : ℕ) → c + 4 ≤ expense_count → (r : Bool)
      → r ≡ (present_in (at b c) g || present_in (at b (c + 1)) g || present_in (at b (c + 2)) g || present_in (at b (c + 3)) g) → r ≡ false
      → (s : Standing) → s ≡ standing_to c (decode b) rule g u → s ≡ standing_to (c + 4) (decode b) rule g u
  skip_four c j r er z s e =
      let n3 = or_none _ _ (sym er ∙ z) in
      let n2 = or_none _ _ n3.0 in
      let n1 = or_none _ _ n2.0 in
      skip_one (c + 3) (omega arith) (c + 4) (omega arith) n3.1 s
      (skip_one (c + 2) (omega arith) (c + 3) (omega arith) n2.1 s
      (skip_one (c + 1) (omega arith) (c + 2) (omega arith) n1.1 s
      (skip_one c (omega arith) (c + 1) refl n1.0 s e)))

  pub room : Octets b → (n : ℕ) → n ≤ expense_count → (s : Standing) → s ≡ standing_to n (decode b) rule g u → Room s
  unfolding standing_to
  room o n k s e =
      let p : s.paid ≡ sum_below n (λ c. paid_in rule g u ((decode b).expense c)) = ap (λ t. t.paid) e in
      let h : s.held ≡ sum_below n (λ c. held_in rule g u ((decode b).expense c)) = ap (λ t. t.held) e in
      let x = paid_bound b o rule g n u k in
      let y = held_bound b o rule g n u k in
      (omega arith, omega arith)
