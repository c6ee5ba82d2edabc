-- Two parts of one expense compared, over plain variables: what each test tells, and what the parts tell of the images that they are taken from.
use Rattle.std.proofs.Common.{◌≡◌, refl, sym, ap₂, ◌∙◌, Bool, true, false, ◌≢◌, List, [], ◌∷◌, ℕ, eqb, length, eq-eqb, ne_eqb}
use mathlib.Core.Bool.{beq, and-true, and-false}
use lib.Pointwise.{pointwise}
use Rattle.eight.proofs.Eight.{of_eight}
use Rattle.format.specs.Layout.{no_expense}
use Rattle.format.specs.Bytes.{Bytes, expense_of, expense_part, shares_of}
use Rattle.rules.specs.Tests.{all_of, every8, eight_at}
use Rattle.rules.specs.Merge.{alike, agree}
use Rattle.images.specs.Meaning.{present, meaning, meaning_in}
use Rattle.agree.specs.Agreed.{agree_at}

-- An equality of two lists of eight numbers is a test of each user.
pub same_eight : (s t : List ℕ) → length s ≡ 8 → length t ≡ 8 → pointwise eqb s t ≡ every8 (λ u. eqb (eight_at s u) (eight_at t u))
unfolding every8 all_of
same_eight s t m n =
    of_eight (λ s. pointwise eqb s t ≡ every8 (λ u. eqb (eight_at s u) (eight_at t u)))
    (λ a b c d e f g h. let l : List ℕ = a ∷ b ∷ c ∷ d ∷ e ∷ f ∷ g ∷ h ∷ [] in of_eight (λ t. pointwise eqb l t ≡ every8 (λ u. eqb (eight_at l u) (eight_at t u))) (λ i j k l m n o p. refl) t n) s m

-- Two parts p and q of one expense, and what code reads of them: payers x and y, versions v and w.
module _ (p q : Bytes) (x y : ℕ) (ex : x ≡ (expense_of p).payer) (ey : y ≡ (expense_of q).payer) where
  abbrev pub Agree : Bool → Type 0
  Agree r = r ≡ agree (meaning (expense_of p)) (meaning (expense_of q))

  pub agree_none : x ≡ no_expense → Agree true
  unfolding meaning_in
  agree_none z = rw (eq-eqb (expense_of p).payer no_expense (sym ex ∙ z))

  module _ (n : x ≢ no_expense) where
    pub agree_other : y ≡ no_expense → Agree true
    unfolding meaning_in
    agree_other z = rw (ne_eqb (expense_of p).payer no_expense (λ z. n (ex ∙ z)), eq-eqb (expense_of q).payer no_expense (sym ey ∙ z))

    module _ (m : y ≢ no_expense) (v w : ℕ) (ev : v ≡ (expense_of p).version) (ew : w ≡ (expense_of q).version) where
      pub agree_versions : v ≢ w → Agree true
      unfolding meaning_in
      agree_versions z =
          rw (
            ne_eqb (expense_of p).payer no_expense (λ z. n (ex ∙ z)),
            ne_eqb (expense_of q).payer no_expense (λ z. m (ey ∙ z)),
            ne_eqb (expense_of p).version (expense_of q).version (λ k. z (ev ∙ k ∙ sym ew)),
          )

      pub agree_alike : v ≡ w → (r : Bool) → r ≡ alike (present (expense_of p)) (present (expense_of q)) → Agree r
      unfolding meaning_in
      agree_alike z r er =
          rw (
            ne_eqb (expense_of p).payer no_expense (λ z. n (ex ∙ z)),
            ne_eqb (expense_of q).payer no_expense (λ z. m (ey ∙ z)),
            eq-eqb (expense_of p).version (expense_of q).version (sym ev ∙ z ∙ ew),
          )
          er

-- What the first test that fails tells of two present expenses, and the last one.
module _ (p q : Bytes) (x y : ℕ) (ex : x ≡ (expense_of p).payer) (ey : y ≡ (expense_of q).payer) where
  abbrev Alike : Bool → Type 0
  Alike r = r ≡ alike (present (expense_of p)) (present (expense_of q))

  pub payers_differ : x ≢ y → Alike false
  unfolding all_of
  payers_differ n = sym (rw (ne_eqb (expense_of p).payer (expense_of q).payer (λ z. n (ex ∙ z ∙ sym ey))))

  module _ (e : x ≡ y) (g h : ℕ) (eg : g ≡ (expense_of p).group) (eh : h ≡ (expense_of q).group) where
    payers : eqb (expense_of p).payer (expense_of q).payer ≡ true
    payers = eq-eqb (expense_of p).payer (expense_of q).payer (sym ex ∙ e ∙ ey)

    pub groups_differ : g ≢ h → Alike false
    unfolding all_of
    groups_differ n = sym (rw (payers, ne_eqb (expense_of p).group (expense_of q).group (λ z. n (eg ∙ z ∙ sym eh))))

    module _ (k : g ≡ h) (a b : ℕ) (d : Bool) (ea : a ≡ (expense_of p).deleted) (eb : b ≡ (expense_of q).deleted) (ed : d ≡ beq (eqb a 1) (eqb b 1)) where
      groups : eqb (expense_of p).group (expense_of q).group ≡ true
      groups = eq-eqb (expense_of p).group (expense_of q).group (sym eg ∙ k ∙ eh)

      deletions : d ≡ beq (eqb (expense_of p).deleted 1) (eqb (expense_of q).deleted 1)
      deletions = ed ∙ ap₂ (λ m n. beq (eqb m 1) (eqb n 1)) ea eb

      pub deletions_differ : d ≡ false → Alike false
      unfolding all_of
      deletions_differ z = sym (rw (payers, groups, sym deletions ∙ z))

      module _ (z : d ≡ true) (m n : ℕ) (em : m ≡ (expense_of p).day) (en : n ≡ (expense_of q).day) where
        pub days_differ : m ≢ n → Alike false
        unfolding all_of
        days_differ k =
            sym (rw (payers, groups, sym deletions ∙ z, ne_eqb (expense_of p).day (expense_of q).day (λ e. k (em ∙ e ∙ sym en))) (and-false (every8 (λ u. eqb ((present (expense_of p)).shares u) ((present (expense_of q)).shares u)))))

        pub shares_decide : m ≡ n → (s t : List ℕ) (r : Bool) → s ≡ shares_of p → t ≡ shares_of q → r ≡ every8 (λ u. eqb (eight_at s u) (eight_at t u)) → Alike r
        unfolding expense_of all_of
        shares_decide k s t r es et er =
            let y : eqb (expense_of p).day (expense_of q).day ≡ true = eq-eqb (expense_of p).day (expense_of q).day (sym em ∙ k ∙ en) in
            er ∙ ap₂ (λ m n. every8 (λ u. eqb (eight_at m u) (eight_at n u))) es et
            ∙ sym (rw (payers, groups, sym deletions ∙ z, y) (and-true (every8 (λ u. eqb (eight_at (shares_of p) u) (eight_at (shares_of q) u)))))

-- The parts p and q of expense c, taken from both images.
pub agree_is : (b d : Bytes) (c : ℕ) (p q : Bytes) (r : Bool) → p ≡ expense_part b c → q ≡ expense_part d c → r ≡ agree (meaning (expense_of p)) (meaning (expense_of q)) → agree_at b d c ≡ r
unfolding agree_at
agree_is b d c p q r ep eq er = sym (er ∙ ap₂ (λ x y. agree (meaning (expense_of x)) (meaning (expense_of y))) ep eq)
