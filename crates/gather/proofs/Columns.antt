-- A group's rows added up one after the other, over plain variables: f is a payer's total, F what a payer's row has for a user.
use Rattle.std.proofs.Common.{◌≡◌, sym, ap, ◌∙◌, List, ℕ, ◌+◌, ◌≤◌, ◌<◌, arith, length, set, get_or-set_same, get_or-set_other}
use Rattle.format.specs.Layout.{user_count}
use Rattle.format.proofs.Round.{eight, same8}
use Rattle.rules.specs.Tests.{sum_below, eight_at, eight_of}
use Rattle.rules.proofs.Basics.{Same, same, other, same?}
use Rattle.rules.proofs.Sums.{sum_more, sum_bound}
use Rattle.amounts.specs.Amounts.{UpTo}
use Rattle.amounts.proofs.Amounts.{eight_bound}
use Rattle.balance.proofs.Fewer.{up_to}

module _ (f : ℕ → ℕ) (paid : List ℕ) (k : length paid ≡ user_count) where
  pub paid_next : (p t : ℕ) → p < user_count → t ≡ f p → ((q : ℕ) → q < p → eight_at paid q ≡ f q) → (q : ℕ) → q < p + 1 → eight_at (set paid p t) q ≡ f q
  paid_next p t p8 e w q j = go (same? q p)
    where
      go : Same q p → eight_at (set paid p t) q ≡ f q
      go (same x _) = ap (λ m. eight_at (set paid p t) m) x ∙ get_or-set_same paid p t 0 (omega arith) ∙ e ∙ ap f (sym x)
      go (other x _) = get_or-set_other paid p q t 0 x ∙ w q (omega arith)

  pub paid_all : (p : ℕ) → p ≡ user_count → ((q : ℕ) → q < p → eight_at paid q ≡ f q) → paid ≡ eight_of f
  paid_all p z w = sym (eight paid k) ∙ same8 (w 0 (omega arith)) (w 1 (omega arith)) (w 2 (omega arith)) (w 3 (omega arith)) (w 4 (omega arith)) (w 5 (omega arith)) (w 6 (omega arith)) (w 7 (omega arith))

module _ (F : ℕ → ℕ → ℕ) (p : ℕ) (held : List ℕ) (eh : held ≡ eight_of (λ u. sum_below p (λ q. F q u))) where
  pub held_next : (row held' : List ℕ) → row ≡ eight_of (F p) → held' ≡ eight_of (λ u. eight_at held u + eight_at row u) → held' ≡ eight_of (λ u. sum_below (p + 1) (λ q. F q u))
  held_next row held' er e = e ∙ (λ i. eight_of (λ u. eight_at (eh i) u + eight_at (er i) u)) ∙ (λ i. eight_of (λ u. sym (sum_more (λ q. F q u) p) i))

  pub held_room : p ≤ user_count → ((q u : ℕ) → q < user_count → F q u ≤ 2_199_023_255_040) → UpTo 17_592_186_040_320 held
  held_room p8 h = up_to (λ u. sum_below p (λ q. F q u)) 17_592_186_040_320 (λ u. (let z = sum_bound p 2_199_023_255_040 (λ q. F q u) (λ q j. h q u (omega arith)) in omega arith)) held eh

pub row_room : (w : ℕ → ℕ) (row : List ℕ) → row ≡ eight_of w → ((u : ℕ) → w u ≤ 2_199_023_255_040) → (u : ℕ) → eight_at row u ≤ 2_199_023_255_040
row_room w row e h u = rw e (eight_bound w 2_199_023_255_040 h u)
