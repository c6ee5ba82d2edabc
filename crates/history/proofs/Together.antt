-- The balances of all groups from the image of a ledger: what is written hangs on the answer alone.
use mathlib.Core.Path.{◌≡◌, ap, ◌∙◌}
use mathlib.Core.Bool.{not, cond}
use mathlib.Core.List.{List, [], ◌∷◌}
use Prim.Native.Nat.{ℕ, ◌<◌}
use lib.Dec.{eqb}
use lib.IntN.{ℤ}
use lib.ListN.{length}
use borrow.Author.Tests.{eq-eqb, ne_eqb}
use Rattle.format.specs.Layout.{Version, replica_count, balances_size}
use Rattle.rules.specs.Tests.{first}
use Rattle.rules.specs.Ledger.{Ledger}
use Rattle.rules.specs.Together.{all_balances}
use Rattle.images.specs.Image.{Homes, encode_in, decode_in}
use Rattle.images.specs.Calls.{balances_answer_in, balances_left_in}
use Rattle.images.proofs.Encoded.{Holds, check_is, decode_is}
use Rattle.history.specs.Demand.{Gathered}

module _ {v : Version} (home : ℕ → ℕ) (hm : Homes home) (r : ℕ) (r8 : r < replica_count) (l : Ledger) (h : Holds v home l) (balances : List ℤ) where
  answered : (k : ℕ) → first ((not (eqb (length balances) balances_size), 32) ∷ []) ≡ k
      → (balances_answer_in v (encode_in v home r l) (length balances) ≡ k) × (balances_left_in v (encode_in v home r l) balances ≡ cond (eqb k 0) (all_balances l) balances)
  unfolding balances_answer_in balances_left_in
  answered k e =
      let a : balances_answer_in v (encode_in v home r l) (length balances) ≡ k = rw (check_is home hm r r8 l h) e in
      (a, ap (λ n. cond (eqb n 0) (all_balances (decode_in v (encode_in v home r l))) balances) a ∙ ap (λ x. cond (eqb k 0) (all_balances x) balances) (decode_is home hm r r8 l h))

  pub balances_encoded : Gathered v (encode_in v home r l) l balances
  unfolding first
  balances_encoded = record {
    written = λ n. answered 0 (rw (eq-eqb (length balances) balances_size n));
    miscounted = λ n. answered 32 (rw (ne_eqb (length balances) balances_size n));
  }
