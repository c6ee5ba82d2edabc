-- The month statement from the image of a ledger: what it writes hangs on its answer alone.
use mathlib.Core.Path.{◌≡◌, ap, ◌∙◌}
use mathlib.Core.Bool.{cond}
use mathlib.Core.List.{List, ◌∷◌}
use Prim.Native.Nat.{ℕ, ◌<◌}
use lib.Dec.{eqb}
use lib.IntN.{ℤ}
use lib.ListN.{length}
use borrow.Author.Tests.{eq-eqb, ne_eqb}
use Rattle.format.specs.Layout.{Version, user_count, replica_count, month_count}
use Rattle.rules.specs.Tests.{first}
use Rattle.rules.specs.Ledger.{Ledger, group_absent}
use Rattle.rules.specs.Month.{month_raws}
use Rattle.images.specs.Image.{Homes, encode_in, decode_in}
use Rattle.images.specs.Calls.{month_checks, month_answer_in, month_raws_in}
use Rattle.rules.proofs.Basics.{ltb_true, ltb_false}
use Rattle.images.proofs.Encoded.{Holds, check_is, decode_is}
use Rattle.history.specs.Demand.{Dated}

module _ {v : Version} (home : ℕ → ℕ) (hm : Homes home) (r : ℕ) (r8 : r < replica_count) (l : Ledger) (h : Holds v home l) (g m : ℕ) (raws : List ℤ) where
  answer_is : month_answer_in v (encode_in v home r l) g m (length raws) ≡ first ((group_absent l g, 10) ∷ month_checks (length raws) m)
  unfolding month_answer_in
  answer_is = rw (check_is home hm r r8 l h, decode_is home hm r r8 l h)

  answered : (k : ℕ) → first ((group_absent l g, 10) ∷ month_checks (length raws) m) ≡ k
      → (month_answer_in v (encode_in v home r l) g m (length raws) ≡ k) × (month_raws_in v (encode_in v home r l) g m raws ≡ cond (eqb k 0) (month_raws l g m) raws)
  unfolding month_raws_in
  answered k e =
      let a = answer_is ∙ e in
      (a, ap (λ n. cond (eqb n 0) (month_raws (decode_in v (encode_in v home r l)) g m) raws) a ∙ ap (λ x. cond (eqb k 0) (month_raws x g m) raws) (decode_is home hm r r8 l h))

  pub month_encoded : Dated v (encode_in v home r l) l g m raws
  unfolding first
  month_encoded = record {
    written = λ p n k. answered 0 (rw (p, eq-eqb (length raws) user_count n, ltb_true m month_count k));
    absent = λ p. answered 10 (rw p);
    miscounted = λ p n. answered 32 (rw (p, ne_eqb (length raws) user_count n));
    beyond = λ p n k. answered 35 (rw (p, eq-eqb (length raws) user_count n, ltb_false m month_count k));
  }
