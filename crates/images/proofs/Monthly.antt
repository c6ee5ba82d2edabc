-- What the months' figures come to on an image that passes the check, and in the numbers that a call writes for it. It rests on the rules' Months and on
-- Round (such an image holds a sound ledger).
use mathlib.Core.Path.{◌≡◌}
use mathlib.Core.List.{List}
use Prim.Native.Nat.{ℕ}
use lib.IntN.{ℤ, pos}
use lib.ListN.{length}
use borrow.Author.Tests.{eq-eqb}
use Rattle.format.specs.Layout.{Version}
use Rattle.format.specs.Bytes.{Bytes}
use Rattle.rules.specs.Balance.{sumℤ}
use Rattle.rules.specs.Month.{Monthly}
use Rattle.rules.proofs.Months.{monthly}
use Rattle.images.specs.Image.{decode_in, home_of, CheckedIn}
use Rattle.images.specs.Calls.{month_answer_in, month_raws_in}
use Rattle.images.proofs.Round.{sound_decoded}

module _ {v : Version} (b : Bytes) (ok : CheckedIn v b) where
  pub monthly_checked : (g : ℕ) → Monthly (decode_in v b) g
  monthly_checked = monthly (home_of b) (decode_in v b) (sound_decoded b ok)

  pub written_zero : (g m : ℕ) (raws : List ℤ) → month_answer_in v b g m (length raws) ≡ 0 → sumℤ (month_raws_in v b g m raws) ≡ pos 0
  unfolding month_raws_in
  written_zero g m raws e = rw (eq-eqb (month_answer_in v b g m (length raws)) 0 e) ((monthly_checked g).zero_sum m)
