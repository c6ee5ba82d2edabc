-- The raws as they are written, one after the other, over plain variables; and what they are.
use mathlib.Core.Path.{◌≡◌, refl, sym, ap, ◌∙◌}
use mathlib.Core.List.{List, ◌++◌, append-nil}
use Prim.Native.Nat.{ℕ, zero, suc, ◌+◌, ◌≤◌, ◌<◌}
use native.Mathlib.Omega.{arith}
use native.Mathlib.Numerals.{add-one}
use lib.IntN.{ℤ, pos}
use lib.ListN.{length, get_or, set, drop_of_length-le}
use lib.Seq.{paste, paste-suc}
use mir.Syntax.{w64}
use mir.Val.{to_z, of_z}
use Rattle.format.specs.Layout.{user_count}
use Rattle.format.specs.Bytes.{Bytes}
use Rattle.calendar.specs.Calendar.{first_day, last_day_of, in_month}
use Rattle.rules.specs.Balance.{raw}
use Rattle.rules.specs.Tests.{eight_at}
use Rattle.rules.specs.Month.{of_days, month_raw, month_raws}
use Rattle.images.specs.Image.{decode}
use Rattle.lines.proofs.Signed.{raw_read}
use Rattle.balance.specs.declared.Sums.{Sums}
use Rattle.balance.specs.Dated.{from_to}
use Rattle.balance.specs.Sums.{sums_of}
use Rattle.balance.proofs.Laws.{sums_are}
use Rattle.month.specs.Raws.{raw_at, raws_from}

module _ (q h : List ℕ) where
  raw_at_lem : (u : ℕ) → u < user_count → get_or (raws_from q h) u (pos 0) ≡ raw_at q h u
  raw_at_lem zero k = refl
  raw_at_lem (suc zero) k = refl
  raw_at_lem (suc (suc zero)) k = refl
  raw_at_lem (suc (suc (suc zero))) k = refl
  raw_at_lem (suc (suc (suc (suc zero)))) k = refl
  raw_at_lem (suc (suc (suc (suc (suc zero))))) k = refl
  raw_at_lem (suc (suc (suc (suc (suc (suc zero)))))) k = refl
  raw_at_lem (suc (suc (suc (suc (suc (suc (suc zero))))))) k = refl
  raw_at_lem (suc (suc (suc (suc (suc (suc (suc (suc u)))))))) k = absurd (omega arith)

  -- The next number, as it is read back from its bits.
  pub raw_next : (rs ds : List ℤ) (u : ℕ) (r : ℤ) → u < user_count → length rs ≡ user_count → r ≡ raw_at q h u → eight_at q u ≤ 17_592_186_040_320 → eight_at h u ≤ 2_199_023_255_040
      → ds ≡ paste rs 0 (raws_from q h) u → set ds u (to_z w64 (of_z w64 r)) ≡ paste rs 0 (raws_from q h) (u + 1)
  raw_next rs ds u r k n e x y p =
      let v : to_z w64 (of_z w64 r) ≡ get_or (raws_from q h) u (pos 0) = raw_read (eight_at q u) (eight_at h u) r e x y ∙ e ∙ sym (raw_at_lem u k) in
      let z : u ≡ 0 + u = omega arith in
      (λ i. set (p i) (z i) (v i)) ∙ rw add-one (paste-suc rs 0 (raws_from q h) u (pos 0) (omega arith) k)

  pub raws_all : (rs ds : List ℤ) (u : ℕ) → u ≡ user_count → length rs ≡ user_count → ds ≡ paste rs 0 (raws_from q h) u → ds ≡ raws_from q h
  raws_all rs ds u z n p = p ∙ ap (paste rs 0 (raws_from q h)) z ∙ ap (λ t. raws_from q h ++ t) (drop_of_length-le rs {i = user_count} (omega arith)) ∙ append-nil (raws_from q h)

-- A group's sums over the days of a month, by its own rule, give the month's raws.
pub raws_are : (b : Bytes) (g m rule first last : ℕ) (s : Sums) → rule ≡ (decode b).rule g → first ≡ first_day m → last ≡ last_day_of m → s ≡ sums_of (from_to first last (decode b)) rule g
    → raws_from s.paid s.held ≡ month_raws (decode b) g m
unfolding month_raws month_raw in_month of_days raw
raws_are b g m rule first last s er ef el es =
    let t : s ≡ sums_of (from_to (first_day m) (last_day_of m) (decode b)) rule g = es ∙ (λ i. sums_of (from_to (ef i) (el i) (decode b)) rule g) in
    ap (λ x. raws_from x.paid x.held) (t ∙ sums_are (from_to (first_day m) (last_day_of m) (decode b)) rule g er)
