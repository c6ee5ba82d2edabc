-- A number's text, read from its first digit on, is that number: no digit is lost, added or another. It rests on specs/Text alone.
use mathlib.Core.Path.{◌≡◌, refl, ap, ◌∙◌}
use mathlib.Core.List.{[], ◌∷◌, ◌++◌}
use Prim.Native.Nat.{ℕ, zero, suc, ◌+◌, ◌-◌, ◌*◌, ◌/◌, ◌%◌, ◌<◌}
use native.Mathlib.Omega.{arith}
use Rattle.format.specs.Bytes.{Bytes}
use Rattle.rules.proofs.Basics.{Less, less, more, less?}
use Rattle.text.specs.Text.{digits_of, decimal}

-- What digits say, read behind a number already read.
abbrev pub read_from : ℕ → Bytes → ℕ
read_from k [] = k
read_from k (d ∷ ds) = read_from (10 * k + (d - 48)) ds

read_append : (k : ℕ) (s t : Bytes) → read_from k (s ++ t) ≡ read_from (read_from k s) t
read_append k [] t = refl
read_append k (d ∷ s) t = read_append (10 * k + (d - 48)) s t

digits_read : (most n : ℕ) → n < most → read_from 0 (digits_of most n) ≡ n
unfolding digits_of
digits_read zero n h = absurd (omega arith)
digits_read (suc most) n h = go (less? n 10) (λ k. digits_read most (n / 10) (omega arith))
  where
    go : Less n 10 → (10 < suc n → read_from 0 (digits_of most (n / 10)) ≡ n / 10) → read_from 0 (digits_of (suc most) n) ≡ n
    go (less k e) ih = rw e (omega arith)
    go (more k e) ih =
        rw e
        (read_append 0 (digits_of most (n / 10)) ((48 + n % 10) ∷ [])
        ∙ ap (λ m. 10 * m + (48 + n % 10 - 48)) (ih (omega arith))
        ∙ omega arith)

pub decimal_read : (n : ℕ) → read_from 0 (decimal n) ≡ n
unfolding decimal
decimal_read n = digits_read (suc n) n (omega arith)
