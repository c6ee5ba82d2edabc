-- A table's rows one behind the other, and a table of eight rows of eight from its entries, over plain variables.
use Rattle.std.proofs.Common.{◌≡◌, refl, ◌∙◌, ap, List, [], ◌∷◌, ◌++◌, ℕ, zero, suc, ◌<◌, ◌≤◌, length, get_or, drop, flat_map, drop-cons, drop_of_length-le, arith, w64}
use mir.Val.{Val}
use denote.Array.{Array, each}
use denote.Shadow.{shadow}
use denote.Plain.{UInt}
use Rattle.format.proofs.Round.{eight}
use Rattle.rules.specs.Tests.{eight_at, eight_of}
use Rattle.rules.specs.Payments.{row_by_row}

-- Each row of an array of arrays has its length: what owning the array tells.
pub rows_long : (xs : List (List ℕ)) (us : List Val) (i : ℕ) → i < length xs → shadow (each (List ℕ) (Array (UInt w64) 8).own_val xs us) → length (get_or xs i []) ≡ 8
rows_long [] us i h p = absurd (omega arith)
rows_long (x ∷ xs) [] i h p = absurd p
rows_long (x ∷ xs) (u ∷ us) zero h p = p.0.1.0.1
rows_long (x ∷ xs) (u ∷ us) (suc i) h p = rows_long xs us i (omega arith) p.1

-- A table from the entries of its eight rows.
abbrev pub entries : List ℕ → List ℕ
entries r = eight_of (eight_at r)

abbrev pub rows : List (List ℕ) → List (List ℕ)
rows t =
    entries (get_or t 0 []) ∷ entries (get_or t 1 []) ∷ entries (get_or t 2 []) ∷ entries (get_or t 3 []) ∷ entries (get_or t 4 []) ∷ entries (get_or t 5 []) ∷ entries (get_or t 6 []) ∷ entries (get_or t 7 []) ∷ []

pub rows_are : (t : List (List ℕ)) → length t ≡ 8 → ((i : ℕ) → i < 8 → length (get_or t i []) ≡ 8) → rows t ≡ t
rows_are t h long =
    let row : (i : ℕ) → i < 8 → entries (get_or t i []) ≡ get_or t i [] = λ i k. eight (get_or t i []) (long i k) in
    let at : (i : ℕ) → i < 8 → drop i t ≡ entries (get_or t i []) ∷ drop (suc i) t = λ i k. rw (row i k) (drop-cons t i [] (omega arith)) in
    let e : length t ≤ 8 = omega arith in
    cc (at 0 (omega arith), at 1 (omega arith), at 2 (omega arith), at 3 (omega arith), at 4 (omega arith), at 5 (omega arith), at 6 (omega arith), at 7 (omega arith), drop_of_length-le t e)

-- A table's rows one behind the other, and those of a table written out entry by entry.
pub flattened : (t : List (List ℕ)) → flat_map (λ x. x) t ≡ row_by_row t
unfolding row_by_row
flattened [] = refl
flattened (r ∷ t) = ap (λ x. r ++ x) (flattened t)

pub flattened_rows : (t : List (List ℕ)) → length t ≡ 8 → ((i : ℕ) → i < 8 → length (get_or t i []) ≡ 8) → flat_map (λ x. x) (rows t) ≡ row_by_row t
flattened_rows t h long = flattened (rows t) ∙ ap row_by_row (rows_are t h long)
