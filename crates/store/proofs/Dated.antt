-- A day written behind the forty bytes of an expense.
use Rattle.std.proofs.Common.{◌≡◌, sym, ap, ◌∙◌, ◌++◌, ℕ, ◌+◌, arith, length, length-append}
use Rattle.std.proofs.lemmas.List.Edits.{sets}
use Rattle.format.specs.Layout.{expense_size}
use Rattle.format.specs.Bytes.{Bytes, le16}
use Rattle.format.proofs.Laws.{sets_append, sets_whole}

pub day_behind : (s p : Bytes) (d : ℕ) → length s ≡ expense_size → length p ≡ 40 → sets (sets s 0 p) 40 (le16 d) ≡ p ++ le16 d
day_behind s p d h k =
    let e : 40 ≡ 0 + length p = omega arith in
    ap (λ n. sets (sets s 0 p) n (le16 d)) e ∙ sym (sets_append p (le16 d) s 0)
    ∙ sets_whole s (p ++ le16 d) (simp length-append (omega arith))
