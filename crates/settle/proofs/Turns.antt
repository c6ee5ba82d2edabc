-- One turn of each loop, over plain variables: what the definition gives of the rest, at the place reached (eight, Filled) and behind it.
use Rattle.std.proofs.Common.{◌≡◌, refl, sym, ◌∙◌, ap, ap₂, List, [], ◌∷◌, map, ℕ, suc, ◌+◌, ◌-◌, ◌<◌, min, ℤ, pos, length, replicate, get_or, set, drop, drop-cons, drop-set-lt, arith}
use Rattle.std.proofs.lemmas.List.{length-map}
use native.Mathlib.Numerals.{add-one}
use lib.ListN.{drop_of_length-le}
use Rattle.rules.proofs.Rows.{row_zeros, unpaid_all}
use Rattle.rules.proofs.Settled.{owes_at}
use Rattle.rules.specs.Payments.{owes, zeros, row, unpaid, pay_in_order}

-- Who owes nothing pays nobody, and all claims stand.
zeros_of_length : (cs : List ℕ) (n : ℕ) → length cs ≡ n → replicate n 0 ≡ zeros cs
zeros_of_length [] n k = ap (λ m. replicate m 0) (sym k)
zeros_of_length (c ∷ cs) n k = ap (λ m. replicate m 0) (sym k) ∙ ap (λ t. 0 ∷ t) (zeros_of_length cs (length cs) refl)

pub none_paid : (x : ℕ) (cs : List ℕ) → length cs ≡ 8 → x ≡ 0 → replicate 8 0 ≡ row x cs
none_paid x cs k e = rw e (zeros_of_length cs 8 k ∙ sym (row_zeros cs))

pub all_unpaid : (x : ℕ) (cs : List ℕ) → x ≡ 0 → cs ≡ unpaid x cs
all_unpaid x cs e = rw e (sym (unpaid_all cs))

-- A row, and the claims after it: m is paid of claim u, and the claims behind it stand as they were.
module _ (x m u : ℕ) (cs : List ℕ) (k : u < length cs) (e : m ≡ min x (get_or cs u 0)) where
  rest : drop (u + 1) (set cs u (get_or cs u 0 - m)) ≡ drop (suc u) cs
  rest = rw add-one (drop-set-lt (suc u) cs u (get_or cs u 0 - m) (omega arith))

  left : (c n : ℕ) → n ≡ min x c → x - c ≡ x - n
  left c n p = omega arith

  pub row_next : row x (drop u cs) ≡ m ∷ row (x - m) (drop (u + 1) (set cs u (get_or cs u 0 - m)))
  unfolding row
  row_next = ap (row x) (drop-cons cs u 0 k) ∙ ap₂ ◌∷◌ (sym e) (ap₂ row (left (get_or cs u 0) m e) (sym rest))

  pub unpaid_next : unpaid x (drop u cs) ≡ (get_or cs u 0 - m) ∷ unpaid (x - m) (drop (u + 1) (set cs u (get_or cs u 0 - m)))
  unfolding unpaid
  unpaid_next = ap (unpaid x) (drop-cons cs u 0 k) ∙ ap₂ ◌∷◌ (owing (get_or cs u 0) m e) (ap₂ unpaid (left (get_or cs u 0) m e) (sym rest))
    where
      owing : (c n : ℕ) → n ≡ min x c → c - x ≡ c - n
      owing c n p = omega arith

pub row_last : (x u : ℕ) (cs : List ℕ) → length cs ≡ u → row x (drop u cs) ≡ []
unfolding row
row_last x u cs k = ap (row x) (drop_of_length-le cs {i = u} (omega arith))

pub unpaid_last : (x u : ℕ) (cs : List ℕ) → length cs ≡ u → unpaid x (drop u cs) ≡ []
unfolding unpaid
unpaid_last x u cs k = ap (unpaid x) (drop_of_length-le cs {i = u} (omega arith))

-- The rows of the debtors.
pub rows_next : (b : List ℤ) (d x : ℕ) (cs ds r : List ℕ) → d < length b → x ≡ owes (get_or b d (pos 0)) → r ≡ row x cs → ds ≡ unpaid x cs
    → pay_in_order (drop d (map owes b)) cs ≡ r ∷ pay_in_order (drop (d + 1) (map owes b)) ds
unfolding pay_in_order
rows_next b d x cs ds r k ex er ed =
    let h : d < length (map owes b) = rw (length-map b owes) k in
    let y : get_or (map owes b) d 0 ≡ x = owes_at b d ∙ sym ex in
    rw (add-one, drop-cons (map owes b) d 0 h, y, er, ed)

pub rows_last : (b : List ℤ) (d : ℕ) (cs : List ℕ) → length b ≡ d → pay_in_order (drop d (map owes b)) cs ≡ []
unfolding pay_in_order
rows_last b d cs k = ap (λ x. pay_in_order x cs) (drop_of_length-le (map owes b) {i = d} (rw (length-map b owes) (omega arith)))
