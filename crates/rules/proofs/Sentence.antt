-- The paper's sentence and the payments in order give one table (specs/Payments) wherever the balances sum to zero, so the sentence clears them.
-- It rests on Settled for sums and counts of debts and claims.
use mathlib.Core.Path.{◌≡◌, refl, sym, ◌∙◌, ap, ap₂, subst}
use mathlib.Core.List.{List, [], ◌∷◌, map}
use Prim.Native.Nat.{ℕ, zero, suc, ◌+◌, ◌-◌, ◌<◌, ◌≤◌, min}
use native.Mathlib.Nat.{le_trans, sub-zero, zero-sub, sub-add-eq, add-sub_of_le, min-zero, min-le_left, min-le_right}
use native.Mathlib.Omega.{arith}
use native.Mathlib.Decide.{dec_lt}
use borrow.Author.Tests.{eq-eqb, ne_eqb}
use lib.ListN.{length, get_or, set, length-map}
use lib.IntN.{ℤ, pos, nat_abs}
use Rattle.rules.specs.Tests.{sum}
use Rattle.rules.specs.Balance.{sumℤ}
use Rattle.rules.specs.Payments.{owes, owed, lowest, less_at, zeros, nobody_pays, pays, pay_in_turn, payments, row, unpaid, pay_in_order, settled}
use Rattle.rules.specs.Cleared.{one, count, unbalanced, Cleared}
use Rattle.rules.proofs.Rows.{row_zeros, unpaid_all}
use Rattle.rules.proofs.Settled.{owes_is_owed, counts, settled_clears}

-- The lowest number's sum, and m taken off it.
abbrev front : List ℕ → ℕ
front xs = get_or xs (lowest xs) 0

abbrev off : ℕ → List ℕ → List ℕ
off m xs = less_at xs (lowest xs) m

front_pos : (xs : List ℕ) → 0 < sum xs → 0 < front xs
unfolding sum lowest
front_pos [] h = h
front_pos (zero ∷ xs) h = front_pos xs (omega arith)
front_pos (suc x ∷ xs) h = omega arith

off_sum : (m : ℕ) (xs : List ℕ) → m ≤ front xs → sum (off m xs) + m ≡ sum xs
unfolding sum lowest
off_sum m [] h = omega arith
off_sum m (zero ∷ xs) h = let k = off_sum m xs h in omega arith
off_sum m (suc x ∷ xs) h = omega arith

off_count : (m : ℕ) (xs : List ℕ) → 0 < sum xs → count (off m xs) + one (front xs) ≡ count xs + one (front xs - m)
unfolding sum lowest count
off_count m [] h = absurd (omega arith)
off_count m (zero ∷ xs) h = next (count (off m xs)) (one (front xs)) (count xs) (one (front xs - m)) (off_count m xs (omega arith))
  where
    next : (a b c d : ℕ) → a + b ≡ c + d → 0 + a + b ≡ 0 + c + d
    next a b c d h = omega arith
off_count m (suc x ∷ xs) h = moved (one (suc x - m)) (count xs) (one (suc x))
  where
    moved : (a b c : ℕ) → a + b + c ≡ c + b + a
    moved a b c = omega arith

count_pos : (xs : List ℕ) → 0 < sum xs → 0 < count xs
unfolding sum count
count_pos [] h = h
count_pos (zero ∷ xs) h = let k = count_pos xs (omega arith) in omega arith
count_pos (suc x ∷ xs) h = omega arith

-- Who owes nothing pays nothing, whatever is claimed.
zeros_set : (cs : List ℕ) (i v : ℕ) → zeros (set cs i v) ≡ zeros cs
zeros_set [] i v = refl
zeros_set (c ∷ cs) zero v = refl
zeros_set (c ∷ cs) (suc i) v = ap (λ t. 0 ∷ t) (zeros_set cs i v)

in_order_none : (xs cs : List ℕ) → sum xs ≡ 0 → pay_in_order xs cs ≡ nobody_pays xs cs
unfolding sum pay_in_order nobody_pays
in_order_none [] cs h = refl
in_order_none (x ∷ xs) cs h =
    let e : x ≡ 0 = omega arith in
    rw e (ap₂ ◌∷◌ (row_zeros cs) (ap (pay_in_order xs) (unpaid_all cs) ∙ in_order_none xs cs (omega arith)))

-- m, the smaller of two, taken off both: their smaller drops by m, and by how much each exceeds the other stays.
smaller_off : (x c m : ℕ) → m ≡ min x c → min x c ≡ min (x - m) (c - m) + m
smaller_off x c m e = omega arith

off_left : (x c m : ℕ) → m ≡ min x c → (c - x ≡ (c - m) - (x - m)) × (x - c ≡ (x - m) - (c - m))
off_left x c m e = (both c x (subst (λ k. k ≤ x) (sym e) (min-le_left x c)), both x c (subst (λ k. k ≤ c) (sym e) (min-le_right x c)))
  where
    both : (a b : ℕ) → m ≤ b → a - b ≡ (a - m) - (b - m)
    both a b h = ap (λ n. a - n) (sym (add-sub_of_le h)) ∙ sub-add-eq a m (b - m)

-- The first payment taken out of its row and of the table.
row_first : (x : ℕ) (cs : List ℕ) (m : ℕ) → m ≡ min x (front cs) → row x cs ≡ set (row (x - m) (off m cs)) (lowest cs) (get_or (row (x - m) (off m cs)) (lowest cs) 0 + m)
unfolding row lowest
row_first x [] m e = refl
row_first x (zero ∷ cs) m e = rw (min-zero x, min-zero (x - m), sub-zero x, sub-zero (x - m)) (ap (λ t. 0 ∷ t) (row_first x cs m e))
row_first x (suc c ∷ cs) m e = ap₂ (λ y z. y ∷ row z cs) (smaller_off x (suc c) m e) (off_left x (suc c) m e).1

unpaid_first : (x : ℕ) (cs : List ℕ) (m : ℕ) → m ≡ min x (front cs) → unpaid x cs ≡ unpaid (x - m) (off m cs)
unfolding unpaid lowest
unpaid_first x [] m e = refl
unpaid_first x (zero ∷ cs) m e = rw (zero-sub x, zero-sub (x - m), sub-zero x, sub-zero (x - m)) (ap (λ t. 0 ∷ t) (unpaid_first x cs m e))
unpaid_first x (suc c ∷ cs) m e = let o = off_left x (suc c) m e in ap₂ (λ y z. y ∷ unpaid z cs) o.0 o.1

in_order_first : (xs cs : List ℕ) (m : ℕ) → m ≡ min (front xs) (front cs) → pay_in_order xs cs ≡ pays (lowest xs) (lowest cs) m (pay_in_order (off m xs) (off m cs))
unfolding pay_in_order lowest
in_order_first [] cs m e = refl
in_order_first (zero ∷ xs) cs m e =
    ap₂ ◌∷◌ (row_zeros cs ∙ sym (row_zeros (off m cs) ∙ zeros_set cs (lowest cs) (front cs - m))) (rw (unpaid_all cs, unpaid_all (off m cs)) (in_order_first xs cs m e))
in_order_first (suc x ∷ xs) cs m e = ap₂ ◌∷◌ (row_first (suc x) cs m e) (ap (pay_in_order xs) (unpaid_first (suc x) cs m e))

-- One turn leaves as much owed as is owing, and at least one sum fewer.
one_turn : (n : ℕ) (xs cs : List ℕ) (m : ℕ) → m ≡ min (front xs) (front cs) → 0 < sum xs → sum xs ≡ sum cs → count xs + count cs ≤ suc (suc n)
    → (sum (off m xs) ≡ sum (off m cs)) × (count (off m xs) + count (off m cs) ≤ suc n)
one_turn n xs cs m e p h k =
    let fx = front_pos xs p in
    let fc = front_pos cs (omega arith) in
    let sx = off_sum m xs (omega arith) in
    let sc = off_sum m cs (omega arith) in (
      same (sum (off m xs)) (sum (off m cs)) sx sc,
      fewer (count (off m xs)) (count (off m cs)) (one (front xs)) (one (front cs)) (one (front xs - m)) (one (front cs - m)) (count xs) (count cs) (off_count m xs p)
          (off_count m cs (omega arith)) (some (front xs) fx) (some (front cs) fc) (ends (front xs) (front cs) m e) k,
    )
  where
    same : (a b : ℕ) → a + m ≡ sum xs → b + m ≡ sum cs → a ≡ b
    same a b p q = omega arith

    some : (x : ℕ) → 0 < x → one x ≡ 1
    some x h = omega arith

    ends : (x c m : ℕ) → m ≡ min x c → one (x - m) + one (c - m) ≤ 1
    ends x c m e = elim (dec_lt x c) [ yes h ↦ omega arith | no h ↦ omega arith ]

    fewer : (a b p q r s c d : ℕ) → a + p ≡ c + r → b + q ≡ d + s → p ≡ 1 → q ≡ 1 → r + s ≤ 1 → c + d ≤ suc (suc n) → a + b ≤ suc n
    fewer a b p q r s c d h k hp hq hr l = omega arith

nobody_owes : (xs cs : List ℕ) → sum xs ≡ sum cs → count xs + count cs ≤ 1 → sum xs ≡ 0
nobody_owes xs cs h k =
    elim (dec_lt 0 (sum xs)) [
      | yes p ↦ let a = count_pos xs p in let b = count_pos cs (omega arith) in omega arith
      | no p ↦ omega arith
    ]

in_turn_in_order : (n : ℕ) (xs cs : List ℕ) → sum xs ≡ sum cs → count xs + count cs ≤ suc n → pay_in_turn n xs cs ≡ pay_in_order xs cs
unfolding pay_in_turn
in_turn_in_order zero xs cs h k = sym (in_order_none xs cs (nobody_owes xs cs h k))
in_turn_in_order (suc n) xs cs h k =
    elim (dec_lt 0 (sum xs)) [
      | no p ↦ let z : sum xs ≡ 0 = omega arith in rw (eq-eqb (sum xs) 0 z) (sym (in_order_none xs cs z))
      | yes p ↦
          let m : ℕ = min (front xs) (front cs) in
          let o = one_turn n xs cs m refl p h k in
          rw (ne_eqb (sum xs) 0 (λ z. omega arith)) (ap (pays (lowest xs) (lowest cs) m) (in_turn_in_order n (off m xs) (off m cs) o.0 o.1) ∙ sym (in_order_first xs cs m refl))
    ]

count_length : (xs : List ℕ) → count xs ≤ length xs
unfolding count
count_length [] = omega arith
count_length (x ∷ xs) = let h = count_length xs in omega arith

-- So many turns or more: the table is the same.
pub turns_enough : (b : List ℤ) (n : ℕ) → sumℤ b ≡ pos 0 → length b ≤ suc n → pay_in_turn n (map owes b) (map owed b) ≡ settled b
unfolding settled
turns_enough b n e l =
    let k : unbalanced b ≤ suc n = le_trans (count_length (map nat_abs b)) (subst (λ m. m ≤ suc n) (sym (length-map b nat_abs)) l) in
    in_turn_in_order n (map owes b) (map owed b) (owes_is_owed b e) (subst (λ m. m ≤ suc n) (sym (counts b)) k)

-- The sentence and the payments in order give one table.
pub payments_settled : (b : List ℤ) → sumℤ b ≡ pos 0 → payments b ≡ settled b
unfolding payments
payments_settled b e = turns_enough b _ e (omega arith)

pub payments_clear : (b : List ℤ) → sumℤ b ≡ pos 0 → Cleared b (payments b)
payments_clear b e = rw (payments_settled b e) (settled_clears b e)
