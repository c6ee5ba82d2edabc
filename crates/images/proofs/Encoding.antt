-- A table of parts of equal width in a list of bytes, and the whole image as an encoding of a ledger.
use mathlib.Core.Path.{◌≡◌, refl, sym, ap, ap₂, ◌∙◌}
use mathlib.Core.Bool.{cond}
use mathlib.Core.Option.{none}
use mathlib.Core.List.{List, [], ◌++◌, append_assoc, append-nil}
use Prim.Native.Nat.{ℕ, zero, suc, ◌+◌, ◌*◌, ◌≤◌, ◌<◌}
use native.Mathlib.Omega.{arith}
use native.Mathlib.Nat.{mul-le-mul_right}
use lib.Dec.{ltb, eqb}
use lib.ListN.{length, take, drop, length-append, length-drop, drop_of_length-le}
use lib.Seq.{take-append-le, drop-append-le, drop-append_seam, drop-drop, take_all, take_at, drop_at}
use Rattle.rules.proofs.Basics.{eqb_self, Same, same, other, same?, Less, less, more, less?}
use Rattle.rules.proofs.Sound.{eqb_other, Payers}
use Rattle.format.specs.Layout.{Version, groups_at, group_size_in, group_count, groups_size_in, expenses_at_in, expense_size_in, expense_count, image_size_in}
use Rattle.format.specs.Bytes.{group_part_in, expense_part_in}
use Rattle.format.proofs.Laws.{group_inside}
use Rattle.rules.specs.Ledger.{Ledger}
use Rattle.images.specs.Image.{table, group_bytes, read_group, read_rule, expense_bytes, read_expense, groups_in, expenses_in, encode_in, decode_in}
use Rattle.images.proofs.Codec.{group_wide, expense_wide, group_back, rule_back, expense_back}
use Rattle.images.proofs.Range.{Encodable, nobody_of, absent_zero}
use Rattle.rules.proofs.Theory.{ledger_path}

module _ (w : ℕ) where
  abbrev pub Wide : (ℕ → List ℕ) → Type 0
  Wide f = (i : ℕ) → length (f i) ≡ w

  pub table_length : (n : ℕ) (f : ℕ → List ℕ) → Wide f → length (table n f) ≡ n * w
  unfolding table
  table_length zero f h = omega arith
  table_length (suc n) f h = length-append (table n f) (f n) ∙ (let z = table_length n f h in let y = h n in omega arith)

  -- A part read back.
  pub table_part : (n : ℕ) (f : ℕ → List ℕ) → Wide f → (i : ℕ) → i < n → take w (drop (i * w) (table n f)) ≡ f i
  unfolding table
  table_part zero f h i k = absurd (omega arith)
  table_part (suc n) f h i k = go (same? i n) (λ j. table_part n f h i j)
    where
      len : length (table n f) ≡ n * w
      len = table_length n f h

      whole : take w (f n) ≡ f n
      whole = take_all w (f n) (let z = h n in omega arith)

      go : Same i n → (i < n → take w (drop (i * w) (table n f)) ≡ f i) → take w (drop (i * w) (table n f ++ f n)) ≡ f i
      go (same p _) ih = rw (p, ← len, drop-append_seam (table n f) (f n)) whole
      go (other p _) ih =
          let j : i < n = omega arith in
          let m : suc i * w ≤ n * w = mul-le-mul_right w j in
          let m₁ : i * w + w ≤ length (table n f) = omega (arith, len) in
          let m₂ : w ≤ length (drop (i * w) (table n f)) = rw length-drop (omega arith) in
          rw (drop-append-le (i * w) (table n f) (f n) (omega arith), take-append-le w (drop (i * w) (table n f)) (f n) m₂) (ih j)

  -- A part written.
  abbrev pub put : (ℕ → List ℕ) → ℕ → List ℕ → ℕ → List ℕ
  put f i x j = cond (eqb j i) x (f j)

  table_same : (n : ℕ) (f g : ℕ → List ℕ) → ((i : ℕ) → i < n → f i ≡ g i) → table n f ≡ table n g
  unfolding table
  table_same zero f g h = refl
  table_same (suc n) f g h = ap₂ ◌++◌ (table_same n f g (λ i k. h i (omega arith))) (h n (omega arith))

  pub table_put : (n : ℕ) (f : ℕ → List ℕ) → Wide f → (i : ℕ) (x : List ℕ) → i < n → take (i * w) (table n f) ++ (x ++ drop (i * w + w) (table n f)) ≡ table n (put f i x)
  unfolding table
  table_put zero f h i x k = absurd (omega arith)
  table_put (suc n) f h i x k = go (same? i n) (λ j. table_put n f h i x j)
    where
      t : List ℕ
      t = table n f

      len : length t ≡ n * w
      len = table_length n f h

      goal : Type 0
      goal = take (i * w) (t ++ f n) ++ (x ++ drop (i * w + w) (t ++ f n)) ≡ table n (put f i x) ++ put f i x n

      go : Same i n → (i < n → take (i * w) t ++ (x ++ drop (i * w + w) t) ≡ table n (put f i x)) → goal
      go (same p q) ih =
          let a : take (n * w) (t ++ f n) ≡ t = take_at t (f n) (n * w) len in
          let b₁ : length (t ++ f n) ≤ n * w + w = rw length-append (omega (arith, len, h n)) in
          let b : drop (n * w + w) (t ++ f n) ≡ [] = drop_of_length-le (t ++ f n) b₁ in
          let d : table n (put f n x) ≡ t = table_same n (put f n x) f (λ j m. rw (eqb_other j n (omega arith))) in
          let e : put f n x n ≡ x = rw (eqb_self n) in
          rw (p, a, b, d, e, append-nil x)
      go (other p q) ih =
          let j : i < n = omega arith in
          let m : suc i * w ≤ n * w = mul-le-mul_right w j in
          let m₁ : i * w + w ≤ length t = omega (arith, len) in
          let e : put f i x n ≡ f n = rw (eqb_other n i (omega arith)) in
          rw (take-append-le (i * w) t (f n) (omega arith), drop-append-le (i * w + w) t (f n) m₁, e, ← ih j)
          (simp append_assoc)

pub groups_length : (v : Version) (l : Ledger) → length (groups_in v l) ≡ groups_size_in v
groups_length v l = table_length (group_size_in v) group_count (λ g. group_bytes v (l.counter g) (l.rule g)) (λ g. group_wide v (l.counter g) (l.rule g))

module _ (v : Version) (home : ℕ → ℕ) (r : ℕ) (l : Ledger) where
  pub encode_length : length (encode_in v home r l) ≡ image_size_in v
  unfolding encode_in
  encode_length =
      let a = groups_length v l in
      let b = table_length (expense_size_in v) expense_count (λ c. expense_bytes v (l.expense c)) (λ c. expense_wide v (l.expense c)) in
      simp length-append (omega arith)

  drop_groups : drop (expenses_at_in v) (encode_in v home r l) ≡ expenses_in v l
  unfolding encode_in
  drop_groups = sym (drop-drop (groups_size_in v) groups_at (encode_in v home r l)) ∙ drop_at (groups_in v l) (expenses_in v l) (groups_size_in v) (groups_length v l)

  pub group_part_lem : (g : ℕ) → g < group_count → group_part_in v (encode_in v home r l) g ≡ group_bytes v (l.counter g) (l.rule g)
  unfolding encode_in
  group_part_lem g k =
      let n = groups_length v l in
      let i = group_inside v g k in
      let m : group_size_in v ≤ length (drop (g * group_size_in v) (groups_in v l)) = rw length-drop (omega arith) in
      ap (take (group_size_in v)) (sym (drop-drop (g * group_size_in v) groups_at (encode_in v home r l)))
      ∙ rw (drop-append-le (g * group_size_in v) (groups_in v l) (expenses_in v l) (omega arith), take-append-le (group_size_in v) (drop (g * group_size_in v) (groups_in v l)) (expenses_in v l) m)
      (table_part (group_size_in v) group_count (λ h. group_bytes v (l.counter h) (l.rule h)) (λ h. group_wide v (l.counter h) (l.rule h)) g k)

  pub expense_part_lem : (c : ℕ) → c < expense_count → expense_part_in v (encode_in v home r l) c ≡ expense_bytes v (l.expense c)
  expense_part_lem c k =
      ap (take (expense_size_in v)) (sym (drop-drop (c * expense_size_in v) (expenses_at_in v) (encode_in v home r l)))
      ∙ ap (λ b. take (expense_size_in v) (drop (c * expense_size_in v) b)) drop_groups
      ∙ table_part (expense_size_in v) expense_count (λ d. expense_bytes v (l.expense d)) (λ d. expense_wide v (l.expense d)) c k

  pub decode_encode : Encodable v l → Payers l → decode_in v (encode_in v home r l) ≡ l
  unfolding decode_in
  decode_encode i paid =
      ledger_path (decode_in v (encode_in v home r l)) l (λ g u. counter_is g u (less? g group_count)) (λ g. rule_is g (less? g group_count)) (λ c. expense_is c (less? c expense_count))
    where
      counter_is : (g u : ℕ) → Less g group_count → cond (ltb g group_count) (read_group (group_part_in v (encode_in v home r l) g) u) 0 ≡ l.counter g u
      counter_is g u (less k e) =
          ap (λ t. cond t (read_group (group_part_in v (encode_in v home r l) g) u) 0) e ∙ ap (λ p. read_group p u) (group_part_lem g k) ∙ ap (λ f. f u) (group_back (l.counter g) (l.rule g) (i.users8 g) v)
      counter_is g u (more k e) = ap (λ t. cond t (read_group (group_part_in v (encode_in v home r l) g) u) 0) e ∙ sym (i.groups16 g u k)

      rule_is : (g : ℕ) → Less g group_count → cond (ltb g group_count) (read_rule v (group_part_in v (encode_in v home r l) g)) 0 ≡ l.rule g
      rule_is g (less k e) =
          ap (λ t. cond t (read_rule v (group_part_in v (encode_in v home r l) g)) 0) e ∙ ap (read_rule v) (group_part_lem g k) ∙ rule_back (l.counter g) (l.rule g) (i.users8 g) v ∙ (i.ruled g).kept
      rule_is g (more k e) =
          ap (λ t. cond t (read_rule v (group_part_in v (encode_in v home r l) g)) 0) e ∙ sym (absent_zero (i.ruled g) (nobody_of (l.counter g) (λ u j. i.groups16 g u k)))

      expense_is : (c : ℕ) → Less c expense_count → cond (ltb c expense_count) (read_expense v (expense_part_in v (encode_in v home r l) c)) none ≡ l.expense c
      expense_is c (less k e) =
          ap (λ t. cond t (read_expense v (expense_part_in v (encode_in v home r l) c)) none) e ∙ ap (read_expense v) (expense_part_lem c k) ∙ expense_back v (l.expense c) (i.plain c) (paid c k)
      expense_is c (more k e) = ap (λ t. cond t (read_expense v (expense_part_in v (encode_in v home r l) c)) none) e ∙ sym (i.expenses512 c k)
