-- Round trips of the two records.
use Rattle.format.specs.Layout.{Version, v1, v2, v3, expense_size_in, group_size_in}
use mathlib.Core.Path.{◌≡◌, refl, ap, ap₂, ◌∙◌, sym}
use mathlib.Core.List.{List, [], ◌∷◌, ◌++◌}
use Prim.Native.Nat.{ℕ, suc, ◌+◌, ◌*◌, ◌/◌, ◌%◌, ◌≤◌, ◌<◌}
use native.Mathlib.Omega.{arith}
use native.Mathlib.Numerals.{add-one}
use lib.ListN.{length, drop, get_or, drop_of_length-le, get_or-eq_default}
use native.Mathlib.Nat.{add_assoc}
use lib.Seq.{drop-cons}
use Rattle.format.specs.declared.ExpenseRecord.{ExpenseRecord}
use Rattle.format.specs.declared.GroupRecord.{GroupRecord}
use Rattle.format.specs.Bytes.{Octets, forty_of, bytes_in, day_told_in, expense_of, shares_of, u16_at, u32_at, le16, le32, counter_bytes, group_of, rule_told_in, group_bytes_in}

low : (a m : ℕ) → a < 256 → (a + 256 * m) % 256 ≡ a
low a m h = omega arith

high : (a m : ℕ) → a < 256 → (a + 256 * m) / 256 ≡ m
high a m h = omega arith

-- a number from its bytes
pub word : (v : ℕ) → v % 256 + 256 * (v / 256 % 256 + 256 * (v / 256 / 256 % 256 + 256 * (v / 256 / 256 / 256))) ≡ v
word v = omega arith

pub pair : (v : ℕ) → v % 256 + 256 * (v / 256) ≡ v
pair v = omega arith

-- the bytes of a number, from its bytes
bytes_word : (a b c d : ℕ) → a < 256 → b < 256 → c < 256 → le32 (a + 256 * (b + 256 * (c + 256 * d))) ≡ a ∷ b ∷ c ∷ d ∷ []
bytes_word a b c d ha hb hc = simp (low, high)

bytes_pair : (a b : ℕ) → a < 256 → le16 (a + 256 * b) ≡ a ∷ b ∷ []
bytes_pair a b ha = simp (low, high)

-- eight elements are the list
pub eight : (l : List ℕ) → length l ≡ 8
    → get_or l 0 0 ∷ get_or l 1 0 ∷ get_or l 2 0 ∷ get_or l 3 0 ∷ get_or l 4 0 ∷ get_or l 5 0 ∷ get_or l 6 0 ∷ get_or l 7 0 ∷ [] ≡ l
eight l h =
    let at : (j : ℕ) → j < 8 → drop j l ≡ get_or l j 0 ∷ drop (suc j) l = λ j k. drop-cons l j 0 (omega arith) in
    let e : length l ≤ 8 = omega arith in
    cc (at 0 (omega arith), at 1 (omega arith), at 2 (omega arith), at 3 (omega arith), at 4 (omega arith), at 5 (omega arith), at 6 (omega arith), at 7 (omega arith), drop_of_length-le l e)

pub same8 : {a b c d e f g h a' b' c' d' e' f' g' h' : ℕ} → a ≡ a' → b ≡ b' → c ≡ c' → d ≡ d' → e ≡ e' → f ≡ f' → g ≡ g' → h ≡ h'
    → ◌≡◌ {A = List ℕ} (a ∷ b ∷ c ∷ d ∷ e ∷ f ∷ g ∷ h ∷ []) (a' ∷ b' ∷ c' ∷ d' ∷ e' ∷ f' ∷ g' ∷ h' ∷ [])
same8 p q r s t u v w = cc

-- two records whose fields are equal
pub same_e : {p p' g g' d d' a a' v v' n n' : ℕ} {s s' : List ℕ} → p ≡ p' → g ≡ g' → d ≡ d' → a ≡ a' → v ≡ v' → s ≡ s' → n ≡ n'
    → ◌≡◌ {A = ExpenseRecord} (record { payer = p; group = g; deleted = d; acknowledged = a; version = v; shares = s; day = n })
    (record { payer = p'; group = g'; deleted = d'; acknowledged = a'; version = v'; shares = s'; day = n' })
same_e a b c d e f g = cc

-- an expense in every version: its day as far as the version tells it
abbrev pub told_in : Version → ExpenseRecord → ExpenseRecord
told_in v e = record { payer = e.payer; group = e.group; deleted = e.deleted; acknowledged = e.acknowledged; version = e.version; shares = e.shares; day = day_told_in v e.day }

-- reading what was written
shares_read : (e : ExpenseRecord) → length e.shares ≡ 8 → (t : List ℕ) → shares_of (forty_of e ++ t) ≡ e.shares
unfolding forty_of shares_of
shares_read e f t =
    let w : (i : ℕ) → _ = λ i. word (get_or e.shares i 0) in
    same8 (w 0) (w 1) (w 2) (w 3) (w 4) (w 5) (w 6) (w 7) ∙ eight e.shares f

pub read_shares : (e : ExpenseRecord) → length e.shares ≡ 8 → shares_of (forty_of e) ≡ e.shares
unfolding forty_of shares_of
read_shares e f = shares_read e f []

pub read_back : (v : Version) (e : ExpenseRecord) → length e.shares ≡ 8 → expense_of (bytes_in v e) ≡ told_in v e
unfolding expense_of bytes_in forty_of shares_of
read_back v1 e f = same_e refl refl refl refl (word e.version) (shares_read e f []) refl
read_back v2 e f = same_e refl refl refl refl (word e.version) (shares_read e f []) refl
read_back v3 e f = same_e refl refl refl refl (word e.version) (shares_read e f (le16 e.day)) (pair e.day)

-- two groups whose fields are equal
pub same_g : {c c' : List ℕ} {k k' : ℕ} → c ≡ c' → k ≡ k' → ◌≡◌ {A = GroupRecord} (record { counters = c; rule = k }) (record { counters = c'; rule = k' })
same_g p q = cc

-- beyond the end of a part a number is read as zero
pub pair_beyond : (p : List ℕ) (k : ℕ) → length p ≤ k → u16_at p k ≡ 0
pair_beyond p k h =
    let n : length p ≤ k + 1 = omega arith in
    let x : get_or p k 0 ≡ 0 = get_or-eq_default p 0 h in
    let y : get_or p (k + 1) 0 ≡ 0 = get_or-eq_default p 0 n in
    ap₂ (λ a b. a + 256 * b) x y

-- a group's counters in every version, and its rule as far as the version tells it
module _ (g : GroupRecord) (f : length g.counters ≡ 8) where
  counters_back : (t : List ℕ) → (group_of (counter_bytes g.counters ++ t)).counters ≡ g.counters
  unfolding group_of
  counters_back t =
      let w : (i : ℕ) → _ = λ i. pair (get_or g.counters i 0) in
      same8 (w 0) (w 1) (w 2) (w 3) (w 4) (w 5) (w 6) (w 7) ∙ eight g.counters f

  pub read_group_lem : (v : Version) → group_of (group_bytes_in v g) ≡ record { counters = g.counters; rule = rule_told_in v g.rule }
  unfolding group_of group_bytes_in
  read_group_lem v1 = same_g (counters_back []) refl
  read_group_lem v2 = same_g (counters_back (le16 g.rule)) (pair g.rule)
  read_group_lem v3 = same_g (counters_back (le16 g.rule)) (pair g.rule)

-- the next byte, and the next number
byte_drop : (l : List ℕ) (k : ℕ) → k < length l → drop k l ≡ get_or l k 0 ∷ drop (k + 1) l
byte_drop l k h = rw add-one (drop-cons l k 0 h)

pub word_drop : (l : List ℕ) → Octets l → (k : ℕ) → k + 4 ≤ length l → drop k l ≡ le32 (u32_at l k) ++ drop (k + 4) l
word_drop l b k h =
    byte_drop l k (omega arith)
    ∙ ap (λ (t : List ℕ). get_or l k 0 ∷ t) (byte_drop l (k + 1) (omega arith)
    ∙ ap (λ (t : List ℕ). get_or l (k + 1) 0 ∷ t) (rw add_assoc (byte_drop l (k + 2) (omega arith)
    ∙ ap (λ (t : List ℕ). get_or l (k + 2) 0 ∷ t) (rw add_assoc (byte_drop l (k + 3) (omega arith) ∙ rw add_assoc)))))
    ∙ ap (λ (t : List ℕ). t ++ drop (k + 4) l) (sym (bytes_word _ _ _ _ (b k) (b (k + 1)) (b (k + 2))))

pair_drop : (l : List ℕ) → Octets l → (k : ℕ) → k + 2 ≤ length l → drop k l ≡ le16 (u16_at l k) ++ drop (k + 2) l
pair_drop l b k h =
    byte_drop l k (omega arith)
    ∙ ap (λ (t : List ℕ). get_or l k 0 ∷ t) (byte_drop l (k + 1) (omega arith) ∙ rw add_assoc)
    ∙ ap (λ (t : List ℕ). t ++ drop (k + 2) l) (sym (bytes_pair _ _ (b k)))

-- writing what was read
forty_first : (p : List ℕ) → Octets p → 40 ≤ length p → p ≡ forty_of (expense_of p) ++ drop 40 p
unfolding forty_of expense_of shares_of
forty_first p b h =
    byte_drop p 0 (omega arith)
    ∙ rw (
      byte_drop p 1 (omega arith),
      byte_drop p 2 (omega arith),
      byte_drop p 3 (omega arith),
      word_drop p b 4 (omega arith),
      word_drop p b 8 (omega arith),
      word_drop p b 12 (omega arith),
      word_drop p b 16 (omega arith),
      word_drop p b 20 (omega arith),
      word_drop p b 24 (omega arith),
      word_drop p b 28 (omega arith),
      word_drop p b 32 (omega arith),
      word_drop p b 36 (omega arith),
    )

pub write_back : (v : Version) (p : List ℕ) → Octets p → length p ≡ expense_size_in v → bytes_in v (expense_of p) ≡ p
unfolding bytes_in forty_of expense_of shares_of
write_back v1 p b h =
    let e : length p ≤ 40 = omega arith in
    sym (forty_first p b (omega arith) ∙ rw (drop_of_length-le p e))
write_back v2 p b h =
    let e : length p ≤ 40 = omega arith in
    sym (forty_first p b (omega arith) ∙ rw (drop_of_length-le p e))
write_back v3 p b h =
    let e : length p ≤ 42 = omega arith in
    sym (forty_first p b (omega arith) ∙ rw (pair_drop p b 40 (omega arith), drop_of_length-le p e))

counters_first : (p : List ℕ) → Octets p → 16 ≤ length p → p ≡ counter_bytes (group_of p).counters ++ drop 16 p
unfolding group_of
counters_first p b h =
    pair_drop p b 0 (omega arith)
    ∙ rw (
      pair_drop p b 2 (omega arith),
      pair_drop p b 4 (omega arith),
      pair_drop p b 6 (omega arith),
      pair_drop p b 8 (omega arith),
      pair_drop p b 10 (omega arith),
      pair_drop p b 12 (omega arith),
      pair_drop p b 14 (omega arith),
    )

pub write_group : (v : Version) (p : List ℕ) → Octets p → length p ≡ group_size_in v → group_bytes_in v (group_of p) ≡ p
unfolding group_bytes_in group_of
write_group v1 p b h =
    let e : length p ≤ group_size_in v1 = omega arith in
    sym (counters_first p b (omega arith) ∙ rw (drop_of_length-le p e))
write_group v2 p b h =
    let e : length p ≤ group_size_in v2 = omega arith in
    sym (counters_first p b (omega arith) ∙ rw (pair_drop p b 16 (omega arith), drop_of_length-le p e))
write_group v3 p b h =
    let e : length p ≤ group_size_in v3 = omega arith in
    sym (counters_first p b (omega arith) ∙ rw (pair_drop p b 16 (omega arith), drop_of_length-le p e))
