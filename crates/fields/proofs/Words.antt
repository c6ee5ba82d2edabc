-- Records read eight bytes at a time: what a word tells of the fields in it.
use Rattle.std.proofs.Common.{◌≡◌, ℕ, ◌+◌, ◌*◌, ◌/◌, ◌%◌, ◌<◌, ◌≤◌, Bool, true, false, not, ◌&&◌, eqb, ltb, leb, ◌≢◌, List, [], ◌∷◌, length, sym, refl, ap, ◌∙◌, ap₂, inl, inr, arith, bit_or}
use lib.Bits.{or_mod, or_shr, or_add_and, and_le_l, and_le_r}
use Rattle.format.specs.Layout.{no_expense, most_total}
use Rattle.format.specs.declared.ExpenseRecord.{ExpenseRecord}
use Rattle.format.specs.Bytes.{Bytes, byte, u16_at, u32_at, shares_of, expense_of, group_of}
use Rattle.format.proofs.Round.{pair_beyond}
use Rattle.rules.specs.Tests.{sum8, all_of, every8, eight_at}
use Rattle.rules.specs.Ledger.{nobody}
use Rattle.images.specs.Meaning.{counters_of}
use Rattle.rules.proofs.Basics.{Same, same, other, same?, Less, less, more, less?, eqb_true, ltb_false, and_left, and_right, bool_path}
use Rattle.rules.proofs.Accepted.{each, every_8, nobody_zero}
use Rattle.rules.proofs.Sound.{of_each, le_leb}
use Rattle.fields.specs.Fields.{Sized, Part, blank_head, unshared, blank_tail, absent_record, evens, odds}

-- A number is zero just when both halves are.
halves_zero : (w : ℕ) → w % 4294967296 ≡ 0 → w / 4294967296 ≡ 0 → w ≡ 0
halves_zero w l h = omega arith

or_zero : (a b : ℕ) → bit_or a b ≡ 0 → (a ≡ 0) × (b ≡ 0)
or_zero a b e =
    let s = or_add_and a b in
    let l = and_le_l a b in
    let r = and_le_r a b in
    (omega arith, omega arith)

pub or_zero_b : (a b : ℕ) → eqb (bit_or a b) 0 ≡ (eqb a 0 && eqb b 0)
or_zero_b a b = bool_path _ _ to from
  where
    to : eqb (bit_or a b) 0 ≡ true → (eqb a 0 && eqb b 0) ≡ true
    to e = let z = or_zero a b (eqb_true _ _ e) in rw (z.0, z.1)

    from : (eqb a 0 && eqb b 0) ≡ true → eqb (bit_or a b) 0 ≡ true
    from e = rw (eqb_true a 0 (and_left (eqb a 0) (eqb b 0) e), eqb_true b 0 (and_right (eqb a 0) (eqb b 0) e))

-- A part of an or is no larger.
or_le : (a b : ℕ) → (a ≤ bit_or a b) × (b ≤ bit_or a b)
or_le a b =
    let s = or_add_and a b in
    let l = and_le_l a b in
    let r = and_le_r a b in
    (omega arith, omega arith)

-- The head of no expense.
pub head_is : (p : Bytes) (w : ℕ) → (w % 4294967296 ≡ u32_at p 0) × (w / 4294967296 ≡ u32_at p 4) → eqb w 255 ≡ blank_head (expense_of p)
unfolding blank_head expense_of
head_is p w (l, h) = bool_path _ _ to from
  where
    to : eqb w 255 ≡ true
        → all_of (eqb (byte p 0) no_expense ∷ eqb (byte p 1) 0 ∷ eqb (byte p 2) 0 ∷ eqb (byte p 3) 0 ∷ eqb (u32_at p 4) 0 ∷ []) ≡ true
    to e =
        let z : w ≡ 255 = eqb_true w 255 e in
        let e0 : byte p 0 ≡ 255 = omega arith in
        let e1 : byte p 1 ≡ 0 = omega arith in
        let e2 : byte p 2 ≡ 0 = omega arith in
        let e3 : byte p 3 ≡ 0 = omega arith in
        let e4 : u32_at p 4 ≡ 0 = omega arith in
        of_each _ (rw e0, (rw e1, (rw e2, (rw e3, (rw e4, tt)))))

    from : all_of (eqb (byte p 0) no_expense ∷ eqb (byte p 1) 0 ∷ eqb (byte p 2) 0 ∷ eqb (byte p 3) 0 ∷ eqb (u32_at p 4) 0 ∷ []) ≡ true → eqb w 255 ≡ true
    from e =
        let t = each _ e in
        let e0 = eqb_true (byte p 0) 255 t.0 in
        let e1 = eqb_true (byte p 1) 0 t.1.0 in
        let e2 = eqb_true (byte p 2) 0 t.1.1.0 in
        let e3 = eqb_true (byte p 3) 0 t.1.1.1.0 in
        let e4 = eqb_true (u32_at p 4) 0 t.1.1.1.1.0 in
        let z : w ≡ 255 = omega arith in
        rw z

-- The bits of all shares.
pub words_are : (p : Bytes) (a b c d : ℕ) → (a % 4294967296 ≡ u32_at p 8) × (a / 4294967296 ≡ u32_at p 12) → (b % 4294967296 ≡ u32_at p 16) × (b / 4294967296 ≡ u32_at p 20)
    → (c % 4294967296 ≡ u32_at p 24) × (c / 4294967296 ≡ u32_at p 28) → (d % 4294967296 ≡ u32_at p 32) × (d / 4294967296 ≡ u32_at p 36)
    → (bit_or (bit_or a b) (bit_or c d) % 4294967296 ≡ evens (shares_of p)) × (bit_or (bit_or a b) (bit_or c d) / 4294967296 ≡ odds (shares_of p))
unfolding shares_of
words_are p a b c d (al, ah) (bl, bh) (cl, ch) (dl, dh) = (
  or_mod (bit_or a b) (bit_or c d) 32 ∙ ap₂ bit_or (or_mod a b 32 ∙ ap₂ bit_or al bl) (or_mod c d 32 ∙ ap₂ bit_or cl dl),
  or_shr (bit_or a b) (bit_or c d) 32 ∙ ap₂ bit_or (or_shr a b 32 ∙ ap₂ bit_or ah bh) (or_shr c d 32 ∙ ap₂ bit_or ch dh),
)

-- A bound on the bits of all shares is one on each share.
record Below (s : List ℕ) (n : ℕ) : Type 0 where
  s0 : eight_at s 0 ≤ n
  s1 : eight_at s 1 ≤ n
  s2 : eight_at s 2 ≤ n
  s3 : eight_at s 3 ≤ n
  s4 : eight_at s 4 ≤ n
  s5 : eight_at s 5 ≤ n
  s6 : eight_at s 6 ≤ n
  s7 : eight_at s 7 ≤ n

four_below : (a b c d n : ℕ) → bit_or (bit_or a b) (bit_or c d) ≤ n → ((a ≤ n) × (b ≤ n)) × ((c ≤ n) × (d ≤ n))
four_below a b c d n h =
    let t = or_le (bit_or a b) (bit_or c d) in
    let x = or_le a b in
    let y = or_le c d in
    let t0 = t.0 in
    let t1 = t.1 in
    let x0 = x.0 in
    let x1 = x.1 in
    let y0 = y.0 in
    let y1 = y.1 in
    ((omega arith, omega arith), (omega arith, omega arith))

below : (s : List ℕ) (n : ℕ) → evens s ≤ n → odds s ≤ n → Below s n
below s n e o =
    let x = four_below (eight_at s 0) (eight_at s 2) (eight_at s 4) (eight_at s 6) n e in
    let y = four_below (eight_at s 1) (eight_at s 3) (eight_at s 5) (eight_at s 7) n o in
    record { s0 = x.0.0; s1 = y.0.0; s2 = x.0.1; s3 = y.0.1; s4 = x.1.0; s5 = y.1.0; s6 = x.1.1; s7 = y.1.1 }

below_none : (s : List ℕ) → Below s 0 → unshared s ≡ true
unfolding every8
below_none s b =
    of_each
    (eqb (eight_at s 0) 0 ∷ eqb (eight_at s 1) 0 ∷ eqb (eight_at s 2) 0 ∷ eqb (eight_at s 3) 0 ∷ eqb (eight_at s 4) 0 ∷ eqb (eight_at s 5) 0 ∷ eqb (eight_at s 6) 0 ∷ eqb (eight_at s 7) 0 ∷ [])
    (none b.s0, (none b.s1, (none b.s2, (none b.s3, (none b.s4, (none b.s5, (none b.s6, (none b.s7, tt))))))))
  where
    none : {n : ℕ} → n ≤ 0 → eqb n 0 ≡ true
    none {n} k = let z : n ≡ 0 = omega arith in rw z

-- No bit is no share.
pub words_none : (s : List ℕ) (w : ℕ) → (w % 4294967296 ≡ evens s) × (w / 4294967296 ≡ odds s) → eqb w 0 ≡ unshared s
words_none s w (l, h) = bool_path _ _ to from
  where
    to : eqb w 0 ≡ true → unshared s ≡ true
    to e =
        let z : w ≡ 0 = eqb_true w 0 e in
        let b = below s 0 (omega arith) (omega arith) in
        below_none s b

    from : unshared s ≡ true → eqb w 0 ≡ true
    from e =
        let z : (u : ℕ) → u < 8 → eight_at s u ≡ 0 = λ u k. eqb_true (eight_at s u) 0 (every_8 _ e u k) in
        let ev : evens s ≡ 0 = rw (z 0 (omega arith), z 2 (omega arith), z 4 (omega arith), z 6 (omega arith)) in
        let od : odds s ≡ 0 = rw (z 1 (omega arith), z 3 (omega arith), z 5 (omega arith), z 7 (omega arith)) in
        let t : w ≡ 0 = halves_zero w (l ∙ ev) (h ∙ od) in
        rw t

and_true : (a : Bool) → (a && true) ≡ a
and_true true = refl
and_true false = refl

-- Either size is forty bytes or more, and the bytes of an expense are at least so many.
pub forty_at_least : (n : ℕ) → Sized n → 40 ≤ n
forty_at_least n (inl e) = omega arith
forty_at_least n (inr e) = omega arith

pub part_forty : (n : ℕ) (p : Bytes) → Part n p → 40 ≤ length p
part_forty n p (inl (e, l)) = omega arith
part_forty n p (inr (e, l)) = omega arith

pub part_of : (n : ℕ) (p : Bytes) → Sized n → length p ≡ n → Part n p
part_of n p (inl e) l = inl (e, omega arith)
part_of n p (inr e) l = inr (e, omega arith)

-- A record is absent by its head and by what stands behind it.
head_and_tail : (p g d a v s n : Bool) → (all_of (p ∷ g ∷ d ∷ a ∷ v ∷ []) && (s && n)) ≡ (p && all_of (g ∷ d ∷ a ∷ v ∷ s ∷ n ∷ []))
unfolding all_of
head_and_tail false g d a v s n = refl
head_and_tail true false d a v s n = refl
head_and_tail true true false a v s n = refl
head_and_tail true true true false v s n = refl
head_and_tail true true true true false s n = refl
head_and_tail true true true true true false n = refl
head_and_tail true true true true true true false = refl
head_and_tail true true true true true true true = refl

pub absent_is : (e : ExpenseRecord) → (blank_head e && blank_tail e) ≡ absent_record e
unfolding absent_record blank_head
absent_is e = head_and_tail (eqb e.payer no_expense) (eqb e.group 0) (eqb e.deleted 0) (eqb e.acknowledged 0) (eqb e.version 0) (unshared e.shares) (eqb e.day 0)

-- The words of the shares, with the last eight bytes or'ed to them: six of these are the last shares', the others the day.
pub tail_none : (p : Bytes) (w d : ℕ) → (w % 4294967296 ≡ evens (shares_of p)) × (w / 4294967296 ≡ odds (shares_of p)) → (d % 4294967296 ≡ u32_at p 34) × (d / 4294967296 ≡ u32_at p 38)
    → eqb (bit_or w d) 0 ≡ blank_tail (expense_of p)
unfolding expense_of shares_of
tail_none p w d q (l, h) = or_zero_b w d ∙ ap (λ t. t && eqb d 0) (words_none (shares_of p) w q) ∙ bool_path _ _ to from
  where
    to : (unshared (shares_of p) && eqb d 0) ≡ true → (unshared (shares_of p) && eqb (u16_at p 40) 0) ≡ true
    to e =
        let z : d ≡ 0 = eqb_true d 0 (and_right (unshared (shares_of p)) (eqb d 0) e) in
        let y : u16_at p 40 ≡ 0 = omega arith in
        rw (and_left (unshared (shares_of p)) (eqb d 0) e, y)

    from : (unshared (shares_of p) && eqb (u16_at p 40) 0) ≡ true → (unshared (shares_of p) && eqb d 0) ≡ true
    from e =
        let s : unshared (shares_of p) ≡ true = and_left (unshared (shares_of p)) (eqb (u16_at p 40) 0) e in
        let x : u32_at p 32 ≡ 0 = eqb_true (u32_at p 32) 0 (every_8 _ s 6 (omega arith)) in
        let y : u32_at p 36 ≡ 0 = eqb_true (u32_at p 36) 0 (every_8 _ s 7 (omega arith)) in
        let n : u16_at p 40 ≡ 0 = eqb_true (u16_at p 40) 0 (and_right (unshared (shares_of p)) (eqb (u16_at p 40) 0) e) in
        let z : d ≡ 0 = halves_zero d (omega arith) (omega arith) in
        rw (s, z)

-- Behind the forty bytes of an older version no day is read.
old_tail_none : (p : Bytes) (w : ℕ) → length p ≡ 40 → (w % 4294967296 ≡ evens (shares_of p)) × (w / 4294967296 ≡ odds (shares_of p)) → eqb w 0 ≡ blank_tail (expense_of p)
unfolding expense_of
old_tail_none p w n q =
    let d : u16_at p 40 ≡ 0 = (let m : length p ≤ 40 = omega arith in pair_beyond p 40 m) in
    words_none (shares_of p) w q ∙ sym (rw d (and_true (unshared (shares_of p))))

pub undated_tail : (n : ℕ) (p : Bytes) (w : ℕ) → Part n p → n ≢ 42 → (w % 4294967296 ≡ evens (shares_of p)) × (w / 4294967296 ≡ odds (shares_of p)) → eqb w 0 ≡ blank_tail (expense_of p)
undated_tail n p w (inl (e, l)) dated q = old_tail_none p w l q
undated_tail n p w (inr (e, l)) dated q = absurd (dated e)

-- The total, two shares to a word.
pub total_is : (p : Bytes) (a b c d x y z t : ℕ) → (a % 4294967296 ≡ u32_at p 8) × (a / 4294967296 ≡ u32_at p 12) → (b % 4294967296 ≡ u32_at p 16) × (b / 4294967296 ≡ u32_at p 20)
    → (c % 4294967296 ≡ u32_at p 24) × (c / 4294967296 ≡ u32_at p 28) → (d % 4294967296 ≡ u32_at p 32) × (d / 4294967296 ≡ u32_at p 36)
    → (x ≡ a % 4294967296 + a / 4294967296) × (x ≤ 8589934590) → (y ≡ b % 4294967296 + b / 4294967296) × (y ≤ 8589934590)
    → (z ≡ c % 4294967296 + c / 4294967296) × (z ≤ 8589934590) → (t ≡ d % 4294967296 + d / 4294967296) × (t ≤ 8589934590)
    → (x + y + z + t ≡ sum8 (eight_at (shares_of p))) × (x + y + z + t ≤ 34359738360)
unfolding shares_of
total_is p a b c d x y z t (al, ah) (bl, bh) (cl, ch) (dl, dh) (ex, hx) (ey, hy) (ez, hz) (et, ht) =
    let fx : x ≡ u32_at p 8 + u32_at p 12 = ex ∙ ap₂ ◌+◌ al ah in
    let fy : y ≡ u32_at p 16 + u32_at p 20 = ey ∙ ap₂ ◌+◌ bl bh in
    let fz : z ≡ u32_at p 24 + u32_at p 28 = ez ∙ ap₂ ◌+◌ cl ch in
    let ft : t ≡ u32_at p 32 + u32_at p 36 = et ∙ ap₂ ◌+◌ dl dh in
    (omega arith, omega arith)

-- Shares below 2 to the power 26 can't reach the most.
pub low_fits : (s : List ℕ) (w : ℕ) → (w % 4294967296 ≡ evens s) × (w / 4294967296 ≡ odds s) → w % 4294967296 < 67108864 → w / 4294967296 < 67108864
    → leb (sum8 (eight_at s)) most_total ≡ true
low_fits s w (l, h) kl kh =
    let b = below s 67108863 (omega arith) (omega arith) in
    let b0 = b.s0 in
    let b1 = b.s1 in
    let b2 = b.s2 in
    let b3 = b.s3 in
    let b4 = b.s4 in
    let b5 = b.s5 in
    let b6 = b.s6 in
    let b7 = b.s7 in
    le_leb (sum8 (eight_at s)) most_total (omega arith)

-- Payer and group as one number lie within 255 of the group's first.
pub in_is : (payer group g both first r : ℕ) → payer < 256 → both ≡ payer + 256 * group → first ≡ 256 * g → (r + first) % 4294967296 ≡ both → r < 4294967296 → group < 256 → g < 256
    → ltb r 255 ≡ (eqb group g && not (eqb payer no_expense))
in_is payer group g both first r kp eb ef q kr kg kh = go (same? group g) (same? payer 255)
  where
    go : Same group g → Same payer 255 → ltb r 255 ≡ (eqb group g && not (eqb payer no_expense))
    go (same p e) (same s t) = rw (e, t) (apart (less? r 255))
      where
        apart : Less r 255 → ltb r 255 ≡ false
        apart (less k x) = absurd (omega arith)
        apart (more k x) = x
    go (same p e) (other s t) = rw (e, t) (within (less? r 255))
      where
        within : Less r 255 → ltb r 255 ≡ true
        within (less k x) = x
        within (more k x) = absurd (omega arith)
    go (other p e) t = rw e (apart (less? r 255))
      where
        apart : Less r 255 → ltb r 255 ≡ false
        apart (less k x) = absurd (omega arith)
        apart (more k x) = x

-- Two words of zeros are eight counters of zero.
pub nobody_words : (p : Bytes) (a b : ℕ) → (a % 4294967296 ≡ u32_at p 0) × (a / 4294967296 ≡ u32_at p 4) → (b % 4294967296 ≡ u32_at p 8) × (b / 4294967296 ≡ u32_at p 12)
    → eqb (bit_or a b) 0 ≡ nobody (counters_of (group_of p))
unfolding group_of every8
nobody_words p a b (al, ah) (bl, bh) = or_zero_b a b ∙ bool_path _ _ to from
  where
    none : (n : ℕ) → n ≡ 0 → not (ltb 0 n) ≡ true
    none n e = ap not (ltb_false 0 n (omega arith))

    to : (eqb a 0 && eqb b 0) ≡ true → nobody (counters_of (group_of p)) ≡ true
    to e =
        let za = eqb_true a 0 (and_left (eqb a 0) (eqb b 0) e) in
        let zb = eqb_true b 0 (and_right (eqb a 0) (eqb b 0) e) in
        of_each _ (
          none (u16_at p 0) (omega arith),
          (
            none (u16_at p 2) (omega arith),
            (
              none (u16_at p 4) (omega arith),
              (
                none (u16_at p 6) (omega arith),
                (none (u16_at p 8) (omega arith), (none (u16_at p 10) (omega arith), (none (u16_at p 12) (omega arith), (none (u16_at p 14) (omega arith), tt)))),
              ),
            ),
          ),
        )

    from : nobody (counters_of (group_of p)) ≡ true → (eqb a 0 && eqb b 0) ≡ true
    from e =
        let f : ℕ → ℕ = counters_of (group_of p) in
        let c0 : u16_at p 0 ≡ 0 = nobody_zero f e 0 (omega arith) in
        let c1 : u16_at p 2 ≡ 0 = nobody_zero f e 1 (omega arith) in
        let c2 : u16_at p 4 ≡ 0 = nobody_zero f e 2 (omega arith) in
        let c3 : u16_at p 6 ≡ 0 = nobody_zero f e 3 (omega arith) in
        let c4 : u16_at p 8 ≡ 0 = nobody_zero f e 4 (omega arith) in
        let c5 : u16_at p 10 ≡ 0 = nobody_zero f e 5 (omega arith) in
        let c6 : u16_at p 12 ≡ 0 = nobody_zero f e 6 (omega arith) in
        let c7 : u16_at p 14 ≡ 0 = nobody_zero f e 7 (omega arith) in
        let za : a ≡ 0 = halves_zero a (omega arith) (omega arith) in
        let zb : b ≡ 0 = halves_zero b (omega arith) (omega arith) in
        rw (za, zb)
