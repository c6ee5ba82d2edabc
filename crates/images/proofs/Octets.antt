-- The image of a ledger is made of bytes: each element is below 256, where the ledger is sound and its numbers fit their fields.
use mathlib.Core.Path.{◌≡◌}
use mathlib.Core.Bool.{true, ◌||◌}
use mathlib.Core.Option.{Option, none, some}
use mathlib.Core.List.{[], ◌∷◌, ◌++◌}
use Prim.Native.Nat.{ℕ, zero, suc, ◌/◌, ◌%◌, ◌≤◌, ◌<◌}
use native.Mathlib.Omega.{arith}
use lib.Dec.{ltb, leb, eqb}
use Rattle.format.specs.Layout.{Version, v1, v2, v3, last_day, undated, number_in, user_count, replica_count, group_count, expense_count, no_expense, no_group, most_total}
use Rattle.format.specs.declared.ExpenseRecord.{ExpenseRecord}
use Rattle.format.specs.Bytes.{Bytes, Octets, le16, le32, share_bytes, counter_bytes, forty_of, bytes_in, group_bytes_in}
use Rattle.rules.specs.Tests.{number, sum8, eight_of}
use Rattle.rules.specs.Ledger.{Expense, Ledger}
use Rattle.rules.specs.Sound.{day_fits, sound}
use Rattle.images.specs.Meaning.{bits, record_of}
use Rattle.images.specs.Image.{group_bytes, expense_bytes, table, header_in, encode_in}
use Rattle.rules.proofs.Basics.{false_of, eqb_true, Less, less, more, less?}
use Rattle.rules.proofs.Sums.{number_le}
use Rattle.images.proofs.Codec.{bits_byte}
use Rattle.rules.proofs.Sound.{GoodOption, good_ledger, or_else, leb_le}
use Rattle.images.proofs.Range.{PlainOption, Encodable, rule_small}

-- A list of bytes, element by element.
pub data Small : Bytes → Type 0 where
  done : Small []
  also : (x : ℕ) {b : Bytes} → x < 256 → Small b → Small (x ∷ b)

pub octets : {b : Bytes} → Small b → Octets b
octets done i = omega arith
octets (also x h s) zero = h
octets (also x h s) (suc i) = octets s i

pub then : {a b : Bytes} → Small a → Small b → Small (a ++ b)
then done t = t
then (also x h s) t = also x h (then s t)

small_table : (n : ℕ) (f : ℕ → Bytes) → ((i : ℕ) → i < n → Small (f i)) → Small (table n f)
unfolding table
small_table zero f h = done
small_table (suc n) f h = then (small_table n f (λ i k. h i (omega arith))) (h n (omega arith))

-- The bytes of a number that fits its field.
small_16 : (v : ℕ) → v < 65_536 → Small (le16 v)
small_16 v h = also (v % 256) (omega arith) (also (v / 256) (omega arith) done)

pub small_32 : (v : ℕ) → v < 4_294_967_296 → Small (le32 v)
small_32 v h = also (v % 256) (omega arith) (also (v / 256 % 256) (omega arith) (also (v / 256 / 256 % 256) (omega arith) (also (v / 256 / 256 / 256) (omega arith) done)))

-- A group, and an expense.
small_counters : (f : ℕ → ℕ) → ((u : ℕ) → f u < 65_536) → Small (counter_bytes (eight_of f))
small_counters f h =
    then (then (then (then (then (then (then (n 0) (n 1)) (n 2)) (n 3)) (n 4)) (n 5)) (n 6)) (n 7)
  where
    n : (u : ℕ) → Small (le16 (f u))
    n u = small_16 (f u) (h u)

small_group : (v : Version) (f : ℕ → ℕ) (k : ℕ) → ((u : ℕ) → f u < 65_536) → k < 65_536 → Small (group_bytes v f k)
unfolding group_bytes group_bytes_in
small_group v1 f k h j = small_counters f h
small_group v2 f k h j = then (small_counters f h) (small_16 k j)
small_group v3 f k h j = then (small_counters f h) (small_16 k j)

pub small_shares : (s : ℕ → ℕ) → sum8 s ≤ most_total → Small (share_bytes (eight_of s))
small_shares s h =
    then (then (then (then (then (then (then (small_32 (s 0) (omega arith)) (small_32 (s 1) (omega arith))) (small_32 (s 2) (omega arith))) (small_32 (s 3) (omega arith)))
    (small_32 (s 4) (omega arith))) (small_32 (s 5) (omega arith))) (small_32 (s 6) (omega arith))) (small_32 (s 7) (omega arith))

group_256 : (g : ℕ) → (ltb g group_count || eqb g no_group) ≡ true → g < 256
group_256 g h = go (less? g group_count)
  where
    go : Less g group_count → g < 256
    go (less k e) = omega arith
    go (more k e) = let z = eqb_true g no_group (or_else (ltb g group_count) (eqb g no_group) h e) in omega arith

small_day : (d : ℕ) → day_fits d ≡ true → d < 65_536
small_day d h = go (less? last_day d)
  where
    go : Less last_day d → d < 65_536
    go (less k e) = let z = eqb_true d undated (or_else (leb d last_day) (eqb d undated) h (false_of (leb d last_day) (λ q. let y = leb_le d last_day q in omega arith))) in omega arith
    go (more k e) = omega arith

in_version : (v : Version) (e : ExpenseRecord) → e.day < 65_536 → Small (forty_of e) → Small (bytes_in v e)
unfolding bytes_in
in_version v1 e d s = s
in_version v2 e d s = s
in_version v3 e d s = then s (small_16 e.day d)

small_expense : (v : Version) (home : ℕ → ℕ) (l : Ledger) (c : ℕ) (o : Option Expense) → GoodOption home l c o → PlainOption v o → Small (expense_bytes v o)
unfolding expense_bytes forty_of record_of
small_expense v home l c none g p =
    in_version v _ (omega arith)
    (also no_expense (omega arith) (also 0 (omega arith) (also 0 (omega arith) (also 0 (omega arith) (then (small_32 0 (omega arith)) (small_shares (λ u. 0) (omega arith)))))))
small_expense v home l c (some e) g p =
    in_version v _ (small_day e.day g.dayed)
    (also e.payer (omega (arith, g.payer8)) (also e.group (group_256 e.group g.group16) (also (number e.deleted) (omega (arith, number_le e.deleted)) (also (bits e.acknowledged) (bits_byte e.acknowledged)
    (then (small_32 e.version p.version32) (small_shares e.shares g.high))))))

-- The header, and the whole image.
small_number : (v : Version) → number_in v < 256
small_number v1 = omega arith
small_number v2 = omega arith
small_number v3 = omega arith

small_header : (v : Version) (home : ℕ → ℕ) (r : ℕ) → r < replica_count → ((u : ℕ) → u < user_count → home u < replica_count) → Small (header_in v home r)
small_header v home r k h =
    also 86 (omega arith) (also 65 (omega arith) (also 76 (omega arith) (then (small_16 (number_in v) (let z = small_number v in omega arith)) (also r (omega arith)
    (also (home 0) (n 0 (omega arith)) (also (home 1) (n 1 (omega arith)) (also (home 2) (n 2 (omega arith)) (also (home 3) (n 3 (omega arith)) (also (home 4) (n 4 (omega arith)) (also (home 5) (n 5 (omega arith)) (also (home 6) (n 6 (omega arith)) (also (home 7) (n 7 (omega arith))
    (also 0 (omega arith) (also 0 (omega arith) done))))))))))))))
  where
    n : (u : ℕ) → u < user_count → home u < 256
    n u j = let z = h u j in omega arith

pub encode_octets : (v : Version) (home : ℕ → ℕ) (r : ℕ) (l : Ledger) → r < replica_count → ((u : ℕ) → u < user_count → home u < replica_count) → Encodable v l → sound home l ≡ true
    → Octets (encode_in v home r l)
unfolding encode_in
encode_octets v home r l k h en so =
    octets (then (small_header v home r k h)
    (then (small_table group_count _ (λ g j. small_group v (l.counter g) (l.rule g) (en.counters16 g) (let z = rule_small (en.ruled g) in omega arith)))
    (small_table expense_count _ (λ c j. small_expense v home l c (l.expense c) (good_ledger home l so c j) (en.plain c)))))
