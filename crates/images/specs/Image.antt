-- Document 01, 'The image': the image of a ledger, the ledger of an image, and the image check, in each version of the image.
-- A name with `In` takes the version; the plain name is that of the current version, and what code promises is said in plain names.
use Rattle.std.specs.Prelude.{◌≡◌, Bool, not, cond, [], ◌∷◌, ◌++◌, ℕ, zero, suc, ◌+◌, ◌≤◌, ◌<◌, ltb, eqb, length}
use Rattle.std.proofs.Math.Option.{Option, none}
use Rattle.format.specs.Layout.{Version, current, mark, number_in, user_count, replica_count, version_at, replica_at, homes_at, reserved_at, group_count, expense_count, image_size_in}
use Rattle.format.specs.Bytes.{Bytes, Octets, byte, le16, expense_of, bytes_in, group_of, group_bytes_in, group_part_in, expense_part_in}
use Rattle.rules.specs.Tests.{all_of, every8, every_below, first}
use Rattle.rules.specs.Ledger.{Expense, Ledger}
use Rattle.rules.specs.Sound.{rules_fit}
use Rattle.images.specs.Meaning.{meaning_in, record_of, counters_of, group_record_of, rule_in, sound_record_in}

-- The bytes of a group's counters and rule and of an expense, and read back.
unfoldable pub group_bytes : Version → (ℕ → ℕ) → ℕ → Bytes
group_bytes v f k = group_bytes_in v (group_record_of f k)

unfoldable pub read_group : Bytes → ℕ → ℕ
read_group p = counters_of (group_of p)

unfoldable pub read_rule : Version → Bytes → ℕ
read_rule v p = rule_in v (counters_of (group_of p)) (group_of p).rule

unfoldable pub expense_bytes : Version → Option Expense → Bytes
expense_bytes v o = bytes_in v (record_of o)

unfoldable pub read_expense : Version → Bytes → Option Expense
read_expense v p = meaning_in v (expense_of p)

-- Part 0 up to part n − 1, one behind the other.
unfoldable pub table : ℕ → (ℕ → Bytes) → Bytes
table zero f = []
table (suc n) f = table n f ++ f n

-- "Bytes 6 to 13: home van of users 0 to 7": the home of each of the eight users is one of the eight replicas, and nobody else has one.
pub record Homes (home : ℕ → ℕ) : Type 0 where
  pub below : (u : ℕ) → u < user_count → home u < replica_count
  pub beyond : (u : ℕ) → user_count ≤ u → home u ≡ 0

-- The header: mark, version, replica, home table, zeros.
abbrev pub header_in : Version → (ℕ → ℕ) → ℕ → Bytes
header_in v home r = mark ++ (le16 (number_in v) ++ (r ∷ home 0 ∷ home 1 ∷ home 2 ∷ home 3 ∷ home 4 ∷ home 5 ∷ home 6 ∷ home 7 ∷ 0 ∷ 0 ∷ []))

abbrev pub groups_in : Version → Ledger → Bytes
groups_in v l = table group_count (λ g. group_bytes v (l.counter g) (l.rule g))

abbrev pub expenses_in : Version → Ledger → Bytes
expenses_in v l = table expense_count (λ c. expense_bytes v (l.expense c))

-- The image of a ledger on replica r.
unfoldable pub encode_in : Version → (ℕ → ℕ) → ℕ → Ledger → Bytes
encode_in v home r l = header_in v home r ++ (groups_in v l ++ expenses_in v l)

abbrev pub header : (ℕ → ℕ) → ℕ → Bytes
header = header_in current

abbrev pub groups : Ledger → Bytes
groups = groups_in current

abbrev pub expenses : Ledger → Bytes
expenses = expenses_in current

abbrev pub encode : (ℕ → ℕ) → ℕ → Ledger → Bytes
encode = encode_in current

-- The ledger of an image: zeros and none beyond the sixteen groups and 512 expenses.
unfoldable pub decode_in : Version → Bytes → Ledger
decode_in v b = record {
  counter = λ g u. cond (ltb g group_count) (read_group (group_part_in v b g) u) 0;
  rule = λ g. cond (ltb g group_count) (read_rule v (group_part_in v b g)) 0;
  expense = λ c. cond (ltb c expense_count) (read_expense v (expense_part_in v b c)) none;
}

abbrev pub decode : Bytes → Ledger
decode = decode_in current

-- The header's replica and home table.
unfoldable pub replica_of : Bytes → ℕ
replica_of b = byte b replica_at

unfoldable pub home_of : Bytes → ℕ → ℕ
home_of b u = cond (ltb u user_count) (byte b (homes_at + u)) 0

-- The bytes p of expense c are sound, given the home table and the groups' counters; and those that an image has for it, with its own.
abbrev pub sound_as_in : Version → (ℕ → ℕ) → (ℕ → ℕ → ℕ) → ℕ → Bytes → Bool
sound_as_in v home counter c p = sound_record_in v (home (expense_of p).payer) (counter (expense_of p).group) c (expense_of p)

abbrev pub sound_as : (ℕ → ℕ) → (ℕ → ℕ → ℕ) → ℕ → Bytes → Bool
sound_as = sound_as_in current

unfoldable pub sound_part_in : Version → Bytes → ℕ → Bool
sound_part_in v b c = sound_as_in v (home_of b) (decode_in v b).counter c (expense_part_in v b c)

-- "Bytes 0 to 2 are the ASCII letters VAL."
unfoldable pub mark_ok : Bytes → Bool
mark_ok b = all_of (eqb (byte b 0) 86 ∷ eqb (byte b 1) 65 ∷ eqb (byte b 2) 76 ∷ [])

-- "Bytes 3 and 4: version."
unfoldable pub version_ok_in : Version → Bytes → Bool
version_ok_in v b = all_of (eqb (byte b version_at) (number_in v) ∷ eqb (byte b (version_at + 1)) 0 ∷ [])

-- "Byte 5: van, 0 to 7. Bytes 6 to 13: home van of users 0 to 7. Bytes 14 and 15: zero."
unfoldable pub header_ok : Bytes → Bool
header_ok b =
    all_of (ltb (byte b replica_at) replica_count ∷ every8 (λ u. ltb (home_of b u) replica_count) ∷ eqb (byte b reserved_at) 0 ∷ eqb (byte b (reserved_at + 1)) 0 ∷ [])

-- "1 length; 2 mark; 3 version; 4 header; 5 any unsound cost." "A present crew whose rule isn't 1 or 2, or an absent one whose rule isn't 0, is refused
-- with 4": of version 1, which has no rule, none is.
unfoldable pub image_check_in : Version → Bytes → ℕ
image_check_in v b =
    first
    ((not (eqb (length b) (image_size_in v)), 1)
    ∷ (not (mark_ok b), 2)
    ∷ (not (version_ok_in v b), 3)
    ∷ (not (header_ok b), 4)
    ∷ (not (rules_fit (decode_in v b)), 4)
    ∷ (not (every_below expense_count (sound_part_in v b)), 5)
    ∷ [])

abbrev pub image_check : Bytes → ℕ
image_check = image_check_in current

-- Bytes that pass the check.
pub record CheckedIn (v : Version) (b : Bytes) : Type 0 where
  pub octets : Octets b
  pub passes : image_check_in v b ≡ 0

abbrev pub Checked : Bytes → Type 0
Checked = CheckedIn current
