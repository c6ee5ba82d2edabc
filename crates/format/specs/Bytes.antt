-- The bytes of numbers and of records, little-endian: document 01, 'The image' and 'The action'.
-- This file and Layout alone know where a field stands.
use Rattle.std.specs.Prelude.{ℕ, ◌+◌, ◌*◌, ◌/◌, ◌%◌, ◌<◌, List, [], ◌∷◌, ◌++◌, length, get_or, take, drop}
use Rattle.format.specs.declared.ExpenseRecord.{ExpenseRecord}
use Rattle.format.specs.declared.GroupRecord.{GroupRecord}
use Rattle.format.specs.Layout.{Version, v1, v2, v3, current, group_size_in, group_place_in, expense_size_in, expense_place_in}

abbrev pub Bytes : Type 0
Bytes = List ℕ

-- Every element is a byte.
abbrev pub Octets : Bytes → Type 0
Octets b = (i : ℕ) → get_or b i 0 < 256

-- The byte at i, 0 beyond the end.
abbrev pub byte : Bytes → ℕ → ℕ
byte b i = get_or b i 0

-- The number of two or four bytes at k.
abbrev pub u16_at : Bytes → ℕ → ℕ
u16_at s k = get_or s k 0 + 256 * get_or s (k + 1) 0

abbrev pub u32_at : Bytes → ℕ → ℕ
u32_at s k = get_or s k 0 + 256 * (get_or s (k + 1) 0 + 256 * (get_or s (k + 2) 0 + 256 * get_or s (k + 3) 0))

-- The bytes of a number of 16 or 32 bits.
abbrev pub le16 : ℕ → Bytes
le16 v = v % 256 ∷ v / 256 ∷ []

abbrev pub le32 : ℕ → Bytes
le32 v = v % 256 ∷ v / 256 % 256 ∷ v / 256 / 256 % 256 ∷ v / 256 / 256 / 256 ∷ []

-- "eight shares, 32 bits each", from byte 8 on, of an expense and of an action.
unfoldable pub shares_of : Bytes → List ℕ
shares_of s = u32_at s 8 ∷ u32_at s 12 ∷ u32_at s 16 ∷ u32_at s 20 ∷ u32_at s 24 ∷ u32_at s 28 ∷ u32_at s 32 ∷ u32_at s 36 ∷ []

abbrev pub share_bytes : List ℕ → Bytes
share_bytes s =
    le32 (get_or s 0 0) ++ le32 (get_or s 1 0) ++ le32 (get_or s 2 0) ++ le32 (get_or s 3 0)
    ++ le32 (get_or s 4 0) ++ le32 (get_or s 5 0) ++ le32 (get_or s 6 0) ++ le32 (get_or s 7 0)

-- An expense (the paper's cost): "payer; crew; deleted; acknowledgements; version, 32 bits; eight shares"; from version 3 on "a 16-bit day after its shares".
-- Of an older version's bytes, which end before it, the day is read as zero.
unfoldable pub expense_of : Bytes → ExpenseRecord
expense_of s = record { payer = get_or s 0 0; group = get_or s 1 0; deleted = get_or s 2 0; acknowledged = get_or s 3 0; version = u32_at s 4; shares = shares_of s; day = u16_at s 40 }

-- The first forty bytes of an expense, which every version has.
unfoldable pub forty_of : ExpenseRecord → Bytes
forty_of e = e.payer ∷ e.group ∷ e.deleted ∷ e.acknowledged ∷ le32 e.version ++ share_bytes e.shares

-- What an image of a version tells of an expense's day: versions 1 and 2 nothing.
abbrev pub day_told_in : Version → ℕ → ℕ
day_told_in v1 d = 0
day_told_in v2 d = 0
day_told_in v3 d = d

unfoldable pub bytes_in : Version → ExpenseRecord → Bytes
bytes_in v1 e = forty_of e
bytes_in v2 e = forty_of e
bytes_in v3 e = forty_of e ++ le16 e.day

-- A group (the paper's crew): "its eight membership counters, 16 bits each"; from version 2 on "a 16-bit rule number after its counters".
-- Of an older version's bytes, which end before it, the rule is read as zero.
unfoldable pub group_of : Bytes → GroupRecord
group_of s = record {
  counters = u16_at s 0 ∷ u16_at s 2 ∷ u16_at s 4 ∷ u16_at s 6 ∷ u16_at s 8 ∷ u16_at s 10 ∷ u16_at s 12 ∷ u16_at s 14 ∷ [];
  rule = u16_at s 16;
}

abbrev pub counter_bytes : List ℕ → Bytes
counter_bytes s =
    le16 (get_or s 0 0) ++ le16 (get_or s 1 0) ++ le16 (get_or s 2 0) ++ le16 (get_or s 3 0)
    ++ le16 (get_or s 4 0) ++ le16 (get_or s 5 0) ++ le16 (get_or s 6 0) ++ le16 (get_or s 7 0)

-- What an image of a version tells of a group's rule: version 1 nothing.
abbrev pub rule_told_in : Version → ℕ → ℕ
rule_told_in v1 k = 0
rule_told_in v2 k = k
rule_told_in v3 k = k

unfoldable pub group_bytes_in : Version → GroupRecord → Bytes
group_bytes_in v1 g = counter_bytes g.counters
group_bytes_in v2 g = counter_bytes g.counters ++ le16 g.rule
group_bytes_in v3 g = counter_bytes g.counters ++ le16 g.rule

-- The bytes of group g and of expense c in an image.
abbrev pub group_part_in : Version → Bytes → ℕ → Bytes
group_part_in v b g = take (group_size_in v) (drop (group_place_in v g) b)

abbrev pub expense_part_in : Version → Bytes → ℕ → Bytes
expense_part_in v b c = take (expense_size_in v) (drop (expense_place_in v c) b)

-- The same of the current version.
abbrev pub bytes_of : ExpenseRecord → Bytes
bytes_of = bytes_in current

abbrev pub group_bytes_of : GroupRecord → Bytes
group_bytes_of = group_bytes_in current

abbrev pub group_part : Bytes → ℕ → Bytes
group_part = group_part_in current

abbrev pub expense_part : Bytes → ℕ → Bytes
expense_part = expense_part_in current

-- b with x in the place of what stood from i on.
unfoldable pub splice : Bytes → ℕ → Bytes → Bytes
splice b i x = take i b ++ (x ++ drop (i + length x) b)

-- The fields of an action record: "Byte 0 kind; byte 1 actor; byte 2 other user; byte 3 crew; bytes 4 and 5 cost; bytes 6 and 7 zero",
-- but for a founding: "takes rule 1 or 2 from action bytes 6 and 7", and from version 3 on kinds 4 and 7, which "carry the day in action bytes 6 and 7".
abbrev pub kind_in : Bytes → ℕ
kind_in x = get_or x 0 0

abbrev pub actor_in : Bytes → ℕ
actor_in x = get_or x 1 0

abbrev pub other_in : Bytes → ℕ
other_in x = get_or x 2 0

abbrev pub group_in : Bytes → ℕ
group_in x = get_or x 3 0

abbrev pub expense_in : Bytes → ℕ
expense_in x = u16_at x 4

abbrev pub rest_in : Bytes → ℕ
rest_in x = u16_at x 6
