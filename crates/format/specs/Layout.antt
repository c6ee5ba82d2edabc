-- The numbers of document 01, 'The image' and 'The action', once; as document 02 raises the image's version. As abbrevs they are numerals to omega.
-- What differs from version to version stands once for all of them, under a name with `In`; the plain name is that of the current version.
-- src/lib.rt has the current version's numbers for code.
use Rattle.std.specs.Prelude.{ℕ, ◌+◌, ◌*◌, List, [], ◌∷◌}

-- The versions of the image, oldest first, and the current one: "Every other call and the program take the new version only."
pub data Version : Type 0 where
  v1 : Version
  v2 : Version
  v3 : Version

abbrev pub current : Version
current = v3

-- "Bytes 0 to 2 are the ASCII letters VAL. Bytes 3 and 4: version."
abbrev pub mark : List ℕ
mark = 86 ∷ 65 ∷ 76 ∷ []

abbrev pub number_in : Version → ℕ
number_in v1 = 1
number_in v2 = 2
number_in v3 = 3

-- Users 0 to 7 and replicas (the paper's vans) 0 to 7.
abbrev pub user_count : ℕ
user_count = 8

abbrev pub replica_count : ℕ
replica_count = 8

-- "Byte 5: van. Bytes 6 to 13: home van of users 0 to 7. Bytes 14 and 15: zero."
abbrev pub version_at : ℕ
version_at = 3

abbrev pub replica_at : ℕ
replica_at = 5

abbrev pub homes_at : ℕ
homes_at = 6

abbrev pub reserved_at : ℕ
reserved_at = 14

-- "16 crews of 16 bytes from byte 16." Version 2 "gives each crew a 16-bit rule number after its counters".
abbrev pub groups_at : ℕ
groups_at = 16

abbrev pub group_count : ℕ
group_count = 16

abbrev pub group_size_in : Version → ℕ
group_size_in v1 = 16
group_size_in v2 = 18
group_size_in v3 = 18

abbrev pub groups_size_in : Version → ℕ
groups_size_in v = group_count * group_size_in v

-- "512 costs of 40 bytes", behind the crews. Version 3 "adds a 16-bit day to each cost after its shares".
abbrev pub expenses_at_in : Version → ℕ
expenses_at_in v = groups_at + groups_size_in v

abbrev pub expense_count : ℕ
expense_count = 512

abbrev pub expense_size_in : Version → ℕ
expense_size_in v1 = 40
expense_size_in v2 = 40
expense_size_in v3 = 42

abbrev pub expenses_size_in : Version → ℕ
expenses_size_in v = expense_count * expense_size_in v

-- "The image: 20,752 bytes"; version 2: "the image is 20,784 bytes"; version 3: "The image is 21,808 bytes; a cost is 42".
abbrev pub image_size_in : Version → ℕ
image_size_in v = expenses_at_in v + expenses_size_in v

-- Where group g and expense c begin.
abbrev pub group_place_in : Version → ℕ → ℕ
group_place_in v g = groups_at + g * group_size_in v

abbrev pub expense_place_in : Version → ℕ → ℕ
expense_place_in v c = expenses_at_in v + c * expense_size_in v

-- The same of the current version.
abbrev pub group_size : ℕ
group_size = group_size_in current

abbrev pub groups_size : ℕ
groups_size = groups_size_in current

abbrev pub expenses_at : ℕ
expenses_at = expenses_at_in current

abbrev pub expense_size : ℕ
expense_size = expense_size_in current

abbrev pub expenses_size : ℕ
expenses_size = expenses_size_in current

abbrev pub image_size : ℕ
image_size = image_size_in current

abbrev pub group_place : ℕ → ℕ
group_place = group_place_in current

abbrev pub expense_place : ℕ → ℕ
expense_place = expense_place_in current

-- "payer (0 to 7, or 255 for no cost); crew (0 to 15, 255 for none)"
abbrev pub no_expense : ℕ
no_expense = 255

abbrev pub no_group : ℕ
no_group = 255

-- What a replica owns: "crew div 2", "cost div 64".
abbrev pub groups_each : ℕ
groups_each = 2

abbrev pub expenses_each : ℕ
expenses_each = 64

-- "shares total 1 to 1,000,000,000"; the last counter and the last version.
abbrev pub most_total : ℕ
most_total = 1_000_000_000

abbrev pub last_counter : ℕ
last_counter = 65_535

abbrev pub last_version : ℕ
last_version = 4_294_967_295

-- "Founding a crew takes rule 1 or 2" (document 02, A3): the rules by which gifts go to members, equally or by use.
abbrev pub equal_rule : ℕ
equal_rule = 1

abbrev pub use_rule : ℕ
use_rule = 2

-- "a share of 500 cents or fewer counts as acknowledged": the largest small share (document 02, A4).
abbrev pub small_share : ℕ
small_share = 500

-- "days count from 1 January 2000, day 0, up to 31 December 2099, day 36,524"; "Months are numbered 0 to 1199 from January 2000" (document 02, A6).
abbrev pub last_day : ℕ
last_day = 36_524

-- "65,535 means undated and stands in costs raised from older images"
abbrev pub undated : ℕ
undated = 65_535

abbrev pub month_count : ℕ
month_count = 1200

-- "The action: 40 bytes."
abbrev pub action_size : ℕ
action_size = 40

-- "kind, 1 to 10"
abbrev pub kind_count : ℕ
kind_count = 10

-- "an eight by eight table of cents, written row by row to 64 lent numbers" (document 02, A1)
abbrev pub payments_size : ℕ
payments_size = user_count * user_count

-- "a lent slice of 128 signed 64-bit numbers, crew by crew" (document 02, A8)
abbrev pub balances_size : ℕ
balances_size = group_count * user_count
