-- How much room a number may take in a text.
use Rattle.std.specs.Prelude.{ℕ}

-- A number of 64 bits has at most 20 digits, and with its sign 21 signs.
abbrev pub number_room : ℕ
number_room = 20

abbrev pub signed_room : ℕ
signed_room = 21
