-- How much room the lines of a text may take, and what stands for a line that is not there.
use Rattle.std.specs.Prelude.{ℕ, ◌+◌, ◌*◌, pos}
use Rattle.format.specs.Layout.{user_count, group_count}
use Rattle.format.specs.declared.Line.{Line}
use Rattle.text_words.specs.Room.{number_room, signed_room}

-- Words, numbers and a line feed.
abbrev pub van_room : ℕ
van_room = 4 + number_room + 1

abbrev pub refused_room : ℕ
refused_room = 8 + number_room + 1

abbrev pub crew_room : ℕ
crew_room = 5 + number_room + 9 + number_room + 7 + number_room + 7 + number_room + 1

abbrev pub standing_room : ℕ
standing_room = 5 + number_room + 9 + number_room + 5 + signed_room

abbrev pub outcome_room : ℕ
outcome_room = 6 + number_room + 6 + number_room + 9 + signed_room + 1

abbrev pub line_room : ℕ
line_room = standing_room + outcome_room

abbrev pub users_room : ℕ
users_room = user_count * line_room

-- A crew with its users, all crews, the whole.
abbrev pub group_room : ℕ
group_room = crew_room + users_room

abbrev pub groups_room : ℕ
groups_room = group_count * group_room

abbrev pub text_room : ℕ
text_room = van_room + groups_room

-- What stands for a line beyond the eight.
abbrev pub no_line : Line
no_line = record { counter = 0; raw = pos 0; gift = 0; part = 0; balance = pos 0 }
