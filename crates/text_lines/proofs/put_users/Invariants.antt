use Rattle.std.proofs.Common.{◌≡◌, ◌≤◌, ◌+◌, ◌*◌, ◌++◌, length, get_or}
use Rattle.text.specs.Text.{users_text}
use Rattle.text_lines.specs.Room.{line_room, no_line}
use Rattle.text_lines.proofs.put_users.Given as goal

abbrev pub invariant-loop-user : goal.invariant-loop-user
invariant-loop-user g l = (length l.text ≤ length l.initial.text + line_room * l.user) × (l.text ≡ l.initial.text ++ users_text l.user (λ u. get_or l.lines u no_line))
