use Rattle.std.proofs.Common.{◌≡◌, ◌≤◌, ◌+◌, ◌*◌, ◌++◌, length}
use Rattle.images.specs.Image.{decode}
use Rattle.text.specs.Text.{crews_text}
use Rattle.text_lines.specs.Room.{group_room}
use Rattle.text_groups.proofs.put_groups.Given as goal

abbrev pub invariant-loop-g : goal.invariant-loop-g
invariant-loop-g g l = (length l.text ≤ length l.initial.text + group_room * l.g) × (l.text ≡ l.initial.text ++ crews_text l.g (decode l.image))
