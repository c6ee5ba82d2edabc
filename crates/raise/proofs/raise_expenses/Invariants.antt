use Rattle.std.proofs.Common.{◌≡◌, ◌++◌, length, take}
use Rattle.format.specs.Layout.{expenses_at, expense_place, image_size}
use Rattle.images.specs.Image.{table}
use Rattle.raise.specs.Dated.{dated_part}
use Rattle.raise.proofs.raise_expenses.Given as goal

abbrev pub invariant-loop-c : goal.invariant-loop-c
invariant-loop-c l = (length l.image ≡ image_size) × (take (expense_place l.c) l.image ≡ take expenses_at l.initial.image ++ table l.c (dated_part l.all))
