use Rattle.rows.proofs.Rows.{inside, part_sized}
use Rattle.std.proofs.Common.{arith}
use Rattle.format.proofs.Laws.{add_sub}
use Rattle.rows.proofs.part_at.Goals as goal

pub overflow_mul-at : goal.overflow_mul-at
overflow_mul-at g c = let z = inside g.row.SIZE c.args.c c.requires.1 c.requires.0 in omega arith

pub returns : goal.returns
returns g c = record { part = rw add_sub; sized = rw add_sub (part_sized g.row.SIZE c.args.c c.args.all.now c.requires.1 c.requires.0 c.requires.2) }
