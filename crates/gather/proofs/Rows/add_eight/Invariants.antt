use Rattle.images.specs.Image.{decode}
use Rattle.gather.specs.Rows.{RowsTo}
use Rattle.gather.proofs.Rows.add_eight.Given as goal

abbrev pub invariant-loop-c : goal.invariant-loop-c
invariant-loop-c l = RowsTo (decode l.image) l.c l.self
