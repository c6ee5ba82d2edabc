use Rattle.std.proofs.Common.{◌*◌}
use Rattle.images.specs.Image.{decode}
use Rattle.gather.specs.Rows.{RowsTo}
use Rattle.gather.proofs.Rows.add_all.Given as goal

abbrev pub invariant-loop-eight : goal.invariant-loop-eight
invariant-loop-eight l = RowsTo (decode l.image) (8 * l.eight) l.self
