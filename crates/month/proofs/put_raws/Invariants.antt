use Rattle.std.proofs.Common.{◌≡◌, length}
use Rattle.std.proofs.Math.Seq.{paste}
use Rattle.format.specs.Layout.{user_count}
use Rattle.month.specs.Raws.{raws_from}
use Rattle.month.proofs.put_raws.Given as goal

abbrev pub invariant-loop-u : goal.invariant-loop-u
invariant-loop-u l = (length l.raws ≡ user_count) × (l.raws ≡ paste l.initial.raws 0 (raws_from l.paid l.held) l.u)
