use Rattle.std.proofs.Common.{ap, bit_or, eqb}
use Rattle.record_check.proofs.marks_fit.Goals as goal

pub returns : goal.returns
returns c = ap (λ n. eqb (bit_or n (bit_or c.args.among 1)) (bit_or c.args.among 1)) c.marks_in-marks.ensures
