use Rattle.std.proofs.Common.{length-take, arith}
use Rattle.program.proofs.Inputs.{at_start}
use Rattle.program.proofs.lent.program_text.Goals as goal

pub returns : goal.returns
returns c =
    record { count = (omega arith, simp length-take (omega arith)); text = at_start _ _ _ _ c.put_program.ensures.0 (omega arith) }
