use Rattle.std.proofs.Common.{arith}
use Rattle.blank.proofs.Blank.{zeros_then_marks_are_blanked}
use Rattle.blank.proofs.blank_tables.Goals as goal

pub returns : goal.returns
returns c = zeros_then_marks_are_blanked _ _ _ (omega arith) (c.fill.ensures.after (λ y h. h)) c.mark_absent.ensures
