use Rattle.std.proofs.Common.{refl, append_assoc}
use Rattle.text.specs.Text.{crew_line}
use Rattle.text_lines.proofs.put_crew.Goals as goal

pub returns-clause-text : goal.returns-clause-text
unfolding crew_line
returns-clause-text g c = rw (c.end_line.ensures, c.figure-4.ensures.text, c.figure-3.ensures.text, c.figure-2.ensures.text, c.figure.ensures.text) (simp append_assoc refl)
