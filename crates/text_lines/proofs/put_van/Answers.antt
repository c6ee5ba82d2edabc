use Rattle.std.proofs.Common.{refl, append_assoc}
use Rattle.text.specs.Text.{van_text}
use Rattle.text_lines.proofs.put_van.Goals as goal

pub returns-clause-text : goal.returns-clause-text
unfolding van_text
returns-clause-text g c = rw (c.end_line.ensures, c.figure.ensures.text) (simp append_assoc refl)
