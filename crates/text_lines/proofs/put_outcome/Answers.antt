use Rattle.std.proofs.Common.{refl, append_assoc}
use mir.Facts.{to_z-of_z}
use Rattle.text.specs.Text.{outcome_text}
use Rattle.text_lines.proofs.put_outcome.Goals as goal

pub returns-clause-text : goal.returns-clause-text
unfolding outcome_text
returns-clause-text g c = rw (c.end_line.ensures, c.signed_figure.ensures.text, c.figure-2.ensures.text, c.figure.ensures.text, to_z-of_z c.ranges.balance) (simp append_assoc refl)
