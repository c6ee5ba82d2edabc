use Rattle.std.proofs.Common.{refl, append_assoc}
use mir.Facts.{to_z-of_z}
use Rattle.text.specs.Text.{standing_text}
use Rattle.text_lines.proofs.put_standing.Goals as goal

pub returns-clause-text : goal.returns-clause-text
unfolding standing_text
returns-clause-text g c = rw (c.signed_figure.ensures.text, c.figure-2.ensures.text, c.figure.ensures.text, to_z-of_z c.ranges.raw) (simp append_assoc refl)
