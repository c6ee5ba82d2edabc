use Rattle.std.proofs.Common.{ap, arith}
use mir.Facts.{to_z-of_z}
use Rattle.text.specs.Text.{signed}
use Rattle.text_words.proofs.Places.{same_text, then}
use Rattle.text_words.proofs.lent.put_signed_figure.Goals as goal

pub returns : goal.returns
returns c = (then c.put_bytes-next.ensures (same_text (ap signed (to_z-of_z c.ranges.n)) c.put_signed.ensures.0), let w = c.put_bytes-next.ensures.behind in omega arith)
