use Rattle.std.proofs.Common.{arith}
use Rattle.text_words.proofs.Places.{then}
use Rattle.text_words.proofs.lent.put_figure.Goals as goal

pub returns : goal.returns
returns c = (then c.put_bytes-next.ensures c.put_number.ensures.0, let w = c.put_bytes-next.ensures.behind in omega arith)
