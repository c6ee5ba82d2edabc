use Rattle.fields.proofs.Words.{low_fits}
use Rattle.std.proofs.Common.{◌/◌, ◌%◌, ltb, leb, sym, ap}
use Rattle.format.specs.Layout.{most_total}
use Rattle.format.specs.Bytes.{shares_of}
use Rattle.rules.proofs.Basics.{and_left, and_right}
use Rattle.rules.proofs.Accepted.{ltb_lt}
use Rattle.fields.proofs.total_fits.Goals as goal

pub returns-then-w : goal.returns-then-w
returns-then-w c = sym (low_fits (shares_of c.args.part.now) c.share_words-w.result c.share_words-w.ensures (ltb_lt (c.share_words-w.result % 4294967296) 67108864 (and_left (ltb (c.share_words-w.result % 4294967296) 67108864) (ltb (c.share_words-w.result / 4294967296) 67108864) c.if-w.true)) (ltb_lt (c.share_words-w.result / 4294967296) 67108864 (and_right (ltb (c.share_words-w.result % 4294967296) 67108864) (ltb (c.share_words-w.result / 4294967296) 67108864) c.if-w.true)))

pub returns : goal.returns
returns c = ap (λ n. leb n most_total) c.total_in.ensures.0
