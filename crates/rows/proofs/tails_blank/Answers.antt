use Rattle.rows.proofs.Rows.{every_none, words_next, every_eight}
use Rattle.fields.proofs.Words.{part_of}
use Rattle.std.proofs.Common.{◌+◌, ap, ◌∙◌, arith}
use Rattle.format.specs.Bytes.{expense_of}
use Rattle.fields.specs.Fields.{among, blank_tail}
use Rattle.rows.proofs.tails_blank.Goals as goal

pub loop-i-init : goal.loop-i-init
loop-i-init g c = every_none (λ j. blank_tail (expense_of (among g.row.SIZE c.args.all.now (c.args.c + j))))

pub loop-i-preserved : goal.loop-i-preserved
loop-i-preserved g c = words_next c.loop-i.i (λ j. blank_tail (expense_of (among g.row.SIZE c.args.all.now (c.args.c + j)))) _ _ c.loop-i.invariant (c.tail_words-words.ensures ∙ ap (λ p. blank_tail (expense_of p)) c.part_at.ensures.part)

pub returns : goal.returns
returns g c = every_eight c.loop-i.i (λ j. blank_tail (expense_of (among g.row.SIZE c.args.all.now (c.args.c + j)))) (omega arith) c.loop-i.invariant

pub tail_words-words-requires : goal.tail_words-words-requires
tail_words-words-requires g c = part_of g.row.SIZE c.part_at.result.now c.requires.1 c.part_at.ensures.sized
