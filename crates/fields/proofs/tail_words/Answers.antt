use Rattle.fields.proofs.Words.{tail_none, undated_tail}
use Rattle.fields.proofs.tail_words.Goals as goal

pub returns-then-this-eq-EXPENSE_SIZE : goal.returns-then-this-eq-EXPENSE_SIZE
returns-then-this-eq-EXPENSE_SIZE g c = tail_none c.args.part.now _ _ c.share_words-shares.ensures c.read_u64.ensures

pub returns : goal.returns
returns g c = undated_tail g.row.SIZE c.args.part.now _ c.requires c.if-this-eq-EXPENSE_SIZE.false c.share_words-shares.ensures
