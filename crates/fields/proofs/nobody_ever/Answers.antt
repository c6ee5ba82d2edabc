use Rattle.fields.proofs.Words.{nobody_words}
use Rattle.fields.proofs.nobody_ever.Goals as goal

pub returns : goal.returns
returns c = nobody_words c.args.part.now c.read_u64-a.result c.read_u64-b.result c.read_u64-a.ensures c.read_u64-b.ensures
