use Rattle.fields.proofs.Words.{head_is}
use Rattle.fields.proofs.head_blank.Goals as goal

pub returns : goal.returns
returns c = head_is c.args.part.now c.read_u64.result c.read_u64.ensures
