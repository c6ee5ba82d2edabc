use Rattle.reader.proofs.Read.{reading_is}
use Rattle.reader.proofs.action_in.Goals as goal

pub returns : goal.returns
returns c = reading_is c.args.bytes.now c.args.unshared _ _ _ c.read_u16.ensures c.read_u16-2.ensures c.reading_of.ensures
