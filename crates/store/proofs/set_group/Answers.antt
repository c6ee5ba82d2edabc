use Rattle.store.proofs.Behind.{group_behind}
use Rattle.store.proofs.set_group.Goals as goal

pub returns : goal.returns
returns c = group_behind c.args.g c.args.part.now c.put_counters.ensures c.put_u16.ensures
