use Rattle.month.proofs.Answers.{absent_beyond, absent_is}
use Rattle.month.proofs.is_absent.Goals as goal

pub returns-then-group : goal.returns-then-group
returns-then-group c = absent_beyond c.args.image.now c.args.group c.if-group.true

pub returns : goal.returns
returns c = absent_is c.args.image.now c.args.group _ _ c.counters_of-r.ensures c.nobody_in.ensures
