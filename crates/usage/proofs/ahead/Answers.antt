use Rattle.usage.proofs.ahead.Goals as goal

pub returns : goal.returns
returns c = c.one.ensures
