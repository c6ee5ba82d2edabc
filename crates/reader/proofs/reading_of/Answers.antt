use Rattle.reader.proofs.Read.{no_reading, read_yes, read_no}
use Rattle.reader.proofs.reading_of.Goals as goal

pub returns-in_default : goal.returns-in_default
returns-in_default c =
    let r = c.args in
    no_reading r.kind c.in_default.ensures.1 r.actor r.other r.group r.expense r.rest r.unshared

pub returns : goal.returns
returns c =
    let r = c.args in
    read_yes r.kind r.actor r.other r.group r.expense r.rest r.unshared _ _ c.in-Ok.ensures c.fit.ensures c.if-not-fit.false _ c.deed.ensures.variant

pub returns-then-not-fit : goal.returns-then-not-fit
returns-then-not-fit c =
    let r = c.args in
    read_no r.kind r.actor r.other r.group r.expense r.rest r.unshared _ _ c.in-Ok.ensures c.fit.ensures c.if-not-fit.true
