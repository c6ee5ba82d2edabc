use Rattle.reader.proofs.Read.{no_fields, fit_by_number}
use Rattle.reader.proofs.fields_fit.Goals as goal

pub returns-in_default : goal.returns-in_default
returns-in_default c =
    let r = c.args in
    no_fields r.kind c.in_default.ensures.1 r.actor r.other r.group r.expense r.rest r.unshared

pub returns : goal.returns
returns c =
    let r = c.args in
    fit_by_number r.kind r.actor r.other r.group r.expense r.rest r.unshared _ _ c.in-Ok.ensures c.fit.ensures
