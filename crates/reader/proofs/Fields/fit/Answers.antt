use Rattle.reader.proofs.Read.{fits_is}
use Rattle.reader.proofs.Fields.fit.Goals as goal

pub returns : goal.returns
returns c =
    let r = c.args.self in
    fits_is r.kind r.actor r.other r.group r.expense r.rest c.args.unshared _ _ _ _ _ _ _ _ _ c.names_other.ensures c.names_group.ensures c.names_expense.ensures c.states_shares.ensures c.field_fits-other_fits.ensures c.field_fits-group_fits.ensures c.field_fits-expense_fits.ensures c.rest_fits-rest_fits.ensures c.all.ensures
