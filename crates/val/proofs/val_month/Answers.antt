use Rattle.val.proofs.val_month.Goals as goal

pub returns : goal.returns
returns c =
    let both = c.month_raws.ensures in record { code = both.code; raws = both.raws }
