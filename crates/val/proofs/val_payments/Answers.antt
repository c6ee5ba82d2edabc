use Rattle.val.proofs.val_payments.Goals as goal

pub returns : goal.returns
returns c =
    let both = c.list_payments.ensures in record { code = both.code; cents = both.cents }
