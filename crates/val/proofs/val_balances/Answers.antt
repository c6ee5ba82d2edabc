use Rattle.val.proofs.val_balances.Goals as goal

pub returns : goal.returns
returns c =
    let both = c.all_balances.ensures in record { code = both.code; balances = both.balances }
