use Rattle.val.proofs.val_empty.Goals as goal

pub returns : goal.returns
returns c =
    let both = c.empty_image.ensures in record { code = both.code; bytes = both.bytes }
