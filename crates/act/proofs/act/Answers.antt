use Rattle.std.proofs.Common.{sym}
use Rattle.act.proofs.Answered.{unchecked, long}
use Rattle.act.proofs.act.Goals as goal

pub returns-in_err-check : goal.returns-in_err-check
returns-in_err-check c =
    let both = unchecked c.args.image.now c.args.bytes.now _ _ c.from_residual.ensures.1 c.in_err-check.ensures in
    record { code = both.0; bytes = both.1 }

pub unwrap-image-requires : goal.unwrap-image-requires
unwrap-image-requires c = c.as_mut_array.ensures.variant.1 (long c.args.image.now (sym c.in_ok-check.ensures))
