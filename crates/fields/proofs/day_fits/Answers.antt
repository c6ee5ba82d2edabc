use Rattle.fields.proofs.Days.{day_test}
use Rattle.std.proofs.Common.{◌≡◌, ◌+◌, ◌*◌, arith}
use Rattle.format.specs.Bytes.{byte, u16_at, expense_of}
use Rattle.fields.proofs.day_fits.Goals as goal

pub returns : goal.returns
unfolding expense_of
returns c =
    let e : c.number32-day.result ≡ byte c.args.part.now 40 + 256 * (byte c.args.part.now 41 + 256 * (0 + 256 * 0)) = c.number32-day.ensures in
    let a = (c.type_inv.part 40).fits in
    let b = (c.type_inv.part 41).fits in
    day_test (u16_at c.args.part.now 40) c.number32-day.result _ (omega arith) (omega arith) (omega arith) (omega arith)
