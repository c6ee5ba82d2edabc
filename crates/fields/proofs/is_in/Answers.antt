use Rattle.fields.proofs.Words.{in_is}
use Rattle.std.proofs.Common.{◌*◌, ◌∙◌, arith}
use Rattle.format.specs.Bytes.{expense_of, byte}
use Rattle.fields.proofs.is_in.Goals as goal

pub returns : goal.returns
unfolding expense_of
returns c =
    let part = c.type_inv.part in
    in_is (byte c.args.part.now 0) (byte c.args.part.now 1) c.args.g c.from-both.result (256 * c.from-first.result) _ (part 0).fits (c.from-both.ensures ∙ c.read_u16.ensures) (omega arith) (omega arith) (omega arith) (part 1).fits (omega arith)
