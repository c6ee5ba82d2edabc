use Rattle.std.proofs.Common.{◌+◌, ◌*◌, sym, ◌∙◌}
use Rattle.format.specs.Bytes.{expense_of, shares_of, u32_at}
use Rattle.images.proofs.Codec.{eight_at_lem}
use Rattle.fields.proofs.share_of.Goals as goal

pub returns : goal.returns
unfolding expense_of shares_of
returns c = c.read_u32.ensures ∙ sym (eight_at_lem (λ w. u32_at c.args.part.now (8 + 4 * w)) c.args.u c.requires.0)
