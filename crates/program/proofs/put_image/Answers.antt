use Rattle.std.proofs.Common.{◌≡◌, ◌∙◌, ◌++◌, ap, sym, rules, arith}
use Rattle.refusals.proofs.AboveZero.{fault_above_zero}
use Rattle.images.proofs.Round.{long}
use Rattle.program.proofs.Inputs.{image_bad, image_good}
use Rattle.program.proofs.put_image.Goals as goal

pub unwrap-requires : goal.unwrap-requires
unwrap-requires g c = c.as_array.ensures.variant.1 (long c.args.image.now (record { octets = λ i. (c.type_inv.image i).fits; passes = sym c.in-Ok.ensures }))

pub put_statement-requires : goal.put_statement-requires
put_statement-requires g c = let same : c.unwrap.result.now ≡ c.args.image.now = search rules in (search rules, (omega arith, rw same (sym c.in-Ok.ensures)))

pub returns-in-Ok-clause-text : goal.returns-in-Ok-clause-text
returns-in-Ok-clause-text g c =
    let same : c.unwrap.result.now ≡ c.args.image.now = search rules in
    rw same at c.put_statement.ensures.text ∙ ap (λ t. c.args.text.now ++ t) (image_good c.args.image.now c.in-Ok.ensures)

pub returns-in-Err-clause-text : goal.returns-in-Err-clause-text
returns-in-Err-clause-text g c =
    let refused = image_bad c.args.image.now _ (c.number.ensures ∙ c.in-Err.ensures) (λ z. fault_above_zero _ (sym c.number.ensures ∙ z)) in
    c.put_refused.ensures.text ∙ ap (λ t. c.args.text.now ++ t) refused
