use Rattle.std.proofs.Common.{◌≡◌, ◌∙◌, ◌++◌, ap, sym, rules, arith}
use Rattle.refusals.proofs.AboveZero.{above_zero}
use Rattle.program.proofs.Inputs.{joined_bad, own_long, joined_sound, joined_good}
use Rattle.program.proofs.put_joined.Goals as goal

pub unwrap-requires : goal.unwrap-requires
unwrap-requires g c =
    let a = c.args in
    c.as_array.ensures.variant.1 (let l = own_long a.own.now a.other.now c.in-Ok.ensures.code (search rules) in omega arith)

pub put_statement-requires : goal.put_statement-requires
put_statement-requires g c =
    let a = c.args in
    let m = c.in-Ok.ensures in
    let same : c.unwrap.result.now ≡ c.merge.new.own = search rules in
    (search rules, (omega arith, rw same (joined_sound a.own.now a.other.now m.code (λ i. (c.slice_known-1.given i).fits) (λ i. (c.type_inv.other i).fits) _ m.bytes)))

pub returns-in-Ok-clause-text : goal.returns-in-Ok-clause-text
returns-in-Ok-clause-text g c =
    let same : c.unwrap.result.now ≡ c.merge.new.own = search rules in
    rw same at c.put_statement.ensures.text ∙ ap (λ t. c.args.text.now ++ t) (joined_good c.args.own.now c.args.other.now c.in-Ok.ensures.code _ c.in-Ok.ensures.bytes)

pub returns-in-Err-clause-text : goal.returns-in-Err-clause-text
returns-in-Err-clause-text g c =
    let refused = joined_bad c.args.own.now c.args.other.now _ (c.number.ensures ∙ c.in-Err.ensures.code) (λ z. above_zero _ (sym c.number.ensures ∙ z)) in
    c.put_refused.ensures.text ∙ ap (λ t. c.args.text.now ++ t) refused
