use Rattle.std.proofs.Common.{ap, ◌∙◌, ◌++◌}
use Rattle.text_words.proofs.Numbers.{decimal_is}
use Rattle.text_words.proofs.Text.number.Goals as goal

pub returns-clause-text : goal.returns-clause-text
returns-clause-text g c =
    let digits = c.decimal-count.ensures.digits ∙ decimal_is c.args.n c.decimal-count.result c.decimal-count.ensures.len in
    c.bytes.ensures ∙ ap (λ t. c.args.self.now ++ t) digits
