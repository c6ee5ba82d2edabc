use Rattle.std.proofs.Common.{◌≡◌, sym, ap, ◌∙◌, ◌∷◌, ◌++◌, pos, nat_abs, append_assoc}
use lib.Signed.{lt_z}
use mir.Facts.{to_z-of_z}
use Rattle.text.specs.Text.{decimal, signed}
use Rattle.text_words.proofs.Numbers.{signed_below, signed_from_zero}
use Rattle.text_words.proofs.Text.signed.Goals as goal

pub returns-then-n-lt0-clause-text : goal.returns-then-n-lt0-clause-text
returns-then-n-lt0-clause-text g c =
    let r = to_z-of_z c.ranges.n in
    let e : 45 ∷ decimal c.magnitude.result ≡ signed c.args.n =
    ap (λ k. 45 ∷ decimal k) (c.magnitude.ensures ∙ ap nat_abs r) ∙ signed_below c.args.n (ap (λ y. lt_z y (pos 0)) (sym r) ∙ c.if-n-lt0.true) in
    rw (c.number.ensures.text, c.bytes.ensures, append_assoc) (ap (λ t. c.args.self.now ++ t) e)

pub returns-clause-text : goal.returns-clause-text
returns-clause-text g c =
    let r = to_z-of_z c.ranges.n in
    let e : decimal c.unsigned_abs.result ≡ signed c.args.n =
    ap decimal (c.unsigned_abs.ensures.value ∙ ap nat_abs r) ∙ signed_from_zero c.args.n (ap (λ y. lt_z y (pos 0)) (sym r) ∙ c.if-n-lt0.false) in
    c.number-2.ensures.text ∙ ap (λ t. c.args.self.now ++ t) e
