use Rattle.std.proofs.Common.{◌≡◌, ◌∙◌, ap, [], ◌∷◌, get_or, take, eqb, arith}
use Rattle.std.proofs.lemmas.Grind.{common_steps}
use lib.Pointwise.{pointwise}
use Rattle.images.specs.Image.{mark_ok}
use Rattle.rules.specs.Tests.{all_of}
use Rattle.header.proofs.mark_ok.Goals as goal

pub returns : goal.returns
unfolding mark_ok all_of
returns c =
    let s = c.args.image.now in
    let e : take 3 s ≡ get_or s 0 0 ∷ get_or s 1 0 ∷ get_or s 2 0 ∷ [] = grind (arith, common_steps) in
    c.eq.ensures ∙ ap (λ l. pointwise eqb l (86 ∷ 65 ∷ 76 ∷ [])) e
