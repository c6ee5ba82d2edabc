use Rattle.format.specs.Layout.{version_at}
use Rattle.format.specs.Bytes.{byte}
use Rattle.rules.specs.Tests.{all_of}
use Rattle.images.specs.Image.{version_ok_in}
use Rattle.std.proofs.Common.{ap, ◌∙◌, [], ◌∷◌, ◌+◌, eqb}
use Rattle.header.proofs.version_ok.Goals as goal

pub returns : goal.returns
unfolding version_ok_in
returns c v e = c.all.ensures ∙ ap (λ n. all_of (eqb (byte c.args.image.now version_at) n ∷ eqb (byte c.args.image.now (version_at + 1)) 0 ∷ [])) e
