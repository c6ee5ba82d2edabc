use Rattle.format.specs.Layout.{replica_at, replica_count, reserved_at}
use Rattle.format.specs.Bytes.{byte}
use Rattle.rules.specs.Tests.{all_of}
use Rattle.images.specs.Image.{header_ok}
use Rattle.std.proofs.Common.{ap, ◌∙◌, [], ◌∷◌, ◌+◌, ltb, eqb}
use Rattle.header.proofs.header_ok.Goals as goal

pub returns : goal.returns
unfolding header_ok
returns c = c.all.ensures ∙ ap (λ b. all_of (ltb (byte c.args.image.now replica_at) replica_count ∷ b ∷ eqb (byte c.args.image.now reserved_at) 0 ∷ eqb (byte c.args.image.now (reserved_at + 1)) 0 ∷ [])) c.homes_ok-homes.ensures
