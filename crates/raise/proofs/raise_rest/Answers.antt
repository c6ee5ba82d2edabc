use Rattle.std.proofs.Common.{◌∙◌, refl, ap₂, arith}
use lib.Seq.{sets}
use Rattle.images.specs.Image.{header, home_of, replica_of}
use Rattle.rules.specs.Tests.{eight_at}
use Rattle.raise.proofs.Raised.{headed}
use Rattle.raise.proofs.raise_rest.Goals as goal

pub returns : goal.returns
returns c = headed c.args.image.now _ (header (home_of c.args.old.now) (replica_of c.args.old.now)) _ _ refl (omega arith) (c.put_header.ensures ∙ ap₂ (λ f r. sets c.args.image.now 0 (header (eight_at f) r)) c.homes_of.ensures c.replica_of.ensures) c.raise_expenses.ensures
