use Rattle.std.proofs.Common.{arith}
use Rattle.std.proofs.lemmas.Grind.{common_steps}
use Rattle.usage.proofs.Keys.{cents_made}
use Rattle.usage.proofs.cents_of.Goals as goal

pub returns : goal.returns
returns c = cents_made c.args.f c.args.r c.args.q c.keys_of-k.result c.args.left _ c.keys_of-k.ensures (grind (arith, common_steps))
