use Rattle.std.proofs.Common.{◌*◌, rules}
use Rattle.format.specs.Bytes.{group_of, u16_at}
use Rattle.eight.proofs.Eight.{eight_made}
use Rattle.codec.proofs.read_counters.Goals as goal

pub returns : goal.returns
unfolding group_of
returns c = eight_made 0 (λ u. u16_at c.args.part.now (2 * u)) c.from_fn.result c.from_fn.ensures.items.long (λ u k. let w = c.from_fn.ensures.items.at u 0 k in search rules)
