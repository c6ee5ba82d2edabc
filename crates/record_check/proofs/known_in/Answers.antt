use Rattle.std.proofs.Common.{arith, ap, ◌∙◌}
use Rattle.rules.specs.Ledger.{ever_in}
use Rattle.rules.specs.Tests.{eight_at}
use Rattle.images.proofs.Codec.{bits_byte}
use Rattle.record_check.specs.Sets.{known_set}
use Rattle.record_check.proofs.known_in.Goals as goal

pub overflow_cast-result : goal.overflow_cast-result
overflow_cast-result c = let e = c.high_ever.ensures in let k = bits_byte (ever_in (eight_at c.read_counters-f.result)) in omega arith

pub returns : goal.returns
returns c = c.high_ever.ensures ∙ ap (λ l. known_set (eight_at l)) c.read_counters-f.ensures
