use Rattle.std.proofs.Common.{arith}
use Rattle.usage.proofs.Laws.{product_le}
use Rattle.usage.proofs.product.Goals as goal

pub overflow_mul-result : goal.overflow_mul-result
overflow_mul-result c = omega (arith, product_le c.args.gifts _ c.requires.1 (c.requires.2 c.args.u))
