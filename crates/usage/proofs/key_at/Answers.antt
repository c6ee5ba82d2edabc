use native.Mathlib.Omega.{arith}
use borrow.Author.Tests.{eq-eqb, ne_eqb}
use Rattle.usage.proofs.key_at.Goals as goal

pub returns-then-f-u-ne1 : goal.returns-then-f-u-ne1
returns-then-f-u-ne1 c = rw (ne_eqb _ _ c.if-f-u-ne1.true)

pub overflow_mul-result : goal.overflow_mul-result
overflow_mul-result c = omega (arith, c.requires.1 c.args.u)

pub overflow_add-result : goal.overflow_add-result
overflow_add-result c = omega (arith, c.requires.1 c.args.u)

pub returns : goal.returns
returns c = rw (eq-eqb _ _ c.if-f-u-ne1.false)
