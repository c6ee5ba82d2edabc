use borrow.Author.Tests.{eq-eqb, ne_eqb}
use native.Mathlib.Omega.{arith}
use Prim.Native.Nat.{◌%◌}
use Rattle.rules.specs.Tests.{eight_at}
use Rattle.usage.proofs.counted.Goals as goal

pub returns-then-f-u-eq1 : goal.returns-then-f-u-eq1
returns-then-f-u-eq1 c = (rw (eq-eqb (eight_at c.args.f c.args.u % 2) 1 c.if-f-u-eq1.true), c.requires.1 c.args.u)

pub returns : goal.returns
returns c = (rw (ne_eqb (eight_at c.args.f c.args.u % 2) 1 c.if-f-u-eq1.false), omega arith)
