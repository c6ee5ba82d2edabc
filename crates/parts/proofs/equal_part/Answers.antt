use borrow.Author.Tests.{eq-eqb, ne_eqb, lt-ltb, le-ltb}
use native.Mathlib.Omega.{arith}
use Rattle.parts.proofs.equal_part.Goals as goal

pub returns-then-counter-ne1 : goal.returns-then-counter-ne1
returns-then-counter-ne1 c = rw (ne_eqb _ _ c.if-counter-ne1.true)

pub returns-then-rank-rest : goal.returns-then-rank-rest
returns-then-rank-rest c = rw (eq-eqb _ _ c.if-counter-ne1.false, lt-ltb _ _ c.if-rank-rest.true)

pub returns : goal.returns
returns c = rw (eq-eqb _ _ c.if-counter-ne1.false, le-ltb _ _ c.if-rank-rest.false) (omega arith)
