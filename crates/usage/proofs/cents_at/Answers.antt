use native.Mathlib.Omega.{arith}
use mathlib.Core.Path.{sym}
use borrow.Author.Tests.{eq-eqb, ne_eqb, lt-ltb, le-ltb}
use Rattle.usage.proofs.cents_at.Goals as goal

pub returns-then-f-ne1 : goal.returns-then-f-ne1
returns-then-f-ne1 c = rw (ne_eqb _ _ c.if-f-ne1.true)

pub returns-then-rank_of-left : goal.returns-then-rank_of-left
returns-then-rank_of-left c = rw (eq-eqb _ _ c.if-f-ne1.false, sym c.rank_of.ensures, lt-ltb _ _ c.if-rank_of-left.true)

pub returns : goal.returns
returns c = rw (eq-eqb _ _ c.if-f-ne1.false, sym c.rank_of.ensures, le-ltb _ _ c.if-rank_of-left.false) (omega arith)
