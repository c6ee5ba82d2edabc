use Rattle.std.proofs.Common.{eq-eqb, ne_eqb, ◌%◌}
use Rattle.parts.proofs.gift_of.Goals as goal

pub returns-then-counter-eq1 : goal.returns-then-counter-eq1
returns-then-counter-eq1 c = rw (eq-eqb (c.args.counter % 2) 1 c.if-counter-eq1.true)

pub returns : goal.returns
returns c = rw (ne_eqb _ _ c.if-counter-eq1.false) c.saturating_sub.ensures
