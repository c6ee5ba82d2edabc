use Rattle.std.proofs.Common.{sym, ap, cond, eq-eqb, ne_eqb}
use Rattle.record_check.proofs.own_mark.Goals as goal

pub returns-then-home-r : goal.returns-then-home-r
returns-then-home-r c = sym (ap (λ t. cond t c.args.bit 1) (eq-eqb c.args.home c.args.r c.if-home-r.true))

pub returns : goal.returns
returns c = sym (ap (λ t. cond t c.args.bit 1) (ne_eqb c.args.home c.args.r c.if-home-r.false))
