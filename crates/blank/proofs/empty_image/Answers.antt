use Rattle.std.proofs.Common.{◌∙◌, not, ap, ◌<◌, ltb, ltb-true, rules, arith}
use Rattle.rules.proofs.Basics.{and_left}
use Rattle.blank.proofs.Empty.{short, misfit, fitting, refused, laid_out}
use Rattle.blank.proofs.empty_image.Goals as goal

pub returns-in_default : goal.returns-in_default
returns-in_default c =
    let e = short c.args.image.now c.args.replica c.args.homes.now c.in_default.ensures.cases in
    record { code = e; bytes = refused _ _ _ 1 (omega arith) e }

pub overflow_cast-replica : goal.overflow_cast-replica
overflow_cast-replica c = let k : c.args.replica < 8 = ltb-true c.args.replica 8 (and_left (ltb c.args.replica 8) c.homes_fit-fits.result c.if-not-replica-fits.false) in search (rules, k)

pub returns-then-not-replica-fits : goal.returns-then-not-replica-fits
returns-then-not-replica-fits c =
    let whole = c.in-Some.ensures.cases in
    let e = misfit c.args.image.now c.args.replica c.args.homes.now _ whole.long c.homes_fit-fits.ensures (ap not c.if-not-replica-fits.true) in
    record { code = e; bytes = whole.same ∙ refused _ _ _ 4 (omega arith) e }

pub returns : goal.returns
returns c =
    let whole = c.in-Some.ensures.cases in
    let e = fitting c.args.image.now c.args.replica c.args.homes.now _ whole.long c.homes_fit-fits.ensures (ap not c.if-not-replica-fits.false) in
    record { code = e; bytes = laid_out _ _ _ _ _ e whole.long (rw whole.same at c.put_header.ensures) c.blank_tables.ensures }
