use Rattle.std.proofs.Common.{◌++◌, ap, append_assoc, rules, arith}
use Rattle.gather.proofs.Summed.{sums_below}
use Rattle.text_groups.proofs.Crews.{crew_absent, crew_present, eight_lines}
use Rattle.text_groups.proofs.put_group.Goals as goal

pub returns-then-nobody_in-clause-text : goal.returns-then-nobody_in-clause-text
returns-then-nobody_in-clause-text g c =
    let a = c.args in
    rw (crew_absent a.image.now a.group _ c.counters_of-r.ensures _ c.nobody_in.ensures c.if-nobody_in.true) (search rules)

pub report_from-report-requires : goal.report_from-report-requires
report_from-report-requires g c = sums_below c.args.image.now c.fits-image _ c.args.group _ c.requires.1

pub put_users-requires : goal.put_users-requires
put_users-requires g c =
    let a = c.args in
    (search rules, (omega arith, eight_lines a.image.now a.group _ c.counters_of-r.ensures _ c.nobody_in.ensures _ _ c.requires.1 c.report_from-report.ensures c.if-nobody_in.false))

pub returns-clause-text : goal.returns-clause-text
returns-clause-text g c =
    let a = c.args in
    let both = crew_present a.image.now a.group _ c.counters_of-r.ensures _ c.nobody_in.ensures _ _ c.requires.1 c.report_from-report.ensures c.if-nobody_in.false in
    rw (c.put_users.ensures.text, c.put_crew.ensures.text, append_assoc) (ap (λ t. a.text.now ++ t) both)
