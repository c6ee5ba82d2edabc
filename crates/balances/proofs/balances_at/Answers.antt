use Rattle.gather.proofs.Summed.{rows_below, taken_sums, sums_below}
use Rattle.balances.proofs.Groups.{absent_eight, present_eight}
use Rattle.balances.proofs.balances_at.Goals as goal

pub returns-then-nobody_in : goal.returns-then-nobody_in
returns-then-nobody_in c = let a = c.args in absent_eight a.image.now a.g _ c.counters_of-r.ensures _ c.nobody_in.ensures c.if-nobody_in.true

pub sums_at-requires : goal.sums_at-requires
sums_at-requires c =
    let a = c.args in
    (c.requires.0, rows_below a.image.now c.fits-image c.requires.1 a.rows.now c.requires.2 a.g c.requires.0)

pub report_from-report-requires : goal.report_from-report-requires
report_from-report-requires c =
    let a = c.args in
    sums_below a.image.now c.fits-image _ a.g _ (taken_sums a.image.now c.fits-image c.requires.1 a.rows.now c.requires.2 a.g c.requires.0 _ c.sums_at.ensures)

pub returns : goal.returns
returns c =
    let a = c.args in
    let t = taken_sums a.image.now c.fits-image c.requires.1 a.rows.now c.requires.2 a.g c.requires.0 _ c.sums_at.ensures in
    present_eight a.image.now a.g _ c.counters_of-r.ensures _ c.nobody_in.ensures _ _ _ t c.report_from-report.ensures c.balances_of.ensures c.if-nobody_in.false
