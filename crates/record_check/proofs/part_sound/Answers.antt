use Rattle.record_check.proofs.Records.{mark_is, absent_is_sound, day_fails, day_passes, no_share, no_marks, too_much, by_group}
use Rattle.std.proofs.Common.{◌/◌, false, eqb, refl, sym, ap, ◌∙◌, arith, eq-eqb, ne_eqb}
use Rattle.format.specs.Bytes.{expense_of}
use Rattle.fields.specs.Fields.{sized_as}
use Rattle.fields.proofs.Words.{forty_at_least, part_of}
use Rattle.record_check.specs.Sets.{own_mark}
use Rattle.record_check.proofs.part_sound.Goals as goal

pub payer_in-payer-requires : goal.payer_in-payer-requires
payer_in-payer-requires g c = let k = forty_at_least g.row.SIZE c.requires.0 in omega arith

pub is_absent-requires : goal.is_absent-requires
is_absent-requires g c = part_of g.row.SIZE c.args.part.now c.requires.0 c.requires.1

pub day_sound-requires : goal.day_sound-requires
day_sound-requires g c = part_of g.row.SIZE c.args.part.now c.requires.0 c.requires.1

pub held_in-held-requires : goal.held_in-held-requires
held_in-held-requires g c = let k = forty_at_least g.row.SIZE c.requires.0 in omega arith

pub marks_fit-requires : goal.marks_fit-requires
marks_fit-requires g c = let k = forty_at_least g.row.SIZE c.requires.0 in omega arith

pub total_fits-requires : goal.total_fits-requires
total_fits-requires g c = let k = forty_at_least g.row.SIZE c.requires.0 in omega arith

pub group_fits-requires : goal.group_fits-requires
group_fits-requires g c = let k = forty_at_least g.row.SIZE c.requires.0 in omega arith

pub returns-then-payer-ge-USERS : goal.returns-then-payer-ge-USERS
returns-then-payer-ge-USERS g c = λ home counter made. c.is_absent.ensures ∙ absent_is_sound (sized_as g.row.SIZE) (home (expense_of c.args.part.now).payer) (counter (expense_of c.args.part.now).group) c.args.part.now c.args.c (let e = c.payer_in-payer.ensures in let t = c.if-payer-ge-USERS.true in omega arith)

pub returns-then-not-day_sound : goal.returns-then-not-day_sound
returns-then-not-day_sound g c = λ home counter made. day_fails (eqb g.row.SIZE 40) (home (expense_of c.args.part.now).payer) (counter (expense_of c.args.part.now).group) c.args.c (expense_of c.args.part.now) (let e = c.payer_in-payer.ensures in let t = c.if-payer-ge-USERS.false in omega arith) (sym c.day_sound.ensures ∙ c.if-not-day_sound.true)

pub returns-then-held-eq0 : goal.returns-then-held-eq0
unfolding expense_of
returns-then-held-eq0 g c = λ home counter made. day_passes (eqb g.row.SIZE 40) (home (expense_of c.args.part.now).payer) (counter (expense_of c.args.part.now).group) c.args.c (expense_of c.args.part.now) (let e = c.payer_in-payer.ensures in let t = c.if-payer-ge-USERS.false in omega arith) (sym c.day_sound.ensures ∙ c.if-not-day_sound.false) false (no_share (home (expense_of c.args.part.now).payer) counter c.args.part.now c.args.c (own_mark (home (expense_of c.args.part.now).payer) (c.args.c / 64) (expense_of c.args.part.now).payer) (let e = c.payer_in-payer.ensures in let t = c.if-payer-ge-USERS.false in omega arith) (c.type_inv.part 2).fits (c.type_inv.part 3).fits refl c.held_in-held.result c.held_in-held.ensures (eq-eqb _ _ c.if-held-eq0.true))

pub returns-then-not-marks_fit : goal.returns-then-not-marks_fit
unfolding expense_of
returns-then-not-marks_fit g c = λ home counter made. day_passes (eqb g.row.SIZE 40) (home (expense_of c.args.part.now).payer) (counter (expense_of c.args.part.now).group) c.args.c (expense_of c.args.part.now) (let e = c.payer_in-payer.ensures in let t = c.if-payer-ge-USERS.false in omega arith) (sym c.day_sound.ensures ∙ c.if-not-day_sound.false) false (no_marks (home (expense_of c.args.part.now).payer) counter c.args.part.now c.args.c (own_mark (home (expense_of c.args.part.now).payer) (c.args.c / 64) (expense_of c.args.part.now).payer) (let e = c.payer_in-payer.ensures in let t = c.if-payer-ge-USERS.false in omega arith) (c.type_inv.part 2).fits (c.type_inv.part 3).fits refl c.held_in-held.result c.held_in-held.ensures (ne_eqb _ _ c.if-held-eq0.false) c.marks_fit.result c.marks_fit.ensures (c.if-not-marks_fit.true))

pub returns-then-not-total_fits : goal.returns-then-not-total_fits
unfolding expense_of
returns-then-not-total_fits g c = λ home counter made. day_passes (eqb g.row.SIZE 40) (home (expense_of c.args.part.now).payer) (counter (expense_of c.args.part.now).group) c.args.c (expense_of c.args.part.now) (let e = c.payer_in-payer.ensures in let t = c.if-payer-ge-USERS.false in omega arith) (sym c.day_sound.ensures ∙ c.if-not-day_sound.false) false (too_much (home (expense_of c.args.part.now).payer) counter c.args.part.now c.args.c (own_mark (home (expense_of c.args.part.now).payer) (c.args.c / 64) (expense_of c.args.part.now).payer) (let e = c.payer_in-payer.ensures in let t = c.if-payer-ge-USERS.false in omega arith) (c.type_inv.part 2).fits (c.type_inv.part 3).fits refl c.held_in-held.result c.held_in-held.ensures (ne_eqb _ _ c.if-held-eq0.false) c.marks_fit.result c.marks_fit.ensures (c.if-not-marks_fit.false) c.total_fits.result c.total_fits.ensures (c.if-not-total_fits.true))

pub returns : goal.returns
unfolding expense_of
returns g c = λ home counter made. day_passes (eqb g.row.SIZE 40) (home (expense_of c.args.part.now).payer) (counter (expense_of c.args.part.now).group) c.args.c (expense_of c.args.part.now) (let e = c.payer_in-payer.ensures in let t = c.if-payer-ge-USERS.false in omega arith) (sym c.day_sound.ensures ∙ c.if-not-day_sound.false) c.group_fits.result (by_group (home (expense_of c.args.part.now).payer) counter c.args.part.now c.args.c c.from.result (let e = c.payer_in-payer.ensures in let t = c.if-payer-ge-USERS.false in omega arith) (c.type_inv.part 2).fits (c.type_inv.part 3).fits (c.from.ensures ∙ mark_is home c.args.basis.now.own (c.args.c / 64) c.payer_in-payer.result made.1 (let t = c.if-payer-ge-USERS.false in omega arith) ∙ ap (λ u. own_mark (home u) (c.args.c / 64) u) c.payer_in-payer.ensures) c.held_in-held.result c.held_in-held.ensures (ne_eqb _ _ c.if-held-eq0.false) c.marks_fit.result c.marks_fit.ensures (c.if-not-marks_fit.false) c.total_fits.result c.total_fits.ensures (c.if-not-total_fits.false) c.group_fits.result (c.group_fits.ensures counter made.0))
