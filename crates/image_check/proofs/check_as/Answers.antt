use Rattle.refusals.proofs.PassedOn.{fault_passed_on}
use Rattle.image_check.proofs.Answered.{unruled, unsound, passing}
use Rattle.image_check.proofs.Rows.{sized_of, header_inside, handed_long, handed_are}
use Rattle.std.proofs.Common.{sym, ◌∙◌}
use Rattle.images.specs.Image.{decode_in}
use Rattle.image_check.proofs.check_as.Goals as goal

pub header_fault-requires : goal.header_fault-requires
header_fault-requires g c = header_inside c.requires.0 _ _ _ _ _ c.requires.1

pub expenses_sound-requires : goal.expenses_sound-requires
expenses_sound-requires g c = (sized_of c.requires.0 g.row.SIZE c.requires.1.sized, header_inside c.requires.0 _ _ _ _ _ c.requires.1, handed_long c.requires.0 _ _ _ _ _ c.requires.1)

pub returns-in_err-header_fault : goal.returns-in_err-header_fault
returns-in_err-header_fault g c = λ v h. fault_passed_on c.from_residual.result _ c.from_residual.ensures.1 ∙ c.in_err-header_fault.ensures v h.numbered h.long

pub returns-in_default : goal.returns-in_default
returns-in_default g c = λ v h. let t = c.in_ok-header_fault.ensures v h.numbered h.long in unruled v c.args.image.now h.long t.0 t.1 t.2 (rw c.in_default.is at h.groups)

pub returns-then-not-expenses_sound : goal.returns-then-not-expenses_sound
returns-then-not-expenses_sound g c = λ v h. let t = c.in_ok-header_fault.ensures v h.numbered h.long in let fit = rw c.in-Some.is at h.groups in unsound v c.args.image.now h.long t.0 t.1 t.2 fit.0 (sym (handed_are v _ _ _ _ _ h) ∙ sym (c.expenses_sound.ensures (decode_in v c.args.image.now).counter fit.1) ∙ c.if-not-expenses_sound.true)

pub returns : goal.returns
returns g c = λ v h. let t = c.in_ok-header_fault.ensures v h.numbered h.long in let fit = rw c.in-Some.is at h.groups in passing v c.args.image.now h.long t.0 t.1 t.2 fit.0 (sym (handed_are v _ _ _ _ _ h) ∙ sym (c.expenses_sound.ensures (decode_in v c.args.image.now).counter fit.1) ∙ c.if-not-expenses_sound.false)
