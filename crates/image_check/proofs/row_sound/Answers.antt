use Rattle.image_check.proofs.Rows.{row_is_sound, same_replica, one_is_sound}
use Rattle.rules.proofs.Below.{all_none, all_more, all_false}
use Rattle.std.proofs.Common.{◌≡◌, ◌+◌, sym, ap, ◌∙◌, arith}
use Rattle.record_check.specs.Sets.{own_marks}
use Rattle.image_check.specs.Among.{sound_among}
use Rattle.image_check.proofs.row_sound.Goals as goal

pub eight_absent-requires : goal.eight_absent-requires
eight_absent-requires g c = (omega arith, c.requires.0, c.requires.1)

pub returns-then-eight_absent : goal.returns-then-eight_absent
returns-then-eight_absent g c = λ home counter made. sym (row_is_sound g.row.SIZE home counter c.args.all.now c.args.from (sym c.eight_absent.ensures ∙ c.if-eight_absent.true))

pub loop-i-init : goal.loop-i-init
loop-i-init g c = λ home counter made. all_none (λ j. sound_among g.row.SIZE home counter c.args.all.now (c.args.from + j))

pub part_at-part-requires : goal.part_at-part-requires
part_at-part-requires g c = (omega arith, c.requires.0, c.requires.1)

pub part_sound-requires : goal.part_sound-requires
part_sound-requires g c = (c.requires.0, c.part_at-part.ensures.sized)

pub returns-then-not-part_sound : goal.returns-then-not-part_sound
returns-then-not-part_sound g c = λ home counter made. sym (all_false (λ j. sound_among g.row.SIZE home counter c.args.all.now (c.args.from + j)) c.loop-i.i 8 (omega arith) (sym (one_is_sound g.row.SIZE (c.args.from + c.loop-i.i) _ _ _ c.args.all.now _ _ (omega arith) (omega arith) c.part_at-part.ensures.part c.part_sound.ensures home counter (made.0, made.1 ∙ ap (own_marks home) (same_replica c.args.from c.loop-i.i c.requires.3 (omega arith)))) ∙ c.if-not-part_sound.true))

pub loop-i-preserved : goal.loop-i-preserved
loop-i-preserved g c = λ home counter made. all_more (λ j. sound_among g.row.SIZE home counter c.args.all.now (c.args.from + j)) c.loop-i.i (c.loop-i.invariant home counter made) (sym (one_is_sound g.row.SIZE (c.args.from + c.loop-i.i) _ _ _ c.args.all.now _ _ (omega arith) (omega arith) c.part_at-part.ensures.part c.part_sound.ensures home counter (made.0, made.1 ∙ ap (own_marks home) (same_replica c.args.from c.loop-i.i c.requires.3 (omega arith)))) ∙ c.if-not-part_sound.false)

pub returns : goal.returns
returns g c = λ home counter made. let z : c.loop-i.i ≡ 8 = omega arith in sym (rw z at (c.loop-i.invariant home counter made))
