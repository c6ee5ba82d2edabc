use Rattle.rules.proofs.Below.{all_none, row_more, row_false}
use Rattle.image_check.proofs.Rows.{same_row}
use Rattle.std.proofs.Common.{◌≡◌, ◌+◌, sym, ap, ◌∙◌, arith}
use Rattle.record_check.specs.Sets.{own_marks}
use Rattle.image_check.specs.Among.{sound_among}
use Rattle.image_check.proofs.rows_sound.Goals as goal

pub loop-row-init : goal.loop-row-init
loop-row-init g c = λ home counter made. all_none (λ i. sound_among g.row.SIZE home counter c.args.all.now (c.args.from + i))

pub row_sound-requires : goal.row_sound-requires
row_sound-requires g c = (c.requires.0, c.requires.1, omega arith, (let t = c.requires.3 in omega arith))

pub returns-then-not-row_sound : goal.returns-then-not-row_sound
returns-then-not-row_sound g c = λ home counter made. sym (row_false (sound_among g.row.SIZE home counter c.args.all.now) c.args.from c.loop-row.row 64 (omega arith) (sym (c.row_sound.ensures home counter (made.0, made.1 ∙ ap (own_marks home) (same_row c.args.from c.loop-row.row c.requires.3 (omega arith)))) ∙ c.if-not-row_sound.true))

pub loop-row-preserved : goal.loop-row-preserved
loop-row-preserved g c = λ home counter made. row_more (sound_among g.row.SIZE home counter c.args.all.now) c.args.from c.loop-row.row (c.loop-row.invariant home counter made) (sym (c.row_sound.ensures home counter (made.0, made.1 ∙ ap (own_marks home) (same_row c.args.from c.loop-row.row c.requires.3 (omega arith)))) ∙ c.if-not-row_sound.false)

pub returns : goal.returns
returns g c = λ home counter made. let z : c.loop-row.row ≡ 8 = omega arith in sym (rw z at (c.loop-row.invariant home counter made))
