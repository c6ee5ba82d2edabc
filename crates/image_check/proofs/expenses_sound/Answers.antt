use Rattle.rules.proofs.Below.{all_none, block_more, block_false}
use Rattle.image_check.proofs.Rows.{replica_back}
use Rattle.std.proofs.Common.{◌≡◌, ◌+◌, ◌*◌, sym, ap, ◌∙◌, arith, rules}
use Rattle.format.specs.Layout.{expense_count}
use Rattle.images.specs.Image.{home_of}
use Rattle.record_check.specs.Sets.{own_marks}
use Rattle.image_check.specs.Among.{sound_among}
use Rattle.image_check.proofs.expenses_sound.Goals as goal

pub loop-replica-init : goal.loop-replica-init
loop-replica-init g c = λ counter sets. all_none (sound_among g.row.SIZE (home_of c.args.image.now) counter c.args.all.now)

pub rows_sound-requires : goal.rows_sound-requires
rows_sound-requires g c = (c.requires.0, c.requires.2, omega arith, omega arith)

pub returns-then-not-rows_sound : goal.returns-then-not-rows_sound
returns-then-not-rows_sound g c = λ counter sets. search (rules, arith) ∙ sym (block_false (sound_among g.row.SIZE (home_of c.args.image.now) counter c.args.all.now) (64 * c.loop-replica.replica) 64 expense_count (omega arith) (sym (c.rows_sound.ensures (home_of c.args.image.now) counter (sets, c.own_marks.ensures ∙ ap (own_marks (home_of c.args.image.now)) (replica_back c.loop-replica.replica))) ∙ c.if-not-rows_sound.true))

pub loop-replica-preserved : goal.loop-replica-preserved
loop-replica-preserved g c = λ counter sets.
    let z : 64 * c.loop-replica.replica + 64 ≡ 64 * (c.loop-replica.replica + 1) = omega arith in
    rw z at (block_more (sound_among g.row.SIZE (home_of c.args.image.now) counter c.args.all.now) (64 * c.loop-replica.replica) 64 (c.loop-replica.invariant counter sets) (sym (c.rows_sound.ensures (home_of c.args.image.now) counter (sets, c.own_marks.ensures ∙ ap (own_marks (home_of c.args.image.now)) (replica_back c.loop-replica.replica))) ∙ c.if-not-rows_sound.false))

pub returns : goal.returns
returns g c = λ counter sets. let z : 64 * c.loop-replica.replica ≡ expense_count = omega arith in sym (rw z at (c.loop-replica.invariant counter sets))
