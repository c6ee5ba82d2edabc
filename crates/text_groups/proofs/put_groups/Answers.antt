use Rattle.std.proofs.Common.{◌≡◌, refl, ◌<◌, append_assoc, rules, arith}
use Rattle.format.specs.Layout.{group_count}
use Rattle.images.specs.Image.{decode}
use Rattle.gather.proofs.Turns.{rows_none}
use Rattle.gather.proofs.Summed.{rows_below, taken_sums}
use Rattle.text.specs.Text.{crews_text}
use Rattle.text_groups.proofs.Crews.{next_crew}
use Rattle.text_groups.proofs.put_groups.Goals as goal

pub add_all-requires : goal.add_all-requires
add_all-requires g c = (rows_none (decode c.args.image.now) _ c.new-rows.ensures, c.requires.1)

pub loop-g-init : goal.loop-g-init
unfolding crews_text
loop-g-init g c = (omega arith, search rules)

pub sums_at-sums-requires : goal.sums_at-sums-requires
sums_at-sums-requires g c =
    let k = c.loop-g.g in
    let k16 : k < group_count = omega arith in
    (k16, rows_below c.args.image.now c.fits-image c.requires.1 _ c.add_all.ensures k k16)

pub overflow_cast-g : goal.overflow_cast-g
overflow_cast-g g c = omega arith

pub put_group-requires : goal.put_group-requires
put_group-requires g c =
    (search rules, (omega arith, taken_sums c.args.image.now c.fits-image c.requires.1 _ c.add_all.ensures c.loop-g.g (omega arith) _ c.sums_at-sums.ensures))

pub loop-g-preserved : goal.loop-g-preserved
loop-g-preserved g c = (omega arith, rw (c.put_group.ensures.text, c.loop-g.invariant.1, next_crew _ c.loop-g.g, append_assoc) refl)

pub returns-clause-text : goal.returns-clause-text
returns-clause-text g c = let z : c.loop-g.g ≡ group_count = omega arith in rw z at c.loop-g.invariant.1

pub returns-clause-room : goal.returns-clause-room
returns-clause-room g c = omega arith
