use Rattle.std.proofs.Common.{arith}
use Rattle.images.specs.Image.{decode}
use Rattle.gather.proofs.Turns.{rows_none}
use Rattle.balances.proofs.Groups.{written_none, written_next, written_all}
use Rattle.balances.proofs.put_all.Goals as goal

pub add_all-requires : goal.add_all-requires
add_all-requires c = (rows_none (decode c.args.image.now) _ c.new-rows.ensures, c.requires.1)

pub loop-g-init : goal.loop-g-init
loop-g-init c = written_none _ _

pub loop-g-preserved : goal.loop-g-preserved
loop-g-preserved c =
    let l = c.loop-g in
    let a = c.args in
    written_next a.balances.now (decode a.image.now) l.g l.balances _ _ l.invariant c.balances_at-eight.ensures c.put_eight.ensures

pub returns : goal.returns
returns c =
    let l = c.loop-g in
    let a = c.args in
    written_all a.balances.now (decode a.image.now) l.g l.balances (omega arith) c.requires.0 l.invariant
