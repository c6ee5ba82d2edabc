use Rattle.std.proofs.Common.{◌≡◌, ◌∙◌, ap, ◌*◌, arith, length-set}
use lib.Seq.{paste, paste-zero}
use Rattle.format.specs.Layout.{user_count}
use Rattle.balances.proofs.Groups.{number_next}
use Rattle.balances.proofs.put_eight.Goals as goal

pub loop-u-init : goal.loop-u-init
loop-u-init c = let a = c.args in (omega arith, paste-zero a.balances.now (8 * a.g) a.eight)

pub loop-u-preserved : goal.loop-u-preserved
loop-u-preserved c =
    let l = c.loop-u in
    let a = c.args in
    (simp length-set (omega arith), number_next a.balances.now (8 * a.g) a.eight l.u l.balances (omega arith) (omega arith) (omega arith) l.invariant.1 (omega arith))

pub returns : goal.returns
returns c =
    let l = c.loop-u in
    let a = c.args in
    let z : l.u ≡ user_count = omega arith in
    l.invariant.1 ∙ ap (paste a.balances.now (8 * a.g) a.eight) z
