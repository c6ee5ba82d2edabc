use Rattle.std.proofs.Common.{arith, length-set}
use lib.Seq.{paste-zero}
use Rattle.month.specs.Raws.{raws_from}
use Rattle.month.proofs.Written.{raw_next, raws_all}
use Rattle.month.proofs.put_raws.Goals as goal

pub loop-u-init : goal.loop-u-init
loop-u-init c = let a = c.args in (omega arith, paste-zero a.raws.now 0 (raws_from a.paid a.held))

pub raw_of-requires : goal.raw_of-requires
raw_of-requires c = let k = c.requires.1 c.loop-u.u in (omega arith, omega arith)

pub loop-u-preserved : goal.loop-u-preserved
loop-u-preserved c =
    let l = c.loop-u in
    let a = c.args in
    let k = c.requires.1 l.u in (
      simp length-set (omega arith),
      raw_next a.paid a.held a.raws.now l.raws l.u c.raw_of.result (omega arith) c.requires.0 c.raw_of.ensures k.0 k.1 l.invariant.1,
    )

pub returns : goal.returns
returns c = let l = c.loop-u in raws_all c.args.paid c.args.held c.args.raws.now l.raws l.u (omega arith) c.requires.0 l.invariant.1
