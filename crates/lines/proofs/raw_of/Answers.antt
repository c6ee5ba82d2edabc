use Rattle.lines.proofs.Signed.{minus_is, raw_fits}
use Prim.Native.Nat.{◌<◌, ◌^◌}
use native.Mathlib.Omega.{arith}
use mathlib.Core.Path.{◌∙◌}
use mir.Syntax.{w64}
use mir.Facts.{to_z_pos, to_z-of_z}
use Rattle.lines.proofs.raw_of.Goals as goal

pub overflow_sub-result : goal.overflow_sub-result
overflow_sub-result c = let p : c.args.paid < 2 ^ 63 = omega arith in let q : c.args.held < 2 ^ 63 = omega arith in rw (to_z_pos w64 p, to_z_pos w64 q) (raw_fits c.args.paid c.args.held c.requires.0 c.requires.1)

pub returns : goal.returns
returns c = let p : c.args.paid < 2 ^ 63 = omega arith in let q : c.args.held < 2 ^ 63 = omega arith in rw (to_z_pos w64 p, to_z_pos w64 q) (to_z-of_z (raw_fits c.args.paid c.args.held c.requires.0 c.requires.1) ∙ minus_is c.args.paid c.args.held)
