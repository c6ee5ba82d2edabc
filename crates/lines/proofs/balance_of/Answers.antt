use Rattle.lines.proofs.Signed.{less_fits, balance_fits}
use Prim.Native.Nat.{◌<◌, ◌^◌}
use native.Mathlib.Omega.{arith}
use mir.Syntax.{w64}
use mir.Facts.{to_z_pos, to_z-of_z}
use Rattle.lines.proofs.balance_of.Goals as goal

pub overflow_sub-result : goal.overflow_sub-result
overflow_sub-result c = let p : c.args.gift < 2 ^ 63 = omega arith in rw (to_z-of_z c.ranges.raw, to_z_pos w64 p) (less_fits c.args.raw c.args.gift c.args.part c.requires.0 c.requires.1 c.requires.2)

pub overflow_add-result : goal.overflow_add-result
overflow_add-result c = let p : c.args.gift < 2 ^ 63 = omega arith in let q : c.args.part < 2 ^ 63 = omega arith in rw (to_z-of_z c.ranges.raw, to_z_pos w64 p, to_z-of_z (less_fits c.args.raw c.args.gift c.args.part c.requires.0 c.requires.1 c.requires.2), to_z_pos w64 q) (balance_fits c.args.raw c.args.gift c.args.part c.requires.0 c.requires.1 c.requires.2)

pub returns : goal.returns
returns c = let p : c.args.gift < 2 ^ 63 = omega arith in let q : c.args.part < 2 ^ 63 = omega arith in rw (to_z-of_z c.ranges.raw, to_z_pos w64 p, to_z-of_z (less_fits c.args.raw c.args.gift c.args.part c.requires.0 c.requires.1 c.requires.2), to_z_pos w64 q) (to_z-of_z (balance_fits c.args.raw c.args.gift c.args.part c.requires.0 c.requires.1 c.requires.2))
