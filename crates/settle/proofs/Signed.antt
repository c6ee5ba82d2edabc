-- What a balance owes and is owed: how far the smaller, and the larger, of it and zero is from zero.
use Rattle.std.proofs.Common.{◌≡◌, refl, ℤ, pos, negsuc, unsigned_abs, arith}
use Rattle.std.proofs.lemmas.Grind.{common_steps}
use Rattle.std.specs.Int.{int_min, int_max}
use Rattle.rules.specs.Payments.{owes, owed}

pub below_zero_owes : (x : ℤ) → unsigned_abs (int_min x (pos 0)) ≡ owes x
unfolding owes
below_zero_owes (pos n) = grind (arith, common_steps)
below_zero_owes (negsuc n) = refl

pub above_zero_owed : (x : ℤ) → unsigned_abs (int_max x (pos 0)) ≡ owed x
unfolding owed
above_zero_owed (pos n) = grind (arith, common_steps)
above_zero_owed (negsuc n) = refl
