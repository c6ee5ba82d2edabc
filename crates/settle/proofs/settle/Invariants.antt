use Rattle.std.proofs.Common.{◌≡◌, ◌++◌, map, length, take, drop}
use Rattle.rules.specs.Payments.{owes, pay_in_order, settled}
use Rattle.settle.proofs.settle.Given as goal

abbrev pub invariant-loop-d : goal.invariant-loop-d
invariant-loop-d l = (length l.table ≡ 8) × (settled l.balances ≡ take l.d l.table ++ pay_in_order (drop l.d (map owes l.balances)) l.claims)
