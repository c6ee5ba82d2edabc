use Rattle.std.proofs.Common.{◌≡◌, ◌++◌, length, take, drop}
use Rattle.rules.specs.Payments.{row, unpaid}
use Rattle.settle.proofs.pay_row.Given as goal

abbrev pub invariant-loop-c : goal.invariant-loop-c
invariant-loop-c l =
    (length l.paid ≡ 8) × (length l.claims ≡ 8) × (row l.x l.initial.claims ≡ take l.c l.paid ++ row l.left (drop l.c l.claims)) × (unpaid l.x l.initial.claims ≡ take l.c l.claims ++ unpaid l.left (drop l.c l.claims))
