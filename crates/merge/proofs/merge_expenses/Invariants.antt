use Rattle.std.proofs.Common.{◌≡◌}
use Rattle.merge.specs.Merged.{expenses_merged}
use Rattle.merge.proofs.merge_expenses.Given as goal

abbrev pub invariant-loop-expense : goal.invariant-loop-expense
invariant-loop-expense l = l.own ≡ expenses_merged l.expense l.initial.own l.other
