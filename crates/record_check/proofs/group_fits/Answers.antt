use Rattle.record_check.proofs.Records.{with_group_lem, without_group}
use Rattle.std.proofs.Common.{arith, ap, ◌∙◌, bit_or, eqb}
use Rattle.format.specs.Bytes.{expense_of}
use Rattle.record_check.specs.Sets.{known_set}
use Rattle.record_check.proofs.group_fits.Goals as goal

pub returns-then-at-ge-GROUP_COUNT : goal.returns-then-at-ge-GROUP_COUNT
returns-then-at-ge-GROUP_COUNT c = λ counter sets. without_group (expense_of c.args.part.now) c.args.mine c.args.held c.group_in-group.result c.group_in-group.ensures (known_set (counter (expense_of c.args.part.now).group)) c.marks_fit.result c.marks_fit.ensures c.if-at-ge-GROUP_COUNT.true

pub returns : goal.returns
returns c = λ counter sets. ap (λ k. eqb (bit_or (bit_or c.args.held c.args.mine) k) k) c.from-k.ensures ∙ with_group_lem (expense_of c.args.part.now) c.args.mine c.args.held c.group_in-group.result c.group_in-group.ensures c.args.known.now counter sets (let t = c.if-at-ge-GROUP_COUNT.false in omega arith)
