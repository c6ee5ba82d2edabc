use Rattle.std.proofs.Common.{refl, rules}
use Rattle.merge_record.proofs.Records.{merged_none, merged_new, merged_newer, merged_older, merged_same, ranked}
use Rattle.merge_record.proofs.merge_part.Goals as goal

pub returns-then-payer_in-eq-NO_EXPENSE : goal.returns-then-payer_in-eq-NO_EXPENSE
returns-then-payer_in-eq-NO_EXPENSE c = merged_none c.args.mine.now c.args.theirs.now _ _ refl c.payer_in.ensures c.requires (search rules) c.if-payer_in-eq-NO_EXPENSE.true

pub returns-then-payer_in : goal.returns-then-payer_in
returns-then-payer_in c = merged_new c.args.mine.now c.args.theirs.now _ _ c.payer_in-2.ensures c.payer_in.ensures c.requires (search rules) c.if-payer_in-eq-NO_EXPENSE.false c.if-payer_in.true _ _ c.read_expense.ensures c.put_record.ensures

pub returns-in-Less : goal.returns-in-Less
returns-in-Less c = merged_newer c.args.mine.now c.args.theirs.now _ _ c.payer_in-2.ensures c.payer_in.ensures c.requires (search rules) c.if-payer_in-eq-NO_EXPENSE.false c.if-payer_in.false _ _ c.version_in.ensures c.version_in-2.ensures (ranked _ _ _ c.in-Less.ensures) _ _ c.read_expense-in-Less.ensures c.put_record-in-Less.ensures

pub returns-in-Equal : goal.returns-in-Equal
returns-in-Equal c = merged_same c.args.mine.now c.args.theirs.now _ _ c.payer_in-2.ensures c.payer_in.ensures c.requires (search rules) c.if-payer_in-eq-NO_EXPENSE.false c.if-payer_in.false _ _ c.version_in.ensures c.version_in-2.ensures (ranked _ _ _ c.in-Equal.ensures) _ _ _ _ c.acknowledged_in-kept.ensures c.acknowledged_in-more.ensures c.union.ensures c.put_acknowledged.ensures

pub returns-in-Greater : goal.returns-in-Greater
returns-in-Greater c = merged_older c.args.mine.now c.args.theirs.now _ _ c.payer_in-2.ensures c.payer_in.ensures c.requires (search rules) c.if-payer_in-eq-NO_EXPENSE.false c.if-payer_in.false _ _ c.version_in.ensures c.version_in-2.ensures (ranked _ _ _ c.in-Greater.ensures)
