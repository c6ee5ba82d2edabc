use Rattle.std.proofs.Common.{refl}
use Rattle.agree.proofs.Agreed.{agree_none, agree_other, agree_versions, agree_alike}
use Rattle.agree.proofs.parts_agree.Goals as goal

pub returns-then-payer_in-eq-NO_EXPENSE : goal.returns-then-payer_in-eq-NO_EXPENSE
returns-then-payer_in-eq-NO_EXPENSE c = agree_none c.args.mine.now c.args.theirs.now _ _ c.payer_in.ensures refl c.if-payer_in-eq-NO_EXPENSE.true

pub returns-then-payer_in-eq-NO_EXPENSE-2 : goal.returns-then-payer_in-eq-NO_EXPENSE-2
returns-then-payer_in-eq-NO_EXPENSE-2 c = agree_other c.args.mine.now c.args.theirs.now _ _ c.payer_in.ensures c.payer_in-2.ensures c.if-payer_in-eq-NO_EXPENSE.false c.if-payer_in-eq-NO_EXPENSE-2.true

pub returns-then-version_in : goal.returns-then-version_in
returns-then-version_in c = agree_versions c.args.mine.now c.args.theirs.now _ _ c.payer_in.ensures c.payer_in-2.ensures c.if-payer_in-eq-NO_EXPENSE.false c.if-payer_in-eq-NO_EXPENSE-2.false _ _ c.version_in.ensures c.version_in-2.ensures c.if-version_in.true

pub returns : goal.returns
returns c = agree_alike c.args.mine.now c.args.theirs.now _ _ c.payer_in.ensures c.payer_in-2.ensures c.if-payer_in-eq-NO_EXPENSE.false c.if-payer_in-eq-NO_EXPENSE-2.false _ _ c.version_in.ensures c.version_in-2.ensures c.if-version_in.false _ c.parts_alike.ensures
