use Rattle.agree.proofs.Agreed.{payers_differ, groups_differ, deletions_differ, days_differ, shares_decide}
use Rattle.agree.proofs.parts_alike.Goals as goal

pub returns-then-payer_in : goal.returns-then-payer_in
returns-then-payer_in c = payers_differ c.args.mine.now c.args.theirs.now _ _ c.payer_in.ensures c.payer_in-2.ensures c.if-payer_in.true

pub returns-then-group_in : goal.returns-then-group_in
returns-then-group_in c = groups_differ c.args.mine.now c.args.theirs.now _ _ c.payer_in.ensures c.payer_in-2.ensures c.if-payer_in.false _ _ c.group_in.ensures c.group_in-2.ensures c.if-group_in.true

pub returns-then-not-deletions_same : goal.returns-then-not-deletions_same
returns-then-not-deletions_same c = deletions_differ c.args.mine.now c.args.theirs.now _ _ c.payer_in.ensures c.payer_in-2.ensures c.if-payer_in.false _ _ c.group_in.ensures c.group_in-2.ensures c.if-group_in.false _ _ _ c.deleted_in.ensures c.deleted_in-2.ensures c.deletions_same.ensures (c.if-not-deletions_same.true)

pub returns-then-day_in : goal.returns-then-day_in
returns-then-day_in c = days_differ c.args.mine.now c.args.theirs.now _ _ c.payer_in.ensures c.payer_in-2.ensures c.if-payer_in.false _ _ c.group_in.ensures c.group_in-2.ensures c.if-group_in.false _ _ _ c.deleted_in.ensures c.deleted_in-2.ensures c.deletions_same.ensures (c.if-not-deletions_same.false) _ _ c.day_in.ensures c.day_in-2.ensures c.if-day_in.true

pub returns : goal.returns
returns c = shares_decide c.args.mine.now c.args.theirs.now _ _ c.payer_in.ensures c.payer_in-2.ensures c.if-payer_in.false _ _ c.group_in.ensures c.group_in-2.ensures c.if-group_in.false _ _ _ c.deleted_in.ensures c.deleted_in-2.ensures c.deletions_same.ensures (c.if-not-deletions_same.false) _ _ c.day_in.ensures c.day_in-2.ensures c.if-day_in.false _ _ _ c.read_shares.ensures c.read_shares-2.ensures c.shares_same.ensures
