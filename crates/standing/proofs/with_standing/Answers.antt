use Rattle.format.specs.Bytes.{expense_of}
use Rattle.standing.proofs.Concerned.{unconcerned, waiting, not_waiting, counting, pays, pays_not}
use Rattle.standing.proofs.with_standing.Goals as goal

pub returns-then-share-payer : goal.returns-then-share-payer
unfolding expense_of
returns-then-share-payer c =
    let a = c.args in
    unconcerned a.rule a.g a.u (expense_of a.part.now) _ _ c.share_of-share.ensures c.payer_in-payer.ensures a.s c.if-share-payer.true

pub returns-then-share-counts : goal.returns-then-share-counts
unfolding expense_of
returns-then-share-counts c =
    let a = c.args in
    waiting a.rule a.g a.u (expense_of a.part.now) _ _ c.share_of-share.ensures c.payer_in-payer.ensures c.requires.2 _ _ c.read_shares-shares.ensures c.acknowledged_in-acknowledged.ensures _ c.small_share-small.ensures _ c.acknowledged_above.ensures a.s c.if-not-acknowledged_above.true _ c.has_bit.ensures c.if-share-counts.true

pub returns-then-not-acknowledged_above : goal.returns-then-not-acknowledged_above
unfolding expense_of
returns-then-not-acknowledged_above c =
    let a = c.args in
    not_waiting a.rule a.g a.u (expense_of a.part.now) _ _ c.share_of-share.ensures c.payer_in-payer.ensures c.requires.2 _ _ c.read_shares-shares.ensures c.acknowledged_in-acknowledged.ensures _ c.small_share-small.ensures _ c.acknowledged_above.ensures a.s c.if-not-acknowledged_above.true _ c.has_bit.ensures c.if-share-counts.false

pub returns-then-payer-u : goal.returns-then-payer-u
unfolding expense_of
returns-then-payer-u c =
    let a = c.args in
    counting a.rule a.g a.u (expense_of a.part.now) _ _ c.share_of-share.ensures c.payer_in-payer.ensures c.requires.2 _ _ c.read_shares-shares.ensures c.acknowledged_in-acknowledged.ensures _ c.small_share-small.ensures _ c.acknowledged_above.ensures a.s c.if-not-acknowledged_above.false _ (pays_not c.payer_in-payer.result a.u _ _ c.if-payer-u.true)

pub returns : goal.returns
unfolding expense_of
returns c =
    let a = c.args in
    counting a.rule a.g a.u (expense_of a.part.now) _ _ c.share_of-share.ensures c.payer_in-payer.ensures c.requires.2 _ _ c.read_shares-shares.ensures c.acknowledged_in-acknowledged.ensures _ c.small_share-small.ensures _ c.acknowledged_above.ensures a.s c.if-not-acknowledged_above.false _ (pays c.payer_in-payer.result a.u _ _ _ c.if-payer-u.false c.total_in.ensures.0)
