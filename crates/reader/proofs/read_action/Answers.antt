use Rattle.std.proofs.Common.{refl}
use Rattle.reader.proofs.Read.{not_forty, read_is, eight_shares}
use Rattle.reader.proofs.read_action.Goals as goal

pub returns-then-bytes-ne-ACTION_SIZE : goal.returns-then-bytes-ne-ACTION_SIZE
returns-then-bytes-ne-ACTION_SIZE c = (not_forty _ c.if-bytes-ne-ACTION_SIZE.true, refl)

pub returns : goal.returns
returns c =
    (read_is c.args.bytes.now _ _ _ c.if-bytes-ne-ACTION_SIZE.false c.read_shares-shares.ensures c.shares_zero.ensures (c.action_in-action.ensures c.read_shares-shares.result), eight_shares _ _ c.read_shares-shares.ensures)
