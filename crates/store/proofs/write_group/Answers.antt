use Rattle.format.specs.Layout.{current, group_size}
use Rattle.format.proofs.Laws.{put_part, length_group_bytes}
use Rattle.store.proofs.write_group.Goals as goal

pub returns : goal.returns
returns c = rw c.put_group.ensures (put_part _ group_size _ _ (length_group_bytes current c.args.r))
