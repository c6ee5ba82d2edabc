use Rattle.raise.proofs.Groups.{groups_copied}
use Rattle.std.proofs.Common.{arith}
use Rattle.raise.proofs.copy_groups.Goals as goal

pub returns : goal.returns
returns c = groups_copied c.args.old.now c.args.image.now _ (omega arith) (omega arith) c.copy_from_slice.ensures.after
