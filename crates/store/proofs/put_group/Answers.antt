use Rattle.format.specs.Layout.{current}
use Rattle.format.specs.Bytes.{group_bytes_of}
use Rattle.format.proofs.Laws.{sets_whole, length_group_bytes}
use Rattle.std.proofs.Common.{sym, ◌∙◌}
use Rattle.store.proofs.put_group.Goals as goal

pub returns : goal.returns
returns c = c.set_group.ensures ∙ sets_whole c.args.part.now (group_bytes_of c.args.g) (c.requires ∙ sym (length_group_bytes current c.args.g))
