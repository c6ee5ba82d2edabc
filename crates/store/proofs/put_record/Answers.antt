use Rattle.format.specs.Layout.{current}
use Rattle.format.specs.Bytes.{bytes_of}
use Rattle.format.proofs.Laws.{length_bytes, sets_whole}
use Rattle.std.proofs.Common.{sym, ◌∙◌}
use Rattle.store.proofs.put_record.Goals as goal

pub returns : goal.returns
returns c = c.put_expense.ensures ∙ sets_whole c.args.part.now (bytes_of c.args.e) (c.requires ∙ sym (length_bytes current c.args.e))
