use Rattle.store.proofs.Dated.{day_behind}
use Rattle.std.proofs.Common.{ap, ◌∙◌}
use Rattle.std.proofs.lemmas.List.Edits.{sets}
use Rattle.format.specs.Bytes.{le16}
use Rattle.store.proofs.put_dated.Goals as goal

pub returns : goal.returns
returns c = c.put_u16.ensures ∙ ap (λ l. sets l 40 (le16 c.args.day)) c.copy_forty.ensures ∙ day_behind c.args.part.now c.args.old.now c.args.day c.requires.0 c.requires.1
