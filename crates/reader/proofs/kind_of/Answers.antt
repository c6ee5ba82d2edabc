use Rattle.std.proofs.Common.{◌∙◌, ap}
use Rattle.reader.specs.Reading.{deed_of}
use Rattle.reader.specs.Kind.{kind_number}
use Rattle.reader.proofs.Read.{deed_is}
use Rattle.reader.proofs.kind_of.Goals as goal

pub returns : goal.returns
returns c =
    let r = c.args in
    deed_is r.kind r.actor r.other r.group r.expense r.rest c.try_from.result c.try_from.ensures _ (c.deed.ensures.variant ∙ ap (λ k. deed_of (kind_number k) r.other r.group r.expense r.rest) c.unwrap_or-kind.ensures)
