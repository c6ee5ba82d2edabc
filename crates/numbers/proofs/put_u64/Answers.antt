use Rattle.std.proofs.Common.{sym, ap, ◌∙◌, ◌+◌, ◌/◌, ◌%◌}
use Rattle.std.proofs.lemmas.List.Edits.{sets}
use Rattle.format.specs.Bytes.{le32}
use Rattle.format.proofs.Laws.{sets_append}
use Rattle.numbers.proofs.put_u64.Goals as goal

pub returns : goal.returns
returns c =
    let a = c.args in
    let low = le32 (a.v % 4294967296) in
    let high = le32 (a.v / 4294967296) in
    c.put_u32-2.ensures ∙ ap (λ l. sets l (a.at + 4) high) c.put_u32.ensures ∙ sym (sets_append low high a.s.now a.at)
