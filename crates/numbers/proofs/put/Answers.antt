use Rattle.std.proofs.Common.{◌≡◌, sym, ◌+◌, ◌-◌, length, drop-drop, append_assoc, arith}
use Rattle.std.proofs.lemmas.List.Edits.{sets-eq}
use Rattle.numbers.proofs.put.Goals as goal

pub returns : goal.returns
returns g c =
    let k : c.args.at + g.row.N - c.args.at ≡ length c.args.bytes = omega arith in
    rw (k, c.copy_from_slice.ensures.after, drop-drop, ← append_assoc) (sym (sets-eq c.args.bytes c.args.s.now c.args.at (omega arith)))
