use Rattle.std.proofs.Common.{◌≡◌, sym, arith, rules}
use Rattle.std.proofs.lemmas.List.Edits.{sets-eq}
use Rattle.numbers.proofs.copy_forty.Goals as goal

pub returns : goal.returns
returns c =
    let e = rw c.requires.0 at (sets-eq c.args.from.now c.args.to.now 0 (omega arith)) in
    let f : c.unwrap-forty.result.now ≡ c.args.from.now = search rules in
    rw f (sym e)
