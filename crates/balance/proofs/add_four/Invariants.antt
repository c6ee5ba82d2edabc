use Rattle.std.proofs.Common.{◌+◌}
use Rattle.images.specs.Image.{decode}
use Rattle.balance.specs.Sums.{together, valid_to, SumsTo}
use Rattle.balance.specs.Dated.{from_to}
use Rattle.balance.proofs.add_four.Given as goal

abbrev pub invariant-loop-c : goal.invariant-loop-c
invariant-loop-c l =
    let d = from_to l.days.first l.days.last (decode l.image) in
    SumsTo d l.rule l.g l.c (together l.paid l.held l.uses (valid_to l.from d l.rule l.g + l.added))
