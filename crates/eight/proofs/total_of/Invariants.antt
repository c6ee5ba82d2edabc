use Rattle.std.proofs.Common.{◌≡◌, ◌*◌, ◌≤◌, sum, take}
use Rattle.eight.proofs.total_of.Given as goal

abbrev pub invariant-loop-share : goal.invariant-loop-share
invariant-loop-share l = (l.total ≡ sum (take l.share-index l.fn.s)) × (l.total ≤ 4294967295 * l.share-index)
