use Rattle.std.proofs.Common.{◌≡◌, take, flat_map}
use Rattle.std.proofs.lemmas.List.Edits.{sets}
use Rattle.format.specs.Bytes.{le32}
use Rattle.store.proofs.put_shares.Given as goal

abbrev pub invariant-loop-u : goal.invariant-loop-u
invariant-loop-u l = l.part ≡ sets l.fn.part 8 (flat_map le32 (take l.u l.s))
