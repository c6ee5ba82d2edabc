use Rattle.group_check.proofs.Rules.{known_more}
use Rattle.older_check.proofs.Shared.{set_known}
use Rattle.std.proofs.Common.{◌≡◌, refl, ◌∙◌, length-set, arith}
use Rattle.format.specs.Layout.{v1, group_count}
use Rattle.images.specs.Image.{decode_in}
use Rattle.older_check.proofs.known_sets.Goals as goal

pub loop-g-init : goal.loop-g-init
loop-g-init c = (refl, λ i k. absurd (omega arith))

pub loop-g-preserved : goal.loop-g-preserved
loop-g-preserved c = (length-set c.loop-g.known c.loop-g.g c.known_in.result ∙ c.loop-g.invariant.0, known_more (decode_in v1 c.args.old.now).counter c.loop-g.known c.loop-g.g _ (omega arith) c.loop-g.invariant.1 (set_known c.args.old.now c.loop-g.g _ (omega arith) c.known_in.ensures))

pub returns : goal.returns
returns c = let z : c.loop-g.g ≡ group_count = omega arith in rw z at c.loop-g.invariant.1
