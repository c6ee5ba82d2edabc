use Rattle.rules.proofs.Below.{all_none, all_more, all_false}
use Rattle.group_check.proofs.Rules.{fits_at, misfits, fits, known_more}
use Rattle.std.proofs.Common.{◌≡◌, refl, ◌∙◌, length-set, arith}
use Rattle.format.specs.Layout.{group_count}
use Rattle.rules.specs.Sound.{rules_fit}
use Rattle.images.specs.Image.{decode}
use Rattle.group_check.proofs.known_sets.Goals as goal

pub loop-g-init : goal.loop-g-init
loop-g-init c = (refl, all_none (fits_at c.args.image.now), λ i k. absurd (omega arith))

pub returns-in_err-set : goal.returns-in_err-set
unfolding rules_fit
returns-in_err-set c = rw c.from_residual.ensures (all_false (fits_at c.args.image.now) c.loop-g.g group_count (omega arith) (misfits ((decode c.args.image.now).counter c.loop-g.g) ((decode c.args.image.now).rule c.loop-g.g) c.in_err-set.ensures))

pub loop-g-preserved : goal.loop-g-preserved
loop-g-preserved c =
    let t = fits ((decode c.args.image.now).counter c.loop-g.g) ((decode c.args.image.now).rule c.loop-g.g) c.in_ok-set.set c.in_ok-set.ensures in
    (length-set c.loop-g.known c.loop-g.g c.in_ok-set.set ∙ c.loop-g.invariant.0, all_more (fits_at c.args.image.now) c.loop-g.g c.loop-g.invariant.1 t.0, known_more (decode c.args.image.now).counter c.loop-g.known c.loop-g.g _ (omega arith) c.loop-g.invariant.2 t.1)

pub returns : goal.returns
unfolding rules_fit
returns c = let z : c.loop-g.g ≡ group_count = omega arith in (rw z at c.loop-g.invariant.1, rw z at c.loop-g.invariant.2)
