use Rattle.std.proofs.Common.{◌≡◌, ap, ◌∙◌, ◌+◌, ◌*◌, arith}
use Rattle.format.specs.Layout.{expense_count}
use Rattle.images.specs.Image.{decode}
use Rattle.standing.specs.Standing.{standing_to}
use Rattle.standing.proofs.Walk.{start, whole, skip_four}
use Rattle.standing.proofs.standing_of.Goals as goal
use Rattle.standing.proofs.standing_of.Goals.{then-four_in, else-four_in}

pub loop-row-init : goal.loop-row-init
loop-row-init c = start c.args.image.now c.args.rule c.args.g c.args.u

pub loop-row-preserved : goal.loop-row-preserved
loop-row-preserved c =
    let a = c.args in
    let l = c.loop-row in
    let z : 4 * l.row + 4 ≡ 4 * (l.row + 1) = omega arith in
    let e = ap (λ n. standing_to n (decode a.image.now) a.rule a.g a.u) z in
    elim c.if-four_in.branch [
      | then-four_in w ↦ w.s-is ∙ w.with_four-s.ensures ∙ e
      | else-four_in w ↦ w.s-is ∙ skip_four a.image.now a.rule a.g a.u (4 * l.row) (omega arith) _ c.four_in.ensures w.if-four_in.false _ l.invariant ∙ e
    ]

pub returns : goal.returns
returns c = let z : 4 * c.loop-row.row ≡ expense_count = omega arith in c.loop-row.invariant ∙ whole c.args.image.now c.args.rule c.args.g c.args.u _ z
