use Rattle.std.proofs.Common.{refl, ◌≡◌, ◌*◌, ◌+◌, ◌^◌, ap, ◌∙◌, arith, bit_or}
use Rattle.std.proofs.lemmas.List.{get_or_default}
use Rattle.rules.specs.Tests.{number, sum_below}
use Rattle.sets.proofs.High.{below_next, one_user_more, all_users}
use Rattle.sets.proofs.high_mask.Goals as goal

pub loop-u-init : goal.loop-u-init
unfolding sum_below
loop-u-init g c = ((λ p d m. refl), omega arith)

pub loop-u-preserved : goal.loop-u-preserved
loop-u-preserved g c =
    let l = c.loop-u in
    let b = c.test.result in
    rw c.raised-set.ensures (
      (λ p d m.
          let x : b ≡ p l.u = m l.u b c.loop-u-test.true (rw (get_or_default c.args.items l.u d c.index-items-u.result (omega arith)) c.test.ensures) in
          ap (λ t. bit_or l.set (number t * 2 ^ (8 + l.u))) x ∙ one_user_more p l.u (l.invariant.0 p d m) l.invariant.1),
      below_next b l.u l.invariant.1,
    )

pub returns-clause-set : goal.returns-clause-set
returns-clause-set g c p d m =
    let u : c.loop-u.u ≡ 8 = omega arith in
    rw u at (c.loop-u.invariant.0 p d m) ∙ all_users p
