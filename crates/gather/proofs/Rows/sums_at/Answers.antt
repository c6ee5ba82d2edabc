use Rattle.std.proofs.Common.{◌≡◌, refl, ap, ◌∙◌, [], arith, get_or, length-set}
use Rattle.format.specs.Layout.{user_count}
use Rattle.rules.specs.Tests.{sum8, sum_below, eight_at, eight_of}
use Rattle.gather.specs.Rows.{whole_at, sums_from}
use Rattle.gather.proofs.Columns.{paid_next, paid_all, held_next, held_room, row_room}
use Rattle.gather.proofs.Rows.sums_at.Goals as goal

pub loop-p-init : goal.loop-p-init
unfolding sum_below
loop-p-init c = (refl, λ q k. absurd (omega arith), refl)

pub add_amounts-requires : goal.add_amounts-requires
add_amounts-requires c =
    let a = c.args in
    let l = c.loop-p in (
      held_room (whole_at a.self.now a.g) l.p _ l.invariant.2 (omega arith) (λ q u k. c.requires.1 q u k),
      row_room (whole_at a.self.now a.g l.p) _ c.whole_of-row.ensures (λ u. c.requires.1 l.p u (omega arith)),
    )

pub loop-p-preserved : goal.loop-p-preserved
loop-p-preserved c =
    let a = c.args in
    let l = c.loop-p in
    let w = c.whole_of-row.ensures in (
      simp length-set (omega arith),
      paid_next (λ q. sum8 (whole_at a.self.now a.g q)) l.paid l.invariant.0 l.p _ (omega arith) (c.total.ensures.0 ∙ ap (λ x. sum8 (eight_at x)) w) l.invariant.1,
      held_next (whole_at a.self.now a.g) l.p l.held l.invariant.2 _ _ w c.add_amounts.ensures,
    )

pub returns : goal.returns
unfolding sums_from
returns c =
    let a = c.args in
    let l = c.loop-p in
    let z : l.p ≡ user_count = omega arith in
    let paid = paid_all (λ q. sum8 (whole_at a.self.now a.g q)) l.paid l.invariant.0 l.p z l.invariant.1 in
    let held = l.invariant.2 ∙ ap (λ n. eight_of (λ u. sum_below n (λ q. whole_at a.self.now a.g q u))) z in
    λ i. record { paid = paid i; held = held i; uses = get_or a.self.now.uses a.g []; expenses = get_or a.self.now.counts a.g 0 }
