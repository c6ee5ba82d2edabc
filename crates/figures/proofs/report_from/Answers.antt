use native.Mathlib.Omega.{arith}
use Rattle.rules.specs.Tests.{eight_at}
use Rattle.amounts.proofs.Amounts.{eight_bound}
use Rattle.parts.proofs.Parts.{gifts_small, parts_le}
use Rattle.figures.proofs.Made.{report_made}
use Rattle.figures.proofs.report_from.Goals as goal

pub total-gifts-requires : goal.total-gifts-requires
total-gifts-requires c = gifts_small c.args.f _ _ c.gifts_of-all.result c.gifts_of-all.ensures (λ u. (c.requires u).0)

pub parts_of-parts-requires : goal.parts_of-parts-requires
parts_of-parts-requires c = (c.total-gifts.ensures.1, λ u. rw c.widened-weights.ensures (eight_bound (eight_at c.args.sums.uses) 512 (λ v. (c.requires v).2) u))

pub lines_of-lines-requires : goal.lines_of-lines-requires
lines_of-lines-requires c = let g = gifts_small c.args.f _ _ c.gifts_of-all.result c.gifts_of-all.ensures (λ u. (c.requires u).0) in let t = c.total-gifts.ensures.1 in λ u. let p = parts_le c.args.rule c.args.f c.total-gifts.result c.widened-weights.result c.parts_of-parts.result c.parts_of-parts.ensures u in ((c.requires u).0, (c.requires u).1, g u, omega arith)

pub returns : goal.returns
returns c = report_made c.args.rule c.args.f c.args.sums _ _ _ _ _ _ c.gifts_of-all.ensures c.total-gifts.ensures.0 c.members_in-members.ensures c.widened-weights.ensures c.parts_of-parts.ensures c.lines_of-lines.ensures
