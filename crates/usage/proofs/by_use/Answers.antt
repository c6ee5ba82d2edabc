use mathlib.Core.Path.{◌∙◌}
use Rattle.usage.proofs.Laws.{quotients_small, remainders_small, quotients_within, by_use_made}
use Rattle.usage.proofs.by_use.Goals as goal

pub sum_over-requires : goal.sum_over-requires
sum_over-requires c = quotients_small c.args.f _ c.args.w _ c.requires.2 _ c.products_of-n.ensures _ c.quotients_of-q.ensures c.requires.0 c.requires.1

pub overflow_sub-left : goal.overflow_sub-left
overflow_sub-left c = quotients_within c.args.f _ c.args.w _ c.requires.2 _ c.products_of-n.ensures _ c.quotients_of-q.ensures _ c.sum_over.ensures c.requires.3

pub cents_of-requires : goal.cents_of-requires
cents_of-requires c = (quotients_small c.args.f _ c.args.w _ c.requires.2 _ c.products_of-n.ensures _ c.quotients_of-q.ensures c.requires.0 c.requires.1, remainders_small c.args.f _ c.args.w _ c.requires.2 _ c.products_of-n.ensures _ c.quotients_of-q.ensures c.requires.0 c.requires.1 c.requires.3 _ c.remainders_of-r.ensures)

pub returns : goal.returns
returns c = c.cents_of.ensures ∙ by_use_made c.args.f _ c.args.w _ c.requires.2 _ c.products_of-n.ensures _ c.quotients_of-q.ensures _ c.remainders_of-r.ensures _ c.sum_over.ensures
