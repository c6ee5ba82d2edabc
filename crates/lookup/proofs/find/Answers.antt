use Rattle.std.proofs.Common.{◌≡◌, ap, ◌∙◌, not, eqb, length, rules}
use Rattle.std.specs.Bool.{then_some}
use Rattle.format.specs.Layout.{image_size, no_expense}
use Rattle.format.specs.Bytes.{expense_part}
use Rattle.lookup.proofs.There.{unchecked, above, told, long, passing}
use Rattle.lookup.proofs.find.Goals as goal

pub returns-then-is_err : goal.returns-then-is_err
returns-then-is_err c = unchecked _ _ c.check.result c.check.ensures c.if-is_err.ensures.value

pub returns-then-c-ge-EXPENSE_COUNT : goal.returns-then-c-ge-EXPENSE_COUNT
returns-then-c-ge-EXPENSE_COUNT c = above _ _ c.if-c-ge-EXPENSE_COUNT.true

pub unwrap-image-requires : goal.unwrap-image-requires
unwrap-image-requires c = let long : length c.args.image.now ≡ image_size = long c.args.image.now 0 _ c.check.ensures (passing c.check.result c.if-is_err.ensures.value) in search (rules, long)

pub returns : goal.returns
returns c =
    let image : c.unwrap-image.result.now ≡ c.args.image.now = search rules in
    let part : c.expense_part.result.now ≡ expense_part c.args.image.now c.args.expense = rw image at c.expense_part.ensures in
    c.then_some.ensures ∙ ap (λ p. then_some (not (eqb c.payer_in.result no_expense)) p) c.place_of-at.ensures
    ∙ told c.args.image.now c.args.expense _ _ c.check.ensures (passing c.check.result c.if-is_err.ensures.value) c.if-c-ge-EXPENSE_COUNT.false (rw part at c.payer_in.ensures)
