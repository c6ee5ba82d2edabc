use Rattle.std.proofs.Common.{refl, ◌∙◌, [], ◌+◌, arith, get_or, rules}
use Rattle.images.specs.Image.{decode}
use Rattle.amounts.proofs.Amounts.{from_test}
use Rattle.gather.specs.Rows.{place}
use Rattle.gather.proofs.Turns.{stands_there, not_standing, in_no_group, own_count, added_row}
use Rattle.gather.proofs.Summed.{low_room, high_room, uses_room, count_room, no_user}
use Rattle.gather.proofs.Rows.add_named.Goals as goal

pub returns-then-payer-ge-USERS : goal.returns-then-payer-ge-USERS
returns-then-payer-ge-USERS c =
    let a = c.args in
    let part = c.expense_part-part.ensures in
    not_standing a.image.now a.c c.requires.1 _ refl a.self.now c.requires.0 _ refl
    (no_user a.image.now c.fits-image c.requires.2 a.c c.requires.1 _ refl (let e = rw part at c.payer_in-payer.ensures in let t = c.if-payer-ge-USERS.true in omega arith))

pub returns-then-not-stands_in : goal.returns-then-not-stands_in
returns-then-not-stands_in c =
    let a = c.args in
    let part = c.expense_part-part.ensures in
    not_standing a.image.now a.c c.requires.1 _ (rw part at c.group_in-named.ensures) a.self.now c.requires.0 _ (rw part at c.stands_in.ensures) (c.if-not-stands_in.true)

pub add_standing-added-requires : goal.add_standing-added-requires
add_standing-added-requires c =
    let a = c.args in
    let part = c.expense_part-part.ensures in
    let g = c.group_in-named.result in
    let p = c.payer_in-payer.result in
    let low = get_or a.self.now.low (place g p) [] in
    let high = get_or a.self.now.high (place g p) [] in
    let row = c.requires.0.4 g p (omega arith) (omega arith) in (
      low_room a.image.now c.fits-image a.c g p (omega arith) low high row,
      high_room a.image.now c.fits-image a.c g p (omega arith) low high row,
      uses_room a.image.now c.fits-image ((decode a.image.now).rule g) g a.c _ (omega arith) (c.requires.0.5 g (omega arith)).0,
      search rules,
      rw part (stands_there a.image.now a.c c.requires.1 _ (rw part at c.group_in-named.ensures) _ (rw part at c.stands_in.ensures) c.if-not-stands_in.false),
    )

pub overflow_add-self : goal.overflow_add-self
overflow_add-self c =
    let a = c.args in
    let part = c.expense_part-part.ensures in
    let g = c.group_in-named.result in
    let p = c.payer_in-payer.result in
    let w = rw part at c.add_standing-added.ensures in
    let n = own_count a.image.now a.c c.requires.1 g (rw part at c.group_in-named.ensures) a.self.now c.requires.0 (omega arith) p (rw part at c.payer_in-payer.ensures) (omega arith) _ c.rule_at-rule.ensures _ _ _ c.from.result (w.0, w.1, w.2, c.from.ensures ∙ from_test _ ∙ w.3) in
    let m = count_room a.image.now c.fits-image ((decode a.image.now).rule g) g (a.c + 1) (omega arith) in
    omega arith

pub returns-then-g-lt-GROUP_COUNT : goal.returns-then-g-lt-GROUP_COUNT
returns-then-g-lt-GROUP_COUNT c =
    let a = c.args in
    let part = c.expense_part-part.ensures in
    let w = rw part at c.add_standing-added.ensures in
    added_row a.image.now a.c c.requires.1 c.group_in-named.result (rw part at c.group_in-named.ensures) a.self.now c.requires.0 (omega arith) c.payer_in-payer.result (rw part at c.payer_in-payer.ensures) (omega arith) _ c.rule_at-rule.ensures _ _ _ c.from.result (w.0, w.1, w.2, c.from.ensures ∙ from_test _ ∙ w.3)

pub returns-else-g-lt-GROUP_COUNT : goal.returns-else-g-lt-GROUP_COUNT
returns-else-g-lt-GROUP_COUNT c =
    let a = c.args in
    let part = c.expense_part-part.ensures in
    in_no_group a.image.now a.c c.requires.1 _ (rw part at c.group_in-named.ensures) a.self.now c.requires.0 (omega arith)
