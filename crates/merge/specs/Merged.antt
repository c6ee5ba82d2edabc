-- The image after the first n groups or expenses have been merged, in the shape of the loops.
use Rattle.std.specs.Prelude.{ℕ, zero, suc}
use Rattle.format.specs.Layout.{group_place, expense_place}
use Rattle.format.specs.Bytes.{Bytes, expense_of, bytes_of, group_of, group_bytes_of, group_part, expense_part, splice}
use Rattle.merge_record.specs.Merged.{larger_group, merged_record}

unfoldable pub groups_merged : ℕ → Bytes → Bytes → Bytes
groups_merged zero own other = own
groups_merged (suc n) own other =
    let now : Bytes = groups_merged n own other in
    splice now (group_place n) (group_bytes_of (larger_group (group_of (group_part now n)) (group_of (group_part other n))))

unfoldable pub expenses_merged : ℕ → Bytes → Bytes → Bytes
expenses_merged zero own other = own
expenses_merged (suc n) own other =
    let now : Bytes = expenses_merged n own other in
    splice now (expense_place n) (bytes_of (merged_record (expense_of (expense_part now n)) (expense_of (expense_part other n))))
