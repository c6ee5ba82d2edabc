-- One turn of each loop, over plain variables.
use Rattle.std.proofs.Common.{◌≡◌, refl, ap, ap₂, ◌∙◌, ℕ, ◌+◌, ◌-◌, add-one, length, take, drop}
use borrow.Rule.Slice.PartMut.{put_mid}
use Rattle.format.specs.Layout.{current, group_place, expense_place, expense_size}
use Rattle.format.specs.Bytes.{Bytes, expense_of, bytes_of, group_of, group_bytes_of, group_part, expense_part, splice}
use Rattle.format.specs.declared.GroupRecord.{GroupRecord}
use Rattle.format.proofs.Laws.{handed, put_part, length_bytes}
use Rattle.merge_record.specs.Merged.{larger_group, merged_record}
use Rattle.merge.specs.Merged.{groups_merged, expenses_merged}

pub no_group_lem : (own other : Bytes) → own ≡ groups_merged 0 own other
unfolding groups_merged
no_group_lem own other = refl

pub group_turn : (own₀ other own new : Bytes) (n : ℕ) (r a b : GroupRecord) → own ≡ groups_merged n own₀ other → a ≡ group_of (group_part own n) → b ≡ group_of (group_part other n) → r ≡ larger_group a b
    → new ≡ splice own (group_place n) (group_bytes_of r) → new ≡ groups_merged (n + 1) own₀ other
unfolding groups_merged
group_turn own₀ other own new n r a b h p q s w =
    w ∙ ap (λ t. splice own (group_place n) (group_bytes_of t)) (s ∙ ap₂ larger_group p q)
    ∙ ap (λ t. splice t (group_place n) (group_bytes_of (larger_group (group_of (group_part t n)) (group_of (group_part other n))))) h
    ∙ rw add-one

pub no_expense_lem : (own other : Bytes) → own ≡ expenses_merged 0 own other
unfolding expenses_merged
no_expense_lem own other = refl

pub expense_turn : (own₀ other own new p q : Bytes) (n : ℕ) → own ≡ expenses_merged n own₀ other
    → p ≡ bytes_of (merged_record (expense_of (take ((expense_place n + expense_size) - expense_place n) (drop (expense_place n) own)))
    (expense_of q)) → q ≡ expense_part other n
    → new ≡ put_mid (expense_place n) ((expense_place n + expense_size) - expense_place n) own p → new ≡ expenses_merged (n + 1) own₀ other
unfolding expenses_merged
expense_turn own₀ other own new p q n h e t w =
    let here : p ≡ bytes_of (merged_record (expense_of (expense_part own n)) (expense_of (expense_part other n))) =
    e ∙ ap₂ (λ a b. bytes_of (merged_record (expense_of a) (expense_of b))) (handed own n) t in
    w ∙ put_part (expense_place n) expense_size own p (ap length here ∙ length_bytes current _)
    ∙ ap (splice own (expense_place n)) here
    ∙ ap (λ t. splice t (expense_place n) (bytes_of (merged_record (expense_of (expense_part t n)) (expense_of (expense_part other n))))) h
    ∙ rw add-one
