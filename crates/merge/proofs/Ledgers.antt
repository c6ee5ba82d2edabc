-- What the two loops leave is the encoding of the merged ledger.
use Rattle.std.proofs.Common.{◌≡◌, refl, sym, ap, ap₂, ◌∙◌, Bool, true, false, cond, ℕ, zero, suc, max, ◌≤◌, ◌<◌, arith, eqb, ltb}
use Rattle.format.specs.Layout.{Version, v1, v2, v3, current, group_count, expense_size, expense_count, group_place, expense_place}
use Rattle.format.specs.Bytes.{Bytes, expense_of, bytes_of, group_of, rule_told_in, group_bytes_of, group_part, expense_part, splice}
use Rattle.format.specs.declared.ExpenseRecord.{ExpenseRecord}
use Rattle.rules.specs.Ledger.{Ledger, either_rule}
use Rattle.rules.specs.Merge.{merge_expense, merge_ledger}
use Rattle.images.specs.Meaning.{meaning, record_of, group_record_of, group_record_at}
use Rattle.images.specs.Image.{Checked, group_bytes, expense_bytes, encode, decode, home_of, replica_of, decode_in}
use Rattle.images.specs.Calls.{merged_image_in}
use Rattle.rules.proofs.Basics.{Same, same, other, same?, Less, less, more, less?, ltb_true, ltb_false}
use Rattle.rules.proofs.Theory.{ledger_path}
use Rattle.images.proofs.Codec.{group_told, expense_read}
use Rattle.images.proofs.Encoding.{group_part_lem, expense_part_lem}
use Rattle.images.proofs.Round.{encode_decode, expense_is, record_at, read_acks, part_octets, group_in_lem}
use Rattle.rules.proofs.Replaced.{with_expense, with_group}
use Rattle.images.proofs.Write.{encode_expense, encode_group, told_same}
use Rattle.merge.specs.Merged.{groups_merged, expenses_merged}
use Rattle.merge_record.specs.Merged.{larger_group, merged_record}
use Rattle.merge_record.proofs.Records.{merged_is}

-- The ledger whose first n groups, or expenses, have been merged.
abbrev groups_to : ℕ → Ledger → Ledger → Ledger
groups_to n l m = record {
  counter = λ g u. cond (ltb g n) (max (l.counter g u) (m.counter g u)) (l.counter g u);
  rule = λ g. cond (ltb g n) (either_rule (l.rule g) (m.rule g)) (l.rule g);
  expense = l.expense;
}

abbrev expenses_to : ℕ → Ledger → Ledger → Ledger
expenses_to n l m = record { counter = l.counter; rule = l.rule; expense = λ c. cond (ltb c n) (merge_expense (l.expense c) (m.expense c)) (l.expense c) }

-- What a version tells of the rule from two places, it tells of what it tells of each.
told_either : (v : Version) (k j : ℕ) → rule_told_in v (either_rule (rule_told_in v k) (rule_told_in v j)) ≡ rule_told_in v (either_rule k j)
told_either v1 k j = refl
told_either v2 k j = refl
told_either v3 k j = refl

-- A test of one number more.
below_suc : {A : Type 0} (x y z : A) (i n : ℕ) → (i ≡ n → z ≡ x) → cond (eqb i n) z (cond (ltb i n) x y) ≡ cond (ltb i (suc n)) x y
below_suc x y z i n h = go (same? i n) (less? i n)
  where
    go : Same i n → Less i n → cond (eqb i n) z (cond (ltb i n) x y) ≡ cond (ltb i (suc n)) x y
    go (same p a) _ = rw (a, ltb_true i (suc n) (omega arith)) (h p)
    go (other p a) (less k b) = rw (a, b, ltb_true i (suc n) (omega arith))
    go (other p a) (more k b) = rw (a, b, ltb_false i (suc n) (omega arith))

groups_zero : (l m : Ledger) → groups_to 0 l m ≡ l
groups_zero l m = ledger_path _ _ (λ g u. ap (λ t. cond t (max (l.counter g u) (m.counter g u)) (l.counter g u)) (ltb_false g 0 (omega arith)))
    (λ g. ap (λ t. cond t (either_rule (l.rule g) (m.rule g)) (l.rule g)) (ltb_false g 0 (omega arith))) (λ d. refl)

expenses_zero : (l m : Ledger) → expenses_to 0 l m ≡ l
expenses_zero l m = ledger_path _ _ (λ g u. refl) (λ g. refl) (λ d. ap (λ t. cond t (merge_expense (l.expense d) (m.expense d)) (l.expense d)) (ltb_false d 0 (omega arith)))

groups_suc : (n : ℕ) (l m : Ledger) → with_group (groups_to n l m) n (λ u. max (l.counter n u) (m.counter n u)) (either_rule (l.rule n) (m.rule n)) ≡ groups_to (suc n) l m
groups_suc n l m =
    ledger_path _ _ (λ g u. go g u)
    (λ g. below_suc (either_rule (l.rule g) (m.rule g)) (l.rule g) (either_rule (l.rule n) (m.rule n)) g n (λ p. ap (λ h. either_rule (l.rule h) (m.rule h)) (sym p))) (λ d. refl)
  where
    at_u : (b : Bool) (f g : ℕ → ℕ) (u : ℕ) → cond b f g u ≡ cond b (f u) (g u)
    at_u true f g u = refl
    at_u false f g u = refl

    go : (g u : ℕ) → cond {A = ℕ → ℕ} (eqb g n) (λ w. max (l.counter n w) (m.counter n w)) (λ w. cond (ltb g n) (max (l.counter g w) (m.counter g w)) (l.counter g w)) u
        ≡ cond (ltb g (suc n)) (max (l.counter g u) (m.counter g u)) (l.counter g u)
    go g u =
        at_u (eqb g n) (λ w. max (l.counter n w) (m.counter n w)) (λ w. cond (ltb g n) (max (l.counter g w) (m.counter g w)) (l.counter g w)) u
        ∙ below_suc (max (l.counter g u) (m.counter g u)) (l.counter g u) (max (l.counter n u) (m.counter n u)) g n (λ p. ap (λ h. max (l.counter h u) (m.counter h u)) (sym p))

expenses_suc : (n : ℕ) (l m : Ledger) → with_expense (expenses_to n l m) n (merge_expense (l.expense n) (m.expense n)) ≡ expenses_to (suc n) l m
expenses_suc n l m =
    ledger_path _ _ (λ g u. refl) (λ g. refl)
    (λ d. below_suc (merge_expense (l.expense d) (m.expense d)) (l.expense d) (merge_expense (l.expense n) (m.expense n)) d n (λ p. ap (λ h. merge_expense (l.expense h) (m.expense h)) (sym p)))

module _ (b d : Bytes) (ok : Checked b) (ok₂ : Checked d) where
  enc : Ledger → Bytes
  enc l = encode (home_of b) (replica_of b) l

  merged_expenses : (n : ℕ) → n ≤ expense_count → expenses_merged n b d ≡ enc (expenses_to n (decode b) (decode d))
  unfolding expenses_merged enc expense_bytes
  merged_expenses zero h = sym (encode_decode b ok) ∙ ap enc (sym (expenses_zero (decode b) (decode d)))
  merged_expenses (suc n) h =
      let l : Ledger = decode b in
      let m : Ledger = decode d in
      let ih : expenses_merged n b d ≡ enc (expenses_to n l m) = merged_expenses n (omega arith) in
      let k : n < expense_count = omega arith in
      let x : ExpenseRecord = expense_of (expense_part b n) in
      let y : ExpenseRecord = expense_of (expense_part d n) in
      let here : l.expense n ≡ meaning x = expense_is b ok n k in
      let there : m.expense n ≡ meaning y = expense_is d ok₂ n k in
      let same_x : record_of (meaning x) ≡ x = record_at b ok n k in
      let same_y : record_of (meaning y) ≡ y = record_at d ok₂ n k in
      let own : expense_of (expense_part (enc (expenses_to n l m)) n) ≡ x =
      ap expense_of (expense_part_lem current (home_of b) (replica_of b) (expenses_to n l m) n k) ∙ expense_read (cond (ltb n n) (merge_expense (l.expense n) (m.expense n)) (l.expense n))
      ∙ ap (λ t. record_of (cond t (merge_expense (l.expense n) (m.expense n)) (l.expense n))) (ltb_false n n (omega arith)) ∙ ap record_of here ∙ same_x in
      let rec : merged_record x y ≡ record_of (merge_expense (l.expense n) (m.expense n)) =
      merged_is x y same_x same_y (read_acks (expense_part b n) (part_octets expense_size (expense_place n) b ok.octets)) (read_acks (expense_part d n) (part_octets expense_size (expense_place n) d ok₂.octets))
      ∙ sym (ap₂ (λ o p. record_of (merge_expense o p)) here there) in
      ap (λ t. splice t (expense_place n) (bytes_of (merged_record (expense_of (expense_part t n)) (expense_of (expense_part d n))))) ih
      ∙ ap (λ t. splice (enc (expenses_to n l m)) (expense_place n) (bytes_of (merged_record t y))) own
      ∙ ap (λ t. splice (enc (expenses_to n l m)) (expense_place n) (bytes_of t)) rec
      ∙ sym (encode_expense current (home_of b) (replica_of b) (expenses_to n l m) n (merge_expense (l.expense n) (m.expense n)) k)
      ∙ ap enc (expenses_suc n l m)

  merged_groups : (l : Ledger) (n : ℕ) → n ≤ group_count → groups_merged n (enc l) d ≡ enc (groups_to n l (decode d))
  unfolding groups_merged enc group_bytes
  merged_groups l zero h = ap enc (sym (groups_zero l (decode d)))
  merged_groups l (suc n) h =
      let m : Ledger = decode d in
      let ih : groups_merged n (enc l) d ≡ enc (groups_to n l m) = merged_groups l n (omega arith) in
      let k : n < group_count = omega arith in
      let f : ℕ → ℕ = λ u. max (l.counter n u) (m.counter n u) in
      let e : ltb n n ≡ false = ltb_false n n (omega arith) in
      let own : group_of (group_part (enc (groups_to n l m)) n) ≡ group_record_at l n =
      ap group_of (group_part_lem current (home_of b) (replica_of b) (groups_to n l m) n k) ∙ group_told current ((groups_to n l m).counter n) ((groups_to n l m).rule n)
      ∙ ap (λ t. group_record_of (λ u. cond t (max (l.counter n u) (m.counter n u)) (l.counter n u)) (rule_told_in current (cond t (either_rule (l.rule n) (m.rule n)) (l.rule n)))) e in
      let oth : group_of (group_part d n) ≡ group_record_at m n = group_in_lem current d n k in
      let rec : group_bytes_of (larger_group (group_record_at l n) (group_record_at m n)) ≡ group_bytes current f (either_rule (l.rule n) (m.rule n)) =
      told_same current (larger_group (group_record_at l n) (group_record_at m n)) (group_record_of f (either_rule (l.rule n) (m.rule n))) refl (told_either current (l.rule n) (m.rule n)) in
      ap (λ t. splice t (group_place n) (group_bytes_of (larger_group (group_of (group_part t n)) (group_of (group_part d n))))) ih
      ∙ ap₂ (λ x y. splice (enc (groups_to n l m)) (group_place n) (group_bytes_of (larger_group x y))) own oth
      ∙ ap (splice (enc (groups_to n l m)) (group_place n)) rec
      ∙ sym (encode_group current (home_of b) (replica_of b) (groups_to n l m) n f (either_rule (l.rule n) (m.rule n)) k)
      ∙ ap enc (groups_suc n l m)

  all_merged : groups_to group_count (expenses_to expense_count (decode b) (decode d)) (decode d) ≡ merge_ledger (decode b) (decode d)
  unfolding decode_in
  all_merged = ledger_path _ _ (λ g u. groups g u (less? g group_count)) (λ g. rules g (less? g group_count)) (λ c. each_expense c (less? c expense_count))
    where
      rules : (g : ℕ) → Less g group_count → cond (ltb g group_count) (either_rule ((decode b).rule g) ((decode d).rule g)) ((decode b).rule g) ≡ either_rule ((decode b).rule g) ((decode d).rule g)
      rules g (less k t) = rw t
      rules g (more k t) = rw t

      groups : (g u : ℕ) → Less g group_count → cond (ltb g group_count) (max ((decode b).counter g u) ((decode d).counter g u)) ((decode b).counter g u) ≡ max ((decode b).counter g u) ((decode d).counter g u)
      groups g u (less k t) = rw t
      groups g u (more k t) = rw t

      each_expense : (c : ℕ) → Less c expense_count → cond (ltb c expense_count) (merge_expense ((decode b).expense c) ((decode d).expense c)) ((decode b).expense c) ≡ merge_expense ((decode b).expense c) ((decode d).expense c)
      each_expense c (less k t) = rw t
      each_expense c (more k t) = rw t

  pub merged_image : groups_merged group_count (expenses_merged expense_count b d) d ≡ merged_image_in current b d
  unfolding merged_image_in enc
  merged_image =
      ap (λ t. groups_merged group_count t d) (merged_expenses expense_count (omega arith))
      ∙ merged_groups (expenses_to expense_count (decode b) (decode d)) group_count (omega arith)
      ∙ ap enc all_merged
