-- Zeros whose expenses are marked absent are no group and no expense; behind a header they are the empty image.
use Rattle.std.proofs.Common.{◌≡◌, refl, sym, ap, ◌∙◌, [], ◌++◌, append_assoc, append-nil, ℕ, zero, suc, ◌+◌, ◌-◌, ◌*◌, zero-add, arith, length, take, drop, set, replicate, length-append, length-take-le, take_at}
use mathlib.Core.Option.{none}
use lib.ListN.{replicate-append-replicate}
use lib.Seq.{drop-length, set_at, sets, sets-eq}
use borrow.Rule.Slice.PartMut.{mid_of, post_of, put_mid, mid_len, Post-is}
use Rattle.format.specs.Layout.{current, groups_at, group_size, group_count, groups_size, expenses_at, expense_size, expense_count, expenses_size, image_size, expense_place, no_expense}
use Rattle.format.specs.Bytes.{Bytes, forty_of, bytes_in, group_bytes_in}
use Rattle.images.specs.Meaning.{record_of}
use Rattle.rules.specs.Ledger.{empty}
use Rattle.images.specs.Image.{group_bytes, expense_bytes, table, header, groups, expenses, encode, encode_in}
use Rattle.images.proofs.Codec.{group_wide, expense_wide}
use Rattle.images.proofs.Encoding.{table_length}
use Rattle.blank.specs.Blank.{absent_below, blanked}

zeros_begin_with_absent_groups : (m : ℕ) → replicate (groups_size + m) 0 ≡ groups empty ++ replicate m 0
unfolding table group_bytes group_bytes_in
zeros_begin_with_absent_groups m = sym (replicate-append-replicate groups_size m 0)

-- The bytes of n absent expenses.
abbrev absents : ℕ → Bytes
absents n = table n (λ c. expense_bytes current none)

-- One expense of zeros behind p is marked, and then n of them.
zeros_marked_are_an_absent_expense : (p q : Bytes) (n : ℕ) → length p ≡ n → set (p ++ (replicate expense_size 0 ++ q)) n no_expense ≡ (p ++ expense_bytes current none) ++ q
unfolding expense_bytes bytes_in forty_of record_of
zeros_marked_are_an_absent_expense p q n e = set_at p 0 _ no_expense n e ∙ sym (append_assoc p (expense_bytes current none) q)

zeros_marked_are_absent_expenses : (p : Bytes) → length p ≡ expenses_at → (n m : ℕ) → absent_below n (p ++ replicate (n * expense_size + m) 0) ≡ (p ++ absents n) ++ replicate m 0
unfolding absent_below table
zeros_marked_are_absent_expenses p e zero m = ap (λ k. p ++ replicate k 0) (zero-add m) ∙ ap (λ l. l ++ replicate m 0) (sym (append-nil p))
zeros_marked_are_absent_expenses p e (suc n) m =
    let t : length (absents n) ≡ n * expense_size = table_length expense_size n (λ c. expense_bytes current none) (λ c. expense_wide current none) in
    let long : length (p ++ absents n) ≡ expense_place n = length-append p (absents n) ∙ omega arith in
    let more : suc n * expense_size + m ≡ n * expense_size + (expense_size + m) = omega arith in
    rw (more, zeros_marked_are_absent_expenses p e n (expense_size + m), ← replicate-append-replicate {A = ℕ} expense_size m 0) (zeros_marked_are_an_absent_expense (p ++ absents n) (replicate m 0) (expense_place n) long)
    ∙ ap (λ l. l ++ replicate m 0) (append_assoc p (absents n) (expense_bytes current none))

-- z in the place of all that is behind the header, then the marks.
pub zeros_then_marks_are_blanked : (b z e : Bytes) → length b ≡ image_size → z ≡ replicate (length (mid_of groups_at (image_size - groups_at) b)) 0
    → e ≡ absent_below expense_count (put_mid groups_at (image_size - groups_at) b z) → e ≡ blanked b
unfolding blanked
zeros_then_marks_are_blanked b z e len ez ee =
    let h : Bytes = take groups_at b in
    let gs : Bytes = groups empty in
    let gl : length gs ≡ groups_size = table_length group_size group_count (λ g. group_bytes current (λ u. 0) 0) (λ g. group_wide current (λ u. 0) 0) in
    let hl : length h ≡ groups_at = length-take-le groups_at b (omega arith) in
    let long : length (h ++ gs) ≡ expenses_at = length-append h gs ∙ omega arith in
    let count : length (mid_of groups_at (image_size - groups_at) b) ≡ groups_size + expenses_size = mid_len groups_at image_size b (omega arith) in
    let zeros : z ≡ gs ++ replicate expenses_size 0 = ez ∙ ap (λ n. replicate n 0) count ∙ zeros_begin_with_absent_groups expenses_size in
    let rest : post_of groups_at (image_size - groups_at) b ≡ [] = Post-is groups_at image_size b (omega arith) ∙ ap (λ n. drop n b) (sym len) ∙ drop-length b in
    let whole : put_mid groups_at (image_size - groups_at) b z ≡ (h ++ gs) ++ replicate expenses_size 0 =
    ap (λ l. h ++ (z ++ l)) rest ∙ ap (λ l. h ++ l) (append-nil z ∙ zeros) ∙ sym (append_assoc h gs (replicate expenses_size 0)) in
    ee ∙ ap (absent_below expense_count) whole ∙ zeros_marked_are_absent_expenses (h ++ gs) long expense_count 0 ∙ append-nil ((h ++ gs) ++ expenses empty) ∙ append_assoc h gs (expenses empty)

pub header_then_blanked_is_empty : (home : ℕ → ℕ) (r : ℕ) (b : Bytes) → length b ≡ image_size → blanked (sets b 0 (header home r)) ≡ encode home r empty
unfolding blanked encode_in
header_then_blanked_is_empty home r b len =
    let front : take groups_at (sets b 0 (header home r)) ≡ header home r = ap (take groups_at) (sets-eq (header home r) b 0 (omega arith)) ∙ take_at (header home r) (drop groups_at b) groups_at refl in
    ap (λ l. l ++ (groups empty ++ expenses empty)) front
