-- One expense or one group replaced is one part of the image replaced, in each version.
use mathlib.Core.Path.{◌≡◌, refl, sym, ap, ap₂, ◌∙◌}
use mathlib.Core.Bool.{Bool, true, false, cond, ◌&&◌}
use mathlib.Core.Option.{Option, some}
use mathlib.Core.List.{◌++◌, append_assoc}
use Prim.Native.Nat.{ℕ, zero, suc, ◌+◌, ◌*◌, ◌≤◌, ◌<◌}
use native.Mathlib.Omega.{arith}
use lib.Dec.{eqb}
use lib.ListN.{length, take, drop, set}
use lib.Seq.{take-append-add, drop-append-add, take-append-le, drop-append-le}
use Rattle.format.specs.Layout.{Version, v1, v2, v3, group_size_in, group_count, expense_size_in, expense_count, group_place_in, expense_place_in}
use Rattle.format.specs.Bytes.{Bytes, le16, counter_bytes, bytes_in, rule_told_in, group_bytes_in, splice}
use Rattle.format.specs.declared.ExpenseRecord.{ExpenseRecord}
use Rattle.format.specs.declared.GroupRecord.{GroupRecord}
use Rattle.format.proofs.Laws.{group_inside}
use Rattle.rules.specs.Ledger.{Expense, Ledger}
use Rattle.rules.specs.Step.{founds, counts, states, acks, add_ack, set_counter, apply}
use Rattle.images.specs.Meaning.{record_of, group_record_of}
use Rattle.rules.specs.Tests.{eight_of}
use Rattle.images.specs.Image.{group_bytes, expense_bytes, header_in, groups_in, expenses_in, encode_in, decode_in, home_of, replica_of, CheckedIn}
use Rattle.rules.proofs.Basics.{Same, same, other, same?}
use Rattle.rules.proofs.Theory.{ledger_path}
use Rattle.images.proofs.Codec.{group_wide, expense_wide}
use Rattle.images.proofs.Encoding.{table_put, groups_length}
use Rattle.rules.proofs.Replaced.{with_expense, with_group}
use Rattle.images.proofs.Round.{table_same, encode_decode}

cond_both : {A B C : Type 0} (f : A → B → C) (b : Bool) (x y : A) (s t : B) → f (cond b x y) (cond b s t) ≡ cond b (f x s) (f y t)
cond_both f true x y s t = refl
cond_both f false x y s t = refl

cond_out : {A B : Type 0} (f : A → B) (b : Bool) (x y : A) → f (cond b x y) ≡ cond b (f x) (f y)
cond_out f true x y = refl
cond_out f false x y = refl

expenses_put : (v : Version) (l : Ledger) (c : ℕ) (o : Option Expense) → c < expense_count → expenses_in v (with_expense l c o) ≡ take (c * expense_size_in v) (expenses_in v l) ++ (expense_bytes v o ++ drop (c * expense_size_in v + expense_size_in v) (expenses_in v l))
expenses_put v l c o k =
    table_same expense_count _ _ (λ d j. cond_out (expense_bytes v) (eqb d c) o (l.expense d))
    ∙ sym (table_put (expense_size_in v) expense_count (λ d. expense_bytes v (l.expense d)) (λ d. expense_wide v (l.expense d)) c (expense_bytes v o) k)

groups_put : (v : Version) (l : Ledger) (g : ℕ) (f : ℕ → ℕ) (n : ℕ) → g < group_count
    → groups_in v (with_group l g f n) ≡ take (g * group_size_in v) (groups_in v l) ++ (group_bytes v f n ++ drop (g * group_size_in v + group_size_in v) (groups_in v l))
groups_put v l g f n k =
    table_same group_count _ _ (λ h j. cond_both (group_bytes v) (eqb h g) f (l.counter h) n (l.rule h))
    ∙ sym (table_put (group_size_in v) group_count (λ h. group_bytes v (l.counter h) (l.rule h)) (λ h. group_wide v (l.counter h) (l.rule h)) g (group_bytes v f n) k)

splice_right : (a b : Bytes) (i : ℕ) (x : Bytes) → splice (a ++ b) (length a + i) x ≡ a ++ splice b i x
unfolding splice
splice_right a b i x =
    let p : take (length a + i) (a ++ b) ≡ a ++ take i b = take-append-add a b i in
    let q : drop (length a + i + length x) (a ++ b) ≡ drop (i + length x) b =
    (let z : length a + i + length x ≡ length a + (i + length x) = omega arith in ap (λ n. drop n (a ++ b)) z) ∙ drop-append-add a b (i + length x) in
    rw (p, q) (append_assoc a (take i b) (x ++ drop (i + length x) b))

splice_left : (a b : Bytes) (i : ℕ) (x : Bytes) → i + length x ≤ length a → splice (a ++ b) i x ≡ splice a i x ++ b
unfolding splice
splice_left a b i x h = rw (take-append-le i a b (omega arith), drop-append-le (i + length x) a b h) (simp append_assoc)

pub encode_expense : (v : Version) (home : ℕ → ℕ) (r : ℕ) (l : Ledger) (c : ℕ) (o : Option Expense) → c < expense_count
    → encode_in v home r (with_expense l c o) ≡ splice (encode_in v home r l) (expense_place_in v c) (expense_bytes v o)
unfolding encode_in splice
encode_expense v home r l c o k =
    let a : expenses_in v (with_expense l c o) ≡ splice (expenses_in v l) (c * expense_size_in v) (expense_bytes v o) = expenses_put v l c o k ∙ ap (λ n. take (c * expense_size_in v) (expenses_in v l) ++ (expense_bytes v o ++ drop (c * expense_size_in v + n) (expenses_in v l))) (sym (expense_wide v o)) in
    let b : splice (groups_in v l ++ expenses_in v l) (length (groups_in v l) + c * expense_size_in v) (expense_bytes v o) ≡ groups_in v l ++ splice (expenses_in v l) (c * expense_size_in v) (expense_bytes v o) = splice_right (groups_in v l) (expenses_in v l) (c * expense_size_in v) (expense_bytes v o) in
    let d : splice (header_in v home r ++ (groups_in v l ++ expenses_in v l)) (16 + (length (groups_in v l) + c * expense_size_in v)) (expense_bytes v o) ≡ header_in v home r ++ splice (groups_in v l ++ expenses_in v l) (length (groups_in v l) + c * expense_size_in v) (expense_bytes v o) =
    splice_right (header_in v home r) (groups_in v l ++ expenses_in v l) (length (groups_in v l) + c * expense_size_in v) (expense_bytes v o) in
    let e : 16 + (length (groups_in v l) + c * expense_size_in v) ≡ expense_place_in v c = (let z = groups_length v l in omega arith) in
    ap (λ t. header_in v home r ++ (groups_in v l ++ t)) a ∙ ap (λ t. header_in v home r ++ t) (sym b) ∙ sym d ∙ ap (λ n. splice (header_in v home r ++ (groups_in v l ++ expenses_in v l)) n (expense_bytes v o)) e

pub encode_group : (v : Version) (home : ℕ → ℕ) (r : ℕ) (l : Ledger) (g : ℕ) (f : ℕ → ℕ) (m : ℕ) → g < group_count
    → encode_in v home r (with_group l g f m) ≡ splice (encode_in v home r l) (group_place_in v g) (group_bytes v f m)
unfolding encode_in splice
encode_group v home r l g f m k =
    let x : Bytes = group_bytes v f m in
    let gs : Bytes = groups_in v l in
    let hd : Bytes = header_in v home r in
    let a : groups_in v (with_group l g f m) ≡ splice gs (g * group_size_in v) x = groups_put v l g f m k ∙ ap (λ n. take (g * group_size_in v) gs ++ (x ++ drop (g * group_size_in v + n) gs)) (sym (group_wide v f m)) in
    let n : g * group_size_in v + length x ≤ length gs = (let z = groups_length v l in let y = group_wide v f m in let i = group_inside v g k in omega arith) in
    let b : splice (gs ++ expenses_in v l) (g * group_size_in v) x ≡ splice gs (g * group_size_in v) x ++ expenses_in v l = splice_left gs (expenses_in v l) (g * group_size_in v) x n in
    let d : splice (hd ++ (gs ++ expenses_in v l)) (16 + g * group_size_in v) x ≡ hd ++ splice (gs ++ expenses_in v l) (g * group_size_in v) x = splice_right hd (gs ++ expenses_in v l) (g * group_size_in v) x in
    ap (λ t. hd ++ (t ++ expenses_in v l)) a ∙ ap (λ t. hd ++ t) (sym b) ∙ sym d

-- The four kinds of step, on the bytes of a checked image: what code writes is the encoding of the stepped ledger.
acks_is : (l : Ledger) (c v u : ℕ) → apply (acks c v u) l ≡ with_expense l c (add_ack u (l.expense c))
acks_is l c v u = ledger_path _ _ (λ g w. refl) (λ g. refl) (λ d. go d (same? d c))
  where
    go : (d : ℕ) → Same d c → cond (eqb d c) (add_ack u (l.expense d)) (l.expense d) ≡ cond (eqb d c) (add_ack u (l.expense c)) (l.expense d)
    go d (same p q) = ap (λ x. cond (eqb d c) (add_ack u (l.expense x)) (l.expense d)) p
    go d (other p q) = rw q

set_is : (l : Ledger) (g u n h w : ℕ) → set_counter l g u n h w ≡ cond (eqb h g) (λ x. cond (eqb x u) n (l.counter g x)) (l.counter h) w
set_is l g u n h w = go (same? h g)
  where
    go : Same h g → cond (eqb h g && eqb w u) n (l.counter h w) ≡ cond (eqb h g) (λ x. cond (eqb x u) n (l.counter g x)) (l.counter h) w
    go (same p q) = rw (q, p)
    go (other p q) = rw q

founds_is : (l : Ledger) (g u k : ℕ) → apply (founds g u k) l ≡ with_group l g (λ w. cond (eqb w u) 1 (l.counter g w)) k
founds_is l g u k = ledger_path _ _ (set_is l g u 1) (λ h. refl) (λ d. refl)

counts_is : (l : Ledger) (g u n : ℕ) → apply (counts g u n) l ≡ with_group l g (λ w. cond (eqb w u) n (l.counter g w)) (l.rule g)
counts_is l g u n = ledger_path _ _ (set_is l g u n) (λ h. go h (same? h g)) (λ d. refl)
  where
    go : (h : ℕ) → Same h g → l.rule h ≡ cond (eqb h g) (l.rule g) (l.rule h)
    go h (same p q) = rw q (ap l.rule p)
    go h (other p q) = rw q

-- One of eight set, in a function and in a list.
pub set8 : (f : ℕ → ℕ) (n u : ℕ) → u < 8 → eight_of (λ w. cond (eqb w u) n (f w)) ≡ set (eight_of f) u n
set8 f n zero h = refl
set8 f n (suc zero) h = refl
set8 f n (suc (suc zero)) h = refl
set8 f n (suc (suc (suc zero))) h = refl
set8 f n (suc (suc (suc (suc zero)))) h = refl
set8 f n (suc (suc (suc (suc (suc zero))))) h = refl
set8 f n (suc (suc (suc (suc (suc (suc zero)))))) h = refl
set8 f n (suc (suc (suc (suc (suc (suc (suc zero))))))) h = refl
set8 f n (suc (suc (suc (suc (suc (suc (suc (suc u)))))))) h = absurd (omega arith)

-- Two records of a group with equal counters, and equal rules as far as the version tells them, have the same bytes there.
pub told_same : (v : Version) (f g : GroupRecord) → f.counters ≡ g.counters → rule_told_in v f.rule ≡ rule_told_in v g.rule → group_bytes_in v f ≡ group_bytes_in v g
unfolding group_bytes_in
told_same v1 f g p q = ap counter_bytes p
told_same v2 f g p q = ap₂ (λ c k. counter_bytes c ++ le16 k) p q
told_same v3 f g p q = ap₂ (λ c k. counter_bytes c ++ le16 k) p q

module _ {v : Version} (b : Bytes) (ok : CheckedIn v b) where
  pub write_states : (c : ℕ) → c < expense_count → (e : Expense) (f : ExpenseRecord) → f ≡ record_of (some e)
      → splice b (expense_place_in v c) (bytes_in v f) ≡ encode_in v (home_of b) (replica_of b) (apply (states c e) (decode_in v b))
  unfolding expense_bytes
  write_states c k e f p =
      ap (λ t. splice b (expense_place_in v c) (bytes_in v t)) p
      ∙ ap (λ t. splice t (expense_place_in v c) (expense_bytes v (some e))) (sym (encode_decode b ok))
      ∙ sym (encode_expense v (home_of b) (replica_of b) (decode_in v b) c (some e) k)

  pub write_acks : (c n u : ℕ) → c < expense_count → (f : ExpenseRecord) → f ≡ record_of (add_ack u ((decode_in v b).expense c))
      → splice b (expense_place_in v c) (bytes_in v f) ≡ encode_in v (home_of b) (replica_of b) (apply (acks c n u) (decode_in v b))
  unfolding expense_bytes
  write_acks c n u k f p =
      ap (λ t. splice b (expense_place_in v c) (bytes_in v t)) p
      ∙ ap (λ t. splice t (expense_place_in v c) (expense_bytes v (add_ack u ((decode_in v b).expense c)))) (sym (encode_decode b ok))
      ∙ sym (encode_expense v (home_of b) (replica_of b) (decode_in v b) c (add_ack u ((decode_in v b).expense c)) k)
      ∙ ap (encode_in v (home_of b) (replica_of b)) (sym (acks_is (decode_in v b) c n u))

  -- A group with one counter set and this rule, which the record written has as far as the version tells it.
  write_group : (g u n k : ℕ) → g < group_count → u < 8 → (f : GroupRecord) → f.counters ≡ set (eight_of ((decode_in v b).counter g)) u n → rule_told_in v f.rule ≡ rule_told_in v k
      → splice b (group_place_in v g) (group_bytes_in v f) ≡ encode_in v (home_of b) (replica_of b) (with_group (decode_in v b) g (λ w. cond (eqb w u) n ((decode_in v b).counter g w)) k)
  unfolding group_bytes
  write_group g u n k kg ku f p e =
      let new : ℕ → ℕ = λ w. cond (eqb w u) n ((decode_in v b).counter g w) in
      let q : f.counters ≡ eight_of new = p ∙ sym (set8 ((decode_in v b).counter g) n u ku) in
      ap (λ t. splice b (group_place_in v g) t) (told_same v f (group_record_of new k) q e)
      ∙ ap (λ t. splice t (group_place_in v g) (group_bytes v new k)) (sym (encode_decode b ok))
      ∙ sym (encode_group v (home_of b) (replica_of b) (decode_in v b) g new k kg)

  pub write_founds : (g u k : ℕ) → g < group_count → u < 8 → (f : GroupRecord) → f.counters ≡ set (eight_of ((decode_in v b).counter g)) u 1 → rule_told_in v f.rule ≡ rule_told_in v k
      → splice b (group_place_in v g) (group_bytes_in v f) ≡ encode_in v (home_of b) (replica_of b) (apply (founds g u k) (decode_in v b))
  write_founds g u k kg ku f p e = write_group g u 1 k kg ku f p e ∙ ap (encode_in v (home_of b) (replica_of b)) (sym (founds_is (decode_in v b) g u k))

  pub write_counts : (g u n : ℕ) → g < group_count → u < 8 → (f : GroupRecord) → f.counters ≡ set (eight_of ((decode_in v b).counter g)) u n
      → rule_told_in v f.rule ≡ rule_told_in v ((decode_in v b).rule g) → splice b (group_place_in v g) (group_bytes_in v f) ≡ encode_in v (home_of b) (replica_of b) (apply (counts g u n) (decode_in v b))
  write_counts g u n kg ku f p e = write_group g u n ((decode_in v b).rule g) kg ku f p e ∙ ap (encode_in v (home_of b) (replica_of b)) (sym (counts_is (decode_in v b) g u n))
