-- The expenses of an older image, written one behind the other with what stands in the place of a day, are those of its ledger in the current version.
use Rattle.std.proofs.Common.{◌≡◌, refl, sym, ap, ap₂, ◌∙◌, ◌++◌, append_assoc, append-nil, ℕ, ◌+◌, ◌-◌, ◌*◌, ◌<◌, add-one, arith, length, take, drop, length-append, length-take, length-drop, drop-drop}
use borrow.Rule.Slice.PartMut.{put_mid}
use Rattle.format.specs.Layout.{Version, v1, v2, current, expense_count, expense_size, expenses_at, expenses_at_in, expenses_size_in, expense_place, image_size, no_expense, undated}
use Rattle.format.specs.Bytes.{Bytes, le16, forty_of, bytes_in, expense_of, expense_part_in}
use Rattle.format.specs.declared.ExpenseRecord.{ExpenseRecord}
use Rattle.format.proofs.Laws.{add_sub, put_part}
use Rattle.images.specs.Meaning.{meaning_in, record_of, day_in}
use Rattle.images.specs.Image.{expense_bytes, table, expenses, decode_in, CheckedIn}
use Rattle.rules.proofs.Basics.{Same, same, other, same?}
use Rattle.images.proofs.Round.{table_same, expense_is, expense_round}
use Rattle.fields.specs.Fields.{among}
use Rattle.raised.specs.Day.{day_raised}
use Rattle.raise.specs.Dated.{dated_part}
use Rattle.raise.proofs.Groups.{behind}

pub none_dated : (s d : Bytes) → take expenses_at d ≡ take expenses_at d ++ table 0 (dated_part s)
unfolding table
none_dated s d = sym (append-nil (take expenses_at d))

-- The forty bytes handed over, with a day behind them.
module _ (s : Bytes) (c : ℕ) where
  abbrev lent : Bytes
  lent = take ((c * 40 + 40) - c * 40) (drop (c * 40) s)

  lent_is : lent ≡ among 40 s c
  lent_is = ap (λ n. take n (drop (c * 40) s)) (add_sub (c * 40) 40)

  part_is : (p : Bytes) (payer n : ℕ) → payer ≡ (expense_of lent).payer → n ≡ day_raised payer → p ≡ lent ++ le16 n → p ≡ dated_part s c
  unfolding dated_part
  part_is p payer n e en ep = ep ∙ ap₂ (λ l k. l ++ le16 k) lent_is (en ∙ ap day_raised (e ∙ ap (λ l. (expense_of l).payer) lent_is))

  dated_long : length s ≡ expenses_size_in v1 → c < expense_count → length (dated_part s c) ≡ expense_size
  unfolding dated_part
  dated_long h k = simp (length-append, length-take, length-drop) (omega arith)

  pub one_dated : (d₀ d new p : Bytes) (payer n : ℕ) → length s ≡ expenses_size_in v1 → length d ≡ image_size → c < expense_count
      → take (expense_place c) d ≡ take expenses_at d₀ ++ table c (dated_part s) → payer ≡ (expense_of lent).payer → n ≡ day_raised payer → p ≡ lent ++ le16 n
      → new ≡ put_mid (expense_place c) ((expense_place c + expense_size) - expense_place c) d p → take (expense_place (c + 1)) new ≡ take expenses_at d₀ ++ table (c + 1) (dated_part s)
  unfolding table
  one_dated d₀ d new p payer n ls ld k before e en ep ew =
      let here : p ≡ dated_part s c = part_is p payer n e en ep in
      let wide : length p ≡ expense_size = ap length here ∙ dated_long ls k in
      let place : expense_place (c + 1) ≡ expense_place c + length p = omega arith in
      ap₂ take place (ew ∙ put_part (expense_place c) expense_size d p wide) ∙ behind d p (expense_place c) (omega arith) ∙ ap₂ ◌++◌ before here
      ∙ append_assoc (take expenses_at d₀) (table c (dated_part s)) (dated_part s c) ∙ rw add-one

-- An older version: an expense has forty bytes, and whatever it means is undated.
pub record Older (w : Version) : Type 0 where
  pub part : (b : Bytes) (c : ℕ) → expense_part_in w b c ≡ take 40 (drop (expenses_at_in w + c * 40) b)
  pub bytes : (e : ExpenseRecord) → bytes_in w e ≡ forty_of e
  pub days : (d : ℕ) → day_in w d ≡ undated

pub first_older : Older v1
unfolding bytes_in
first_older = record { part = λ b c. refl; bytes = λ e. refl; days = λ d. refl }

pub second_older : Older v2
unfolding bytes_in
second_older = record { part = λ b c. refl; bytes = λ e. refl; days = λ d. refl }

-- A checked image of such a version.
module _ (w : Version) (old : Older w) (b : Bytes) (ok : CheckedIn w b) where
  day_is : (c : ℕ) → c < expense_count → (record_of ((decode_in w b).expense c)).day ≡ day_raised (expense_of (expense_part_in w b c)).payer
  unfolding meaning_in record_of day_raised
  day_is c k = ap (λ o. (record_of o).day) (expense_is b ok c k) ∙ go (same? (expense_of (expense_part_in w b c)).payer no_expense)
    where
      go : Same (expense_of (expense_part_in w b c)).payer no_expense → (record_of (meaning_in w (expense_of (expense_part_in w b c)))).day ≡ day_raised (expense_of (expense_part_in w b c)).payer
      go (same p q) = rw q
      go (other p q) = rw q (old.days _)

  part_raised : (c : ℕ) → c < expense_count → expense_bytes current ((decode_in w b).expense c) ≡ expense_part_in w b c ++ le16 (day_raised (expense_of (expense_part_in w b c)).payer)
  unfolding expense_bytes bytes_in
  part_raised c k = ap₂ (λ l n. l ++ le16 n) (sym (old.bytes (record_of ((decode_in w b).expense c))) ∙ expense_round b ok c k) (day_is c k)

  pub all_dated : table expense_count (dated_part (drop (expenses_at_in w) b)) ≡ expenses (decode_in w b)
  unfolding dated_part
  all_dated =
      table_same expense_count _ _
      (λ c k. ap (λ p. p ++ le16 (day_raised (expense_of p).payer)) (ap (take 40) (drop-drop (c * 40) (expenses_at_in w) b) ∙ sym (old.part b c)) ∙ sym (part_raised c k))
