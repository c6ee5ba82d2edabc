-- What rows tell: how large their numbers can get, and that a group's eight rows after all expenses give the group's sums.
use Rattle.std.proofs.Common.{◌≡◌, sym, ap, ◌∙◌, false, List, [], ℕ, ◌+◌, ◌*◌, ◌≤◌, ◌<◌, arith, length, get_or}
use lib.ListN.{get_or-eq_default}
use Rattle.format.specs.Layout.{no_expense, user_count, group_count, expense_count}
use Rattle.format.specs.Bytes.{Bytes, Octets}
use Rattle.format.specs.declared.ExpenseRecord.{ExpenseRecord}
use Rattle.format.proofs.Round.{same8}
use Rattle.calendar.specs.Calendar.{between}
use Rattle.rules.specs.Tests.{sum8, sum_below, eight_at, eight_of}
use Rattle.images.specs.Meaning.{meaning_in}
use Rattle.images.specs.Image.{decode, home_of, image_check}
use Rattle.rules.proofs.Basics.{Same, same, other, same?, Less, less, more, less?}
use Rattle.rules.proofs.Sound.{Payers, payers}
use Rattle.rules.proofs.Sums.{sum_same, sum8_same}
use Rattle.images.proofs.Round.{sound_decoded}
use Rattle.amounts.specs.Amounts.{UpTo}
use Rattle.fields.specs.Fields.{stands_in}
use Rattle.validity.proofs.Counts.{at, meant}
use Rattle.validity.proofs.Bounds.{held_bound, uses_bound, valid_bound}
use Rattle.balance.specs.declared.Sums.{Sums}
use Rattle.balance.specs.Sums.{paid_to, held_to, uses_to, valid_to, sums_of}
use Rattle.balance.proofs.All.{all_days}
use Rattle.balance.proofs.Fewer.{up_to, paid_below, held_below, uses_below}
use Rattle.gather.specs.declared.Rows.{Rows}
use Rattle.gather.specs.Rows.{owed_to, RowTo, place, RowsTo, whole_at, sums_from}
use Rattle.gather.proofs.Owed.{owed_le, held_columns, paid_row}
use Rattle.gather.proofs.Turns.{unpaid_nowhere}

module _ (b : Bytes) (o : Octets b) where
  -- Of one row.
  module _ (n g p : ℕ) (n512 : n ≤ expense_count) (x y : List ℕ) (row : RowTo (decode b) n g p x y) where
    owed_small : (u : ℕ) → owed_to n (decode b) ((decode b).rule g) g p u ≤ 4_294_967_295 * n
    unfolding held_to
    owed_small u = let e = owed_le ((decode b).rule g) g u (decode b) n p in let f = held_bound b o ((decode b).rule g) g n u n512 in omega arith

    beyond : (l : List ℕ) → length l ≡ user_count → (u : ℕ) → user_count ≤ u → eight_at l u ≡ 0
    beyond l e u k = get_or-eq_default l 0 (omega arith)

    pub low_room : UpTo 33_554_432 x
    low_room = (row.0, λ u. go u (less? u user_count))
      where
        go : (u : ℕ) → Less u user_count → eight_at x u ≤ 33_554_432
        go u (less k _) = let e = (row.2 u k).1 in omega arith
        go u (more k _) = let e = beyond x row.0 u k in omega arith

    pub high_room : UpTo 33_554_432 y
    high_room = (row.1, λ u. go u (less? u user_count))
      where
        go : (u : ℕ) → Less u user_count → eight_at y u ≤ 33_554_432
        go u (less k _) = let e = (row.2 u k).0 in let f = owed_small u in omega arith
        go u (more k _) = let e = beyond y row.1 u k in omega arith

    pub whole_room : (u : ℕ) → eight_at x u + 65_536 * eight_at y u ≤ 2_199_023_255_040
    whole_room u = go (less? u user_count)
      where
        go : Less u user_count → eight_at x u + 65_536 * eight_at y u ≤ 2_199_023_255_040
        go (less k _) = let e = (row.2 u k).0 in let f = owed_small u in omega arith
        go (more k _) = let e = beyond x row.0 u k in let f = beyond y row.1 u k in omega arith

  pub uses_room : (rule g n : ℕ) (s : List ℕ) → n ≤ expense_count → s ≡ eight_of (uses_to n (decode b) rule g) → UpTo 512 s
  unfolding uses_to
  uses_room rule g n s k = up_to (uses_to n (decode b) rule g) 512 (λ u. (let e = uses_bound b o rule g n u k in omega arith)) s

  pub count_room : (rule g n : ℕ) → n ≤ expense_count → valid_to n (decode b) rule g ≤ 1 * n
  unfolding valid_to
  count_room rule g n = valid_bound b o rule g n

  all_users : image_check b ≡ 0 → Payers (decode b)
  all_users ok = payers (home_of b) (decode b) (sound_decoded b (record { octets = o; passes = ok }))

  -- In a checked image a record whose payer is no user stands nowhere.
  pub no_user : image_check b ≡ 0 → (c : ℕ) → c < expense_count → (e : ExpenseRecord) → e ≡ at b c → user_count ≤ e.payer → stands_in e e.group ≡ false
  unfolding meaning_in
  no_user ok c k e q z = ap (λ x. stands_in x x.group) q ∙ go (same? (at b c).payer no_expense)
    where
      go : Same (at b c).payer no_expense → stands_in (at b c) (at b c).group ≡ false
      go (same _ t) = unpaid_nowhere (at b c) (at b c).group t
      go (other _ t) =
          let h : (at b c).payer < user_count = rw (meant b c k, t) at (all_users ok c k) in
          let y : e.payer ≡ (at b c).payer = ap (λ x. x.payer) q in
          absurd (omega arith)

  -- After all expenses of a checked image.
  module _ (ok : image_check b ≡ 0) (all : Rows) (rows : RowsTo (decode b) expense_count all) (g : ℕ) (g16 : g < group_count) where
    pub rows_below : (p u : ℕ) → p < user_count → whole_at all g p u ≤ 2_199_023_255_040
    rows_below p u k = whole_room expense_count g p (omega arith) (get_or all.low (place g p) []) (get_or all.high (place g p) []) (rows.4 g p g16 k) u

    paid_is : (p : ℕ) → p < user_count → sum8 (whole_at all g p) ≡ paid_to expense_count (decode b) ((decode b).rule g) g p
    paid_is p k = sum8_same (whole_at all g p) (owed_to expense_count (decode b) ((decode b).rule g) g p) (λ u j. ((rows.4 g p g16 k).2 u j).0) ∙ sym (paid_row ((decode b).rule g) g p (decode b))

    held_is : (u : ℕ) → u < user_count → sum_below user_count (λ p. whole_at all g p u) ≡ held_to expense_count (decode b) ((decode b).rule g) g u
    held_is u k =
        sum_same user_count (λ p. whole_at all g p u) (λ p. owed_to expense_count (decode b) ((decode b).rule g) g p u) (λ p j. ((rows.4 g p g16 j).2 u k).0)
        ∙ sym (held_columns ((decode b).rule g) g u (decode b) (all_users ok))

    all8 : (f h : ℕ → ℕ) → ((u : ℕ) → u < user_count → f u ≡ h u) → eight_of f ≡ eight_of h
    all8 f h w = same8 (w 0 (omega arith)) (w 1 (omega arith)) (w 2 (omega arith)) (w 3 (omega arith)) (w 4 (omega arith)) (w 5 (omega arith)) (w 6 (omega arith)) (w 7 (omega arith))

    row_sums : sums_from all g ≡ sums_of (decode b) ((decode b).rule g) g
    unfolding sums_from sums_of
    row_sums = λ i. record {
      paid = all8 (λ p. sum8 (whole_at all g p)) (paid_to expense_count (decode b) ((decode b).rule g) g) paid_is i;
      held = all8 (λ u. sum_below user_count (λ p. whole_at all g p u)) (held_to expense_count (decode b) ((decode b).rule g) g) held_is i;
      uses = (rows.5 g g16).0 i;
      expenses = (rows.5 g g16).1 i;
    }

    pub taken_sums : (t : Sums) → t ≡ sums_from all g → t ≡ sums_of (decode b) ((decode b).rule g) g
    taken_sums t q = q ∙ row_sums

  -- What the figures ask of a group's sums.
  pub sums_below : (rule g : ℕ) (t : Sums) → t ≡ sums_of (decode b) rule g → (u : ℕ) → (eight_at t.paid u ≤ 17_592_186_040_320) × (eight_at t.held u ≤ 2_199_023_255_040) × (eight_at t.uses u ≤ 512)
  sums_below rule g t e u =
      let d = e ∙ ap (λ l. sums_of l rule g) (sym (all_days b o)) in
      (paid_below b o rule g (between 0 65_535) t d u, held_below b o rule g (between 0 65_535) t d u, uses_below b o rule g (between 0 65_535) t d u)
