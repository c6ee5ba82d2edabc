-- One expense in the pass over all groups: it is added to the row of the group that it names and of its payer, and adds nothing to any other. Rests on balance's laws
-- of one group for uses and counts, and on Owed for the rows.
use Rattle.std.proofs.Common.{◌≡◌, refl, sym, ap, ◌∙◌, subst, Bool, true, false, not, ◌&&◌, List, [], ◌≢◌, ℕ, zero, suc, ◌+◌, ◌*◌, ◌/◌, ◌%◌, ◌≤◌, ◌<◌, arith, eqb, length, get_or, set, length-set, get_or-set_same, get_or-set_other}
use lib.ListN.{get_or-replicate}
use Rattle.format.specs.Layout.{current, no_expense, user_count, group_count, expense_count}
use Rattle.format.specs.Bytes.{Bytes, group_of, group_part}
use Rattle.format.specs.declared.ExpenseRecord.{ExpenseRecord}
use Rattle.rules.specs.Tests.{sum_below, eight_at, eight_of}
use Rattle.rules.specs.Ledger.{Ledger}
use Rattle.rules.specs.Balance.{paid_in, held_in}
use Rattle.images.specs.Meaning.{meaning}
use Rattle.images.specs.Image.{decode}
use Rattle.rules.proofs.Basics.{Same, same, other, same?}
use Rattle.rules.proofs.Sound.{eqb_other}
use Rattle.images.proofs.Codec.{eight_at_lem}
use Rattle.images.proofs.Round.{group_in_lem}
use Rattle.fields.specs.Fields.{stands_in}
use Rattle.validity.proofs.Counts.{backed, at, meant}
use Rattle.balance.specs.Sums.{paid_to, held_to, uses_to, valid_to}
use Rattle.balance.proofs.Added.{Nothing, counts_not}
use Rattle.balance.proofs.Turns.{with_one, skip_one}
use Rattle.gather.specs.declared.Rows.{Rows}
use Rattle.gather.specs.Rows.{owed_in, owed_to, Halved, RowTo, place, RowsTo, no_rows}
use Rattle.gather.proofs.Owed.{PaidBy, meaning_paid, own_owed, not_owed, none_owed, owed_more}

-- Rows of zeros are those of no expense.
none_to : (l : Ledger) (g p : ℕ) → RowTo l 0 g p (eight_of (λ u. 0)) (eight_of (λ u. 0))
unfolding owed_to sum_below
none_to l g p = (refl, refl, λ u k. rw (eight_at_lem (λ u. 0) u k) (refl, omega arith))

begun : (l : Ledger) → RowsTo l 0 no_rows
unfolding uses_to valid_to sum_below
begun l = (
  refl,
  refl,
  refl,
  refl,
  λ g p k j. subst (λ x. RowTo l 0 g p x x) (sym (get_or-replicate 128 (place g p) (eight_of (λ u. 0)) [] (omega arith))) (none_to l g p),
  λ g k. (get_or-replicate group_count g (eight_of (λ u. 0)) [] k, get_or-replicate group_count g 0 0 k),
)

pub rows_none : (l : Ledger) (r : Rows) → r ≡ no_rows → RowsTo l 0 r
rows_none l r e = rw e (begun l)

-- A row with one expense more: one that adds nothing to it, and its own.
idle_row : (l : Ledger) (c g p : ℕ) (a b : List ℕ) → ((u : ℕ) → owed_to (c + 1) l (l.rule g) g p u ≡ owed_to c l (l.rule g) g p u) → RowTo l c g p a b → RowTo l (c + 1) g p a b
idle_row l c g p a b z (ka, kb, w) = (ka, kb, λ u k. ((w u k).0 ∙ sym (z u), (let h = (w u k).1 in omega arith)))

own_row : (l : Ledger) (c g p : ℕ) (h : ℕ → ℕ) (a b a' b' : List ℕ) → ((u : ℕ) → owed_to (c + 1) l (l.rule g) g p u ≡ owed_to c l (l.rule g) g p u + h u)
    → a' ≡ eight_of (λ u. eight_at a u + h u % 65_536) → b' ≡ eight_of (λ u. eight_at b u + h u / 65_536) → RowTo l c g p a b → RowTo l (c + 1) g p a' b'
own_row l c g p h a b a' b' z ea eb (ka, kb, w) = (ap length ea, ap length eb, λ u k. (whole u k, bound u k))
  where
    low : (u : ℕ) → u < user_count → eight_at a' u ≡ eight_at a u + h u % 65_536
    low u k = ap (λ t. eight_at t u) ea ∙ eight_at_lem (λ u. eight_at a u + h u % 65_536) u k

    high : (u : ℕ) → u < user_count → eight_at b' u ≡ eight_at b u + h u / 65_536
    high u k = ap (λ t. eight_at t u) eb ∙ eight_at_lem (λ u. eight_at b u + h u / 65_536) u k

    joined : (x y s : ℕ) → (x + s % 65_536) + 65_536 * (y + s / 65_536) ≡ (x + 65_536 * y) + s
    joined x y s = omega arith

    whole : (u : ℕ) → u < user_count → eight_at a' u + 65_536 * eight_at b' u ≡ owed_to (c + 1) l (l.rule g) g p u
    whole u k = (λ i. low u k i + 65_536 * high u k i) ∙ joined (eight_at a u) (eight_at b u) (h u) ∙ ap (λ t. t + h u) (w u k).0 ∙ sym (z u)

    bound : (u : ℕ) → u < user_count → eight_at a' u ≤ 65_535 * (c + 1)
    bound u k = let x = low u k in let y = (w u k).1 in omega arith

-- An expense stands in no other group than the one it names.
elsewhere : (e : ExpenseRecord) (g : ℕ) → e.group ≢ g → stands_in e g ≡ false
elsewhere e g n = ap (λ t. t && not (eqb e.payer no_expense) && not (eqb e.deleted 1)) (eqb_other e.group g n)

-- Nor does a record stand anywhere whose payer is that of no expense.
pub unpaid_nowhere : (e : ExpenseRecord) (g : ℕ) → eqb e.payer no_expense ≡ true → stands_in e g ≡ false
unpaid_nowhere e g z = rw z (go (eqb e.group g))
  where
    go : (x : Bool) → (x && false && not (eqb e.deleted 1)) ≡ false
    go true = refl
    go false = refl

-- The record of expense c, the group n that it names and its payer p.
module _ (b : Bytes) (c : ℕ) (k : c < expense_count) (n : ℕ) where
  idle : (rule g : ℕ) → stands_in (at b c) g ≡ false → Nothing rule g ((decode b).expense c)
  idle rule g z = rw (meant b c k) (counts_not rule g (at b c) (ap (λ t. t && backed rule (at b c)) z))

  idle_owed : (g q : ℕ) → stands_in (at b c) g ≡ false → (u : ℕ) → owed_to (c + 1) (decode b) ((decode b).rule g) g q u ≡ owed_to c (decode b) ((decode b).rule g) g q u
  idle_owed g q z u =
      let e = none_owed ((decode b).rule g) g u q ((decode b).expense c) ((idle ((decode b).rule g) g z).1 u) in
      owed_more ((decode b).rule g) g u (decode b) c q ∙ omega arith

  -- Uses and counts of a group to which it adds nothing.
  idle_group : (g : ℕ) → stands_in (at b c) g ≡ false → (s : List ℕ) (m : ℕ) → (s ≡ eight_of (uses_to c (decode b) ((decode b).rule g) g)) × (m ≡ valid_to c (decode b) ((decode b).rule g) g)
      → (s ≡ eight_of (uses_to (c + 1) (decode b) ((decode b).rule g) g)) × (m ≡ valid_to (c + 1) (decode b) ((decode b).rule g) g)
  idle_group g z s m e =
      let x = skip_one (decode b) ((decode b).rule g) g c (c + 1) refl (idle ((decode b).rule g) g z)
      (record { paid = eight_of (paid_to c (decode b) ((decode b).rule g) g); held = eight_of (held_to c (decode b) ((decode b).rule g) g); uses = s; expenses = m }) (refl, refl, e.0, e.1) in
      (x.2, x.3)

  module _ (en : n ≡ (at b c).group) where
    pub stands_there : (r : Bool) → r ≡ stands_in (at b c) n → r ≡ true → stands_in (at b c) (at b c).group ≡ true
    stands_there r er z = ap (stands_in (at b c)) (sym en) ∙ sym er ∙ z

    module _ (all : Rows) (rows : RowsTo (decode b) c all) where
      passed : ((g : ℕ) → g < group_count → stands_in (at b c) g ≡ false) → RowsTo (decode b) (c + 1) all
      passed z = (
        rows.0,
        rows.1,
        rows.2,
        rows.3,
        λ g p j i. idle_row (decode b) c g p (get_or all.low (place g p) []) (get_or all.high (place g p) []) (idle_owed g p (z g j)) (rows.4 g p j i),
        λ g j. idle_group g (z g j) _ _ (rows.5 g j),
      )

      -- No expense, or deleted; or in a group that is none of the sixteen.
      pub not_standing : (r : Bool) → r ≡ stands_in (at b c) n → r ≡ false → RowsTo (decode b) (c + 1) all
      not_standing r er z = passed (λ g j. go g (same? (at b c).group g))
        where
          go : (g : ℕ) → Same (at b c).group g → stands_in (at b c) g ≡ false
          go g (same q _) = ap (stands_in (at b c)) (sym (en ∙ q)) ∙ sym er ∙ z
          go g (other q _) = elsewhere (at b c) g q

      pub in_no_group : group_count ≤ n → RowsTo (decode b) (c + 1) all
      in_no_group z = passed (λ g j. elsewhere (at b c) g (λ q. absurd (omega arith)))

      -- Added to its payer's row and to its group's uses and count.
      module _ (n16 : n < group_count) (p : ℕ) (ep : p ≡ (at b c).payer) (p8 : p < user_count) (rule : ℕ) (er : rule ≡ (group_of (group_part b n)).rule) (a' h' s' : List ℕ) (r : ℕ)
          (w : Halved rule (at b c).group (meaning (at b c)) (get_or all.low (place n p) []) (get_or all.high (place n p) []) (get_or all.uses n []) a' h' s' r) where
        added : Halved ((decode b).rule n) n (meaning (at b c)) (get_or all.low (place n p) []) (get_or all.high (place n p) []) (get_or all.uses n []) a' h' s' r
        added =
            subst (λ m. Halved ((decode b).rule n) m (meaning (at b c)) (get_or all.low (place n p) []) (get_or all.high (place n p) []) (get_or all.uses n []) a' h' s' r) (sym en)
            (subst (λ t. Halved t (at b c).group (meaning (at b c)) (get_or all.low (place n p) []) (get_or all.high (place n p) []) (get_or all.uses n []) a' h' s' r) (er ∙ ap (λ t. t.rule) (group_in_lem current b n n16)) w)

        paid_by : PaidBy p (meaning (at b c))
        paid_by = subst (λ q. PaidBy q (meaning (at b c))) (sym ep) (meaning_paid (at b c))

        own_more : (u : ℕ) → owed_to (c + 1) (decode b) ((decode b).rule n) n p u ≡ owed_to c (decode b) ((decode b).rule n) n p u + held_in ((decode b).rule n) n u (meaning (at b c))
        own_more u =
            owed_more ((decode b).rule n) n u (decode b) c p
            ∙ ap (λ x. owed_to c (decode b) ((decode b).rule n) n p u + x) (rw (meant b c k) (own_owed ((decode b).rule n) n u p (meaning (at b c)) paid_by))

        -- A row of another payer of the group.
        other_more : (q : ℕ) → q ≢ p → (u : ℕ) → owed_to (c + 1) (decode b) ((decode b).rule n) n q u ≡ owed_to c (decode b) ((decode b).rule n) n q u
        other_more q ne u =
            let z : owed_in ((decode b).rule n) n q u ((decode b).expense c) ≡ 0 = rw (meant b c k) (not_owed ((decode b).rule n) n u p q (meaning (at b c)) paid_by ne) in
            owed_more ((decode b).rule n) n u (decode b) c q ∙ ap (λ x. owed_to c (decode b) ((decode b).rule n) n q u + x) z ∙ omega arith

        abbrev RowWith : (group payer : ℕ) → Type 0
        RowWith j q = RowTo (decode b) (c + 1) j q (get_or (set all.low (place n p) a') (place j q) []) (get_or (set all.high (place n p) h') (place j q) [])

        own_place : RowWith n p
        own_place =
            subst (λ x. RowTo (decode b) (c + 1) n p x (get_or (set all.high (place n p) h') (place n p) [])) (sym (get_or-set_same all.low (place n p) a' [] (omega arith)))
            (subst (λ x. RowTo (decode b) (c + 1) n p a' x) (sym (get_or-set_same all.high (place n p) h' [] (omega arith)))
            (own_row (decode b) c n p (λ u. held_in ((decode b).rule n) n u (meaning (at b c))) (get_or all.low (place n p) []) (get_or all.high (place n p) []) a' h' own_more added.0 added.1 (rows.4 n p n16 p8)))

        other_place : (j q : ℕ) → j < group_count → q < user_count → place j q ≢ place n p → ((u : ℕ) → owed_to (c + 1) (decode b) ((decode b).rule j) j q u ≡ owed_to c (decode b) ((decode b).rule j) j q u) → RowWith j q
        other_place j q j16 q8 ne z =
            subst (λ x. RowTo (decode b) (c + 1) j q x (get_or (set all.high (place n p) h') (place j q) [])) (sym (get_or-set_other all.low (place n p) (place j q) a' [] ne))
            (subst (λ x. RowTo (decode b) (c + 1) j q (get_or all.low (place j q) []) x) (sym (get_or-set_other all.high (place n p) (place j q) h' [] ne))
            (idle_row (decode b) c j q (get_or all.low (place j q) []) (get_or all.high (place j q) []) z (rows.4 j q j16 q8)))

        each_row : (j q : ℕ) → j < group_count → q < user_count → RowWith j q
        each_row j q j16 q8 = go (same? j n) (same? q p)
          where
            go : Same j n → Same q p → RowWith j q
            go (same x _) (same y _) = subst (λ t. RowWith t q) (sym x) (subst (λ t. RowWith n t) (sym y) own_place)
            go (same x _) (other y _) = subst (λ t. RowWith t q) (sym x) (other_place n q n16 q8 (λ z. absurd (y (omega arith))) (other_more q y))
            go (other x _) y = other_place j q j16 q8 (λ z. absurd (x (omega arith))) (idle_owed j q (elsewhere (at b c) j (λ z. x (sym z ∙ sym en))))

        abbrev GroupWith : ℕ → Type 0
        GroupWith j =
            (get_or (set all.uses n s') j [] ≡ eight_of (uses_to (c + 1) (decode b) ((decode b).rule j) j)) × (get_or (set all.counts n (get_or all.counts n 0 + r)) j 0 ≡ valid_to (c + 1) (decode b) ((decode b).rule j) j)

        own_sums : (s' ≡ eight_of (uses_to (c + 1) (decode b) ((decode b).rule n) n)) × (get_or all.counts n 0 + r ≡ valid_to (c + 1) (decode b) ((decode b).rule n) n)
        own_sums =
            let l = decode b in
            let y = (decode b).rule n in
            let o = meaning (at b c) in
            let x = with_one l y n c o (meant b c k)
            (record { paid = eight_of (paid_to c l y n); held = eight_of (held_to c l y n); uses = get_or all.uses n []; expenses = get_or all.counts n 0 })
            (record {
              paid = eight_of (λ u. eight_at (eight_of (paid_to c l y n)) u + paid_in y n u o);
              held = eight_of (λ u. eight_at (eight_of (held_to c l y n)) u + held_in y n u o);
              uses = s';
              expenses = get_or all.counts n 0 + r;
            }) (refl, refl, (rows.5 n n16).0, (rows.5 n n16).1) (refl, refl, added.2, ap (λ m. get_or all.counts n 0 + m) added.3) in
            (x.2, x.3)

        pub own_count : get_or all.counts n 0 + r ≡ valid_to (c + 1) (decode b) ((decode b).rule n) n
        own_count = own_sums.1

        each_group : (j : ℕ) → j < group_count → GroupWith j
        each_group j j16 = go (same? j n)
          where
            go : Same j n → GroupWith j
            go (same x _) = subst GroupWith (sym x) (get_or-set_same all.uses n s' [] (omega arith) ∙ own_sums.0, get_or-set_same all.counts n (get_or all.counts n 0 + r) 0 (omega arith) ∙ own_sums.1)
            go (other x _) =
                let z = idle_group j (elsewhere (at b c) j (λ y. x (sym y ∙ sym en))) (get_or all.uses j []) (get_or all.counts j 0) (rows.5 j j16) in
                (get_or-set_other all.uses n j s' [] x ∙ z.0, get_or-set_other all.counts n j (get_or all.counts n 0 + r) 0 x ∙ z.1)

        pub added_row : RowsTo (decode b) (c + 1) (record { low = set all.low (place n p) a'; high = set all.high (place n p) h'; uses = set all.uses n s'; counts = set all.counts n (get_or all.counts n 0 + r) })
        added_row = (
          length-set all.low (place n p) a' ∙ rows.0,
          length-set all.high (place n p) h' ∙ rows.1,
          length-set all.uses n s' ∙ rows.2,
          length-set all.counts n (get_or all.counts n 0 + r) ∙ rows.3,
          each_row,
          each_group,
        )

-- Numbers without an expense are passed over, one or several.
module _ (b : Bytes) (all : Rows) where
  nobody_paid : (c : ℕ) → c < expense_count → eqb (at b c).payer no_expense ≡ true → RowsTo (decode b) c all → RowsTo (decode b) (c + 1) all
  nobody_paid c k z rows = passed b c k (at b c).group refl all rows (λ g j. unpaid_nowhere (at b c) g z)

  pub skip_some : (c n : ℕ) → c + n ≤ expense_count → ((i : ℕ) → i < n → eqb (at b (c + i)).payer no_expense ≡ true) → RowsTo (decode b) c all → RowsTo (decode b) (c + n) all
  skip_some c zero k z rows = subst (λ m. RowsTo (decode b) m all) (let q : c ≡ c + 0 = omega arith in q) rows
  skip_some c (suc n) k z rows =
      subst (λ m. RowsTo (decode b) m all) (let q : (c + n) + 1 ≡ c + suc n = omega arith in q)
      (nobody_paid (c + n) (omega arith) (z n (omega arith)) (skip_some c n (omega arith) (λ i j. z i (omega arith)) rows))
