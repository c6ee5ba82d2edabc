-- A join of two ledgers shows the module's merge, and is accepted when no expense of equal versions differs in more than acknowledgements.
use mathlib.Core.Path.{◌≡◌, refl, sym, ap, ◌∙◌}
use mathlib.Core.Bool.{Bool, true, false, not, ◌&&◌, ◌||◌, beq}
use mathlib.Core.Option.{Option, none, some, map, some-ne-none, some-injective}
use mathlib.Core.Logic.{◌⊎◌, inl, inr, ◌↔◌}
use Prim.Native.Nat.{ℕ, max, ◌≤◌, ◌<◌}
use native.Mathlib.Omega.{arith}
use lib.Dec.{leb, eqb}
use Rattle.rules.specs.Ledger.{Expense, Ledger, group_absent, total}
use Rattle.rules.specs.Merge.{united, merged, merge_expense, merge_ledger, rules_agree, alike, agree, merge_answer}
use Rattle.rules.proofs.Basics.{clash, Same, eqb_true, same?, Less, less?, ltb_true, ltb_false, false_of, same, other, less, more}
use Rattle.rules.proofs.Accepted.{pass, not_false, every_below_lem, test, every_8}
use Rattle.rules.proofs.Sound.{of_each, of_every8, of_every_below, imp, of_imp, leb_le, le_leb}
use Rattle.splitless.specs.Module as M
use Rattle.splitless.specs.Shown.{shown_id, shown_expense, shown_group, show, Alike, SameDay}
use Rattle.splitless.proofs.Facts.{of_passed, eqb_yes, numbers_at, numbers_path, flags_path, sum_shares}
use Rattle.splitless.proofs.Showing.{absent_zero}

-- CHOOSE n ∈ {a, b} : n ≥ a ∧ n ≥ b has one answer, and it is `choice`, the larger.
pub choice_max : (a b : ℕ) → max a b ≡ M.choice a b
choice_max a b = go (less? a b)
  where
    go : Less a b → max a b ≡ M.choice a b
    go (less k e) = rw (false_of (leb b a) (λ q. let z = leb_le b a q in omega arith)) (omega arith)
    go (more k e) = rw (le_leb b a k) (omega arith)

pub choice_spec : (a b n : ℕ) → (n ≡ a) ⊎ (n ≡ b) → a ≤ n → b ≤ n → n ≡ M.choice a b
choice_spec a b n (inl e) ha hb = rw (← choice_max a b) (omega arith)
choice_spec a b n (inr e) ha hb = rw (← choice_max a b) (omega arith)

-- Merged expenses show the merge of those shown.
merge_expense_lem : (c : ℕ) (o p : Option Expense) → map (shown_expense c) (merge_expense o p) ≡ M.MergeExpense (map (shown_expense c) o) (map (shown_expense c) p)
merge_expense_lem c none none = refl
merge_expense_lem c none (some f) = refl
merge_expense_lem c (some e) none = refl
merge_expense_lem c (some e) (some f) = go (less? e.version f.version) (less? f.version e.version)
  where
    acks_same : M.flags (united e f) ≡ M.flags (λ u. M.flags e.acknowledged u || M.flags f.acknowledged u)
    acks_same = flags_path (united e f) _ (λ u k. rw (ltb_true u 8 k))

    go : Less e.version f.version → Less f.version e.version → map (shown_expense c) (some (merged e f)) ≡ M.MergeExpense (some (shown_expense c e)) (some (shown_expense c f))
    go (less k x) (less j y) = absurd (omega arith)
    go (less k x) (more j y) = rw (x, y)
    go (more k x) (less j y) = rw (x, y)
    go (more k x) (more j y) = rw (x, y) (ap (λ p. some (M.acknowledged_to p (shown_expense c e))) acks_same)

-- A merged group is absent when both are, and shows the merge of those shown.
pub zero_absent : (n : Ledger) (g : ℕ) → ((u : ℕ) → u < 8 → n.counter g u ≡ 0) → group_absent n g ≡ true
zero_absent n g h = of_every8 _ (λ u k. ap not (ltb_false 0 (n.counter g u) (let z = h u k in omega arith)))

module _ (l m : Ledger) (g : ℕ) where
  pub merge_absent : (a b : Bool) → group_absent l g ≡ a → group_absent m g ≡ b → group_absent (merge_ledger l m) g ≡ (a && b)
  merge_absent true true p q = zero_absent (merge_ledger l m) g (λ u k. let x = absent_zero 0 l g u k p in let y = absent_zero 0 m g u k q in omega arith)
  merge_absent true false p q = false_of _ (λ z. clash (zero_absent m g (λ u k. let y = absent_zero 0 (merge_ledger l m) g u k z in omega arith)) q)
  merge_absent false true p q = false_of _ (λ z. clash (zero_absent l g (λ u k. let y = absent_zero 0 (merge_ledger l m) g u k z in omega arith)) p)
  merge_absent false false p q = false_of _ (λ z. clash (zero_absent l g (λ u k. let y = absent_zero 0 (merge_ledger l m) g u k z in omega arith)) p)

  merge_group : shown_group g ((merge_ledger l m).counter g) (group_absent (merge_ledger l m) g) ≡ M.MergeGroup (shown_group g (l.counter g) (group_absent l g)) (shown_group g (m.counter g) (group_absent m g))
  merge_group = ap (shown_group g ((merge_ledger l m).counter g)) (merge_absent (group_absent l g) (group_absent m g) refl refl) ∙ go (group_absent l g) (group_absent m g) refl refl
    where
      named : (p q : ℕ → ℕ) → M.numbers p ≡ M.numbers q → ◌≡◌ {A = Option M.Group} (some (record { id = g; members = M.numbers p })) (some (record { id = g; members = M.numbers q }))
      named p q h = ap (λ f. some (record { id = g; members = f })) h

      go : (a b : Bool) → group_absent l g ≡ a → group_absent m g ≡ b → shown_group g ((merge_ledger l m).counter g) (a && b) ≡ M.MergeGroup (shown_group g (l.counter g) a) (shown_group g (m.counter g) b)
      go true true p q = refl
      go true false p q = named _ _ (numbers_path _ _ (λ u k. let x = absent_zero 0 l g u k p in omega arith))
      go false true p q = named _ _ (numbers_path _ _ (λ u k. let x = absent_zero 0 m g u k q in omega arith))
      go false false p q = named _ _ (numbers_path _ _ (λ u k. rw (ltb_true u 8 k) (choice_max (l.counter g u) (m.counter g u))))

-- The tie of the join: it shows the module's merge, on every expense and every group.
pub tie_merge : (r w : ℕ) (l m : Ledger) → show r (merge_ledger l m) ≡ M.new_merge_replicas (show r l) (show w m)
unfolding show
tie_merge r w l m = λ i. record { id = r; recorded_expenses = λ c. merge_expense_lem c (l.expense c) (m.expense c) i; groups = λ g. merge_group l m g i }

-- Alike in the rules' sense and in the module's records.
pub id_same : (g h : ℕ) → shown_id g ≡ shown_id h → g ≡ h
id_same g h p = go (same? g 255) (same? h 255)
  where
    go : Same g 255 → Same h 255 → g ≡ h
    go (same a x) (same b y) = a ∙ sym b
    go (same a x) (other b y) = absurd (some-ne-none h (sym (rw (x, y) at p)))
    go (other a x) (same b y) = absurd (some-ne-none g (rw (x, y) at p))
    go (other a x) (other b y) = some-injective g h (rw (x, y) at p)

beq_same : (a b : Bool) → beq a b ≡ true → a ≡ b
beq_same true true h = refl
beq_same true false h = sym h
beq_same false true h = h
beq_same false false h = refl

same_beq : (a b : Bool) → a ≡ b → beq a b ≡ true
same_beq true b h = rw (← h)
same_beq false b h = rw (← h)

module _ (c : ℕ) (e f : Expense) where
  shares_same : ((u : ℕ) → u < 8 → e.shares u ≡ f.shares u) → (M.numbers e.shares ≡ M.numbers f.shares) × (total e ≡ total f)
  shares_same h =
      let p : M.numbers e.shares ≡ M.numbers f.shares = numbers_path e.shares f.shares h in
      (p, sym (sum_shares e.shares) ∙ ap M.SumShares p ∙ sum_shares f.shares)

  alike_shown : alike e f ≡ true → e.version ≡ f.version → M.acknowledged_to (M.flags f.acknowledged) (shown_expense c e) ≡ shown_expense c f
  alike_shown h v =
      let t = test _ h in
      let s = shares_same (λ u k. eqb_true (e.shares u) (f.shares u) (every_8 _ (t 3) u k)) in
      λ i. record {
        id = c;
        group = shown_id (eqb_true e.group f.group (t 1) i);
        version = v i;
        payer = eqb_true e.payer f.payer (t 0) i;
        amount = s.1 i;
        shares = s.0 i;
        acknowledged_shares = M.flags f.acknowledged;
        deleted = beq_same e.deleted f.deleted (t 2) i;
      }

  shown_alike : M.acknowledged_to (M.flags f.acknowledged) (shown_expense c e) ≡ shown_expense c f → e.day ≡ f.day → alike e f ≡ true
  shown_alike p d = of_each _ (
    eqb_yes e.payer f.payer (ap (λ x. x.payer) p),
    (
      eqb_yes e.group f.group (id_same e.group f.group (ap (λ x. x.group) p)),
      (
        same_beq e.deleted f.deleted (ap (λ x. x.deleted) p),
        (
          of_every8 _ (λ u k. eqb_yes (e.shares u) (f.shares u) (sym (numbers_at e.shares u k) ∙ ap (λ x. x.shares u) p ∙ numbers_at f.shares u k)),
          (eqb_yes e.day f.day d, tt),
        ),
      ),
    ),
  )

agree_day : (o p : Option Expense) → agree o p ≡ true → SameDay o p
agree_day none p h e f x y v = absurd (some-ne-none e (sym x))
agree_day (some a) none h e f x y v = absurd (some-ne-none f (sym y))
agree_day (some a) (some b) h e f x y v =
    let x' : a ≡ e = some-injective a e x in
    let y' : b ≡ f = some-injective b f y in
    let v' : a.version ≡ b.version = ap (λ z. z.version) x' ∙ v ∙ ap (λ z. z.version) (sym y') in
    let q : alike a b ≡ true = imp (eqb a.version b.version) (alike a b) h (eqb_yes a.version b.version v') in
    ap (λ z. z.day) (sym x') ∙ eqb_true a.day b.day (test _ q 4) ∙ ap (λ z. z.day) y'

agree_shown : (c : ℕ) (o p : Option Expense) → agree o p ≡ true → Alike (map (shown_expense c) o) (map (shown_expense c) p)
agree_shown c none p h e f x y v = absurd (some-ne-none e (sym x))
agree_shown c (some a) none h e f x y v = absurd (some-ne-none f (sym y))
agree_shown c (some a) (some b) h e f x y v =
    let x' : shown_expense c a ≡ e = some-injective (shown_expense c a) e x in
    let y' : shown_expense c b ≡ f = some-injective (shown_expense c b) f y in
    let v' : a.version ≡ b.version = ap (λ z. z.version) x' ∙ v ∙ ap (λ z. z.version) (sym y') in
    let q : alike a b ≡ true = imp (eqb a.version b.version) (alike a b) h (eqb_yes a.version b.version v') in
    (λ i. M.acknowledged_to (sym y' i).acknowledged_shares (sym x' i)) ∙ alike_shown c a b q v' ∙ y'

shown_agree : (c : ℕ) (o p : Option Expense) → Alike (map (shown_expense c) o) (map (shown_expense c) p) → SameDay o p → agree o p ≡ true
shown_agree c none p h d = refl
shown_agree c (some a) none h d = refl
shown_agree c (some a) (some b) h d =
    of_imp (eqb a.version b.version) (alike a b) (λ q. let v = eqb_true a.version b.version q in shown_alike c a b (h (shown_expense c a) (shown_expense c b) refl refl v) (d a b refl refl v))

-- The tie of the join's answer.
pub tie_merge_answer : (r w : ℕ) (l m : Ledger)
    → (merge_answer l m ≡ 0) ↔ (((g : ℕ) → g < 16 → rules_agree (l.rule g) (m.rule g) ≡ true) × ((c : ℕ) → c < 512 → Alike ((show r l).recorded_expenses c) ((show w m).recorded_expenses c) × SameDay (l.expense c) (m.expense c)))
unfolding merge_answer show
tie_merge_answer r w l m = (
  λ e.
      let p = pass _ tt e in (
        every_below_lem 16 _ (not_false _ (p 0)),
        λ c k. let z = every_below_lem 512 _ (not_false _ (p 1)) c k in (agree_shown c (l.expense c) (m.expense c) z, agree_day (l.expense c) (m.expense c) z),
      ),
  λ h. of_passed _ (ap not (of_every_below 16 _ h.0), (ap not (of_every_below 512 _ (λ c k. shown_agree c (l.expense c) (m.expense c) (h.1 c k).0 (h.1 c k).1)), tt)),
)
