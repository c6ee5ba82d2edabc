-- A refusal has its reason: what nothing speaks against is accepted; who owes may not leave, whatever part of the gifts is theirs, nor who waits for others.
-- These laws say of the tests what they are for, apart from the lists in which the tests stand.
use mathlib.Core.Path.{◌≡◌, refl, sym, ap, ◌∙◌}
use mathlib.Core.Bool.{Bool, true, false, not, ◌&&◌, ◌||◌}
use mathlib.Core.Option.{Option, none, some}
use mathlib.Core.Logic.{◌≢◌}
use mathlib.Core.List.{List, [], ◌∷◌}
use Prim.Native.Nat.{ℕ, ◌≤◌, ◌<◌}
use native.Mathlib.Omega.{arith}
use lib.Dec.{eqb}
use Rattle.format.specs.Layout.{user_count, group_count, expense_count, no_group, most_total, last_counter, last_version}
use Rattle.rules.specs.Tests.{sum8, Check, first}
use Rattle.rules.specs.Ledger.{Expense, Ledger, member, group_absent, in_group, absent_option, or_blank}
use Rattle.rules.specs.Sound.{day_fits}
use Rattle.rules.specs.Balance.{paid, held}
use Rattle.rules.specs.Pending.{pending}
use Rattle.rules.specs.Action.{leave, change, actor, fields_fit}
use Rattle.rules.specs.Refusal.{outside, stranger_in, at_last_version, checks, answer}
use Rattle.rules.specs.Merge.{rules_agree, alike, agree, merge_answer}
use Rattle.rules.proofs.Basics.{clash, false_of, Same, same, other, same?, eqb_self, ltb_true, ltb_false}
use Rattle.rules.proofs.Accepted.{Passed, every_below_lem}
use Rattle.rules.proofs.Sound.{of_each, of_every_below, eqb_other, le_leb, no_group_lem}
use Rattle.rules.proofs.Answers.{first_yes, first_no}
use Rattle.rules.proofs.Pending.{counted, valid_acks, of_valid, pending_clear}

-- Where no test holds, nothing is refused.
pub first_passed : (ks : List Check) → Passed ks → first ks ≡ 0
unfolding first
first_passed [] p = refl
first_passed (k ∷ ks) p = rw p.0 (first_passed ks p.1)

pub at_home : (home : ℕ → ℕ) (r a : ℕ) → home a ≡ r → not (eqb (home a) r) ≡ false
at_home home r a e = ap (λ n. not (eqb n r)) e ∙ ap not (eqb_self r)

change_fits : (a c : ℕ) (s : ℕ → ℕ) (day : ℕ) → a < user_count → c < expense_count → day_fits day ≡ true → fields_fit (change a c s day) ≡ true
unfolding fields_fit
change_fits a c s day a8 c512 dy = of_each _ (ltb_true a user_count a8, (ltb_true c expense_count c512, (dy, tt)))

inside : (s : ℕ → ℕ) → 1 ≤ sum8 s → sum8 s ≤ most_total → outside s ≡ false
inside s low high = rw (le_leb 1 (sum8 s) low, le_leb (sum8 s) most_total high)

-- A payer may change an expense that is in no group, as long as there is room for another version.
pub change_accepted : (home : ℕ → ℕ) (r a c : ℕ) (s : ℕ → ℕ) (day : ℕ) (l : Ledger) (e : Expense) → day_fits day ≡ true → a < user_count → c < expense_count → home a ≡ r
    → l.expense c ≡ some e → e.payer ≡ a → e.deleted ≡ false → e.group ≡ no_group → 1 ≤ sum8 s → sum8 s ≤ most_total → e.version < last_version
    → answer home r (some (change a c s day)) l ≡ 0
unfolding answer actor checks
change_accepted home r a c s day l e dy a8 c512 hm is pa de gr low high room =
    first_passed _ (
      ap not (change_fits a c s day a8 c512 dy),
      (
        at_home home r a hm,
        (
          ap absent_option is,
          (
            ap (λ o. not (eqb (or_blank o).payer a)) is ∙ ap (λ n. not (eqb n a)) pa ∙ ap not (eqb_self a),
            (
              inside s low high,
              (
                ap (λ o. (or_blank o).deleted) is ∙ de,
                (
                  ap (λ o. in_group (or_blank o) && stranger_in (l.counter (or_blank o).group) s) is ∙ ap (λ b. b && stranger_in (l.counter e.group) s) (no_group_lem e gr),
                  (ap (λ o. at_last_version (or_blank o)) is ∙ eqb_other e.version last_version (omega arith), tt),
                ),
              ),
            ),
          ),
        ),
      ),
    )

-- A member of a group, on the home replica.
module _ (home : ℕ → ℕ) (r a g : ℕ) (l : Ledger) (a8 : a < user_count) (g16 : g < group_count) (hm : home a ≡ r)
    (here : group_absent l g ≡ false) (mem : member l g a ≡ true) where
  fit : fields_fit (leave a g) ≡ true
  unfolding fields_fit
  fit = of_each _ (ltb_true a user_count a8, (ltb_true g group_count g16, tt))

  -- Who owes may not leave: raw alone counts, and no part of the gifts.
  pub leave_owing : paid l g a < held l g a → answer home r (some (leave a g)) l ≡ 13
  unfolding answer actor checks
  leave_owing owes =
      sym (first_no _ 6 _ 13 (ap not fit) (first_no _ 7 _ 13 (at_home home r a hm) (first_no _ 10 _ 13 here (first_no _ 11 _ 13 (ap not mem)
      (first_yes _ 13 _ (ltb_true (paid l g a) (held l g a) owes))))))

  -- Who owes nothing may not leave yet, whatever the counter, while somebody has to acknowledge a share of an expense of that group in which one of the leaver
  -- counts as acknowledged.
  pub leave_waiting : held l g a ≤ paid l g a → (c : ℕ) (e : Expense) (w : ℕ) → c < expense_count → l.expense c ≡ some e → e.group ≡ g → e.deleted ≡ false
      → 0 < e.shares a → counted (l.rule g) e a ≡ true → w < user_count → 0 < e.shares w → counted (l.rule g) e w ≡ false → answer home r (some (leave a g)) l ≡ 34
  unfolding answer actor checks
  leave_waiting even c e w k is i d s n w8 sw nw =
      sym (first_no _ 6 _ 34 (ap not fit) (first_no _ 7 _ 34 (at_home home r a hm) (first_no _ 10 _ 34 here (first_no _ 11 _ 34 (ap not mem)
      (first_no _ 13 _ 34 (ltb_false (paid l g a) (held l g a) even) (first_yes _ 34 _ waits))))))
    where
      waits : pending l g a ≡ true
      waits = go (pending l g a) refl
        where
          go : (b : Bool) → pending l g a ≡ b → pending l g a ≡ true
          go true p = p
          go false p = absurd (clash (valid_acks (l.rule g) g e ((pending_clear l g a).0 p c e k is i d s n) w w8 sw) nw)

  -- Who owes nothing, and has no share that counts as acknowledged and waits for another, may leave, below the last counter.
  pub leave_accepted : held l g a ≤ paid l g a
      → ((c : ℕ) (e : Expense) → c < expense_count → l.expense c ≡ some e → e.group ≡ g → e.deleted ≡ false → 0 < e.shares a → counted (l.rule g) e a ≡ true
      → (w : ℕ) → w < user_count → 0 < e.shares w → counted (l.rule g) e w ≡ true)
      → l.counter g a < last_counter → answer home r (some (leave a g)) l ≡ 0
  unfolding answer actor checks
  leave_accepted even free room =
      let clear : pending l g a ≡ false = (pending_clear l g a).1 (λ c e k is i d s n. of_valid (l.rule g) g e i d (free c e k is i d s n)) in
      first_passed _ (
        ap not fit,
        (at_home home r a hm, (here, (ap not mem, (ltb_false (paid l g a) (held l g a) even, (clear, (eqb_other (l.counter g a) last_counter (omega arith), tt)))))),
      )

-- A merge of two ledgers is accepted where groups on both sides are under one rule and equal versions are alike.
pub merge_free : (l m : Ledger) → ((g : ℕ) → g < group_count → rules_agree (l.rule g) (m.rule g) ≡ true)
    → ((c : ℕ) (e f : Expense) → l.expense c ≡ some e → m.expense c ≡ some f → e.version ≡ f.version → alike e f ≡ true) → merge_answer l m ≡ 0
unfolding merge_answer first
merge_free l m r h = rw (of_every_below group_count (λ g. rules_agree (l.rule g) (m.rule g)) r, of_every_below expense_count (λ c. agree (l.expense c) (m.expense c)) (λ c k. go c (l.expense c) (m.expense c) refl refl))
  where
    go : (c : ℕ) (a b : Option Expense) → l.expense c ≡ a → m.expense c ≡ b → agree a b ≡ true
    go c none b p q = refl
    go c (some e) none p q = refl
    go c (some e) (some f) p q = both (same? e.version f.version)
      where
        both : Same e.version f.version → (not (eqb e.version f.version) || alike e f) ≡ true
        both (same v z) = rw z (h c e f p q v)
        both (other v z) = rw z

-- And is refused where a group on both sides is under different rules.
pub merge_ruled_differently : (l m : Ledger) (g : ℕ) → g < group_count → l.rule g ≢ 0 → m.rule g ≢ 0 → l.rule g ≢ m.rule g → merge_answer l m ≡ 31
unfolding merge_answer
merge_ruled_differently l m g k a b d = sym (first_yes _ 31 _ (ap not (false_of _ (λ e. clash (every_below_lem group_count (λ h. rules_agree (l.rule h) (m.rule h)) e g k) differ))))
  where
    differ : rules_agree (l.rule g) (m.rule g) ≡ false
    differ = rw (eqb_other (l.rule g) 0 a, eqb_other (m.rule g) 0 b) (eqb_other (l.rule g) (m.rule g) d)
