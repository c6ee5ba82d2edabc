-- What a group of rule 2 may rely on, and what no group loses by it (specs/Small). Rests on when a share counts as acknowledged (Counted) and an expense is valid
-- (Pending).
use mathlib.Core.Path.{◌≡◌, refl, sym, ap, ◌∙◌}
use mathlib.Core.Bool.{true, false, not, cond, ◌&&◌, ◌||◌}
use mathlib.Core.Option.{Option, some}
use mathlib.Core.List.{[], ◌∷◌}
use mathlib.Core.Logic.{◌≢◌}
use Prim.Native.Nat.{ℕ, ◌-◌, ◌≤◌, ◌<◌}
use native.Mathlib.Omega.{arith}
use lib.Dec.{ltb, eqb}
use lib.IntN.{pos, sub_ℕ, ◌+ℤ◌, ◌-ℤ◌}
use Rattle.format.specs.Layout.{user_count, expense_count, last_version, equal_rule, use_rule, small_share}
use Rattle.rules.specs.Tests.{number, only, sum8, every8, sum_below, some_below}
use Rattle.rules.specs.Ledger.{Expense, with_acks, Ledger, member, total, in_group, or_blank, absent, at}
use Rattle.rules.specs.Parts.{part_in}
use Rattle.rules.specs.Balance.{counts_acknowledged, valid, paid_in, held_in, used_in, valid_in, paid, held, raw, gift, gifts, members, weight, part, balance, valid_expenses, line_of, lines_of, totals_of}
use Rattle.rules.specs.Pending.{pending_in, pending}
use Rattle.rules.specs.Action.{put_in, acknowledge, absorb, actor, fields_fit}
use Rattle.rules.specs.Step.{add_ack, edited, gives, ledger_after}
use Rattle.rules.specs.Refusal.{checks, answer}
use Rattle.rules.specs.Small.{AllSmall, SmallShares}
use Rattle.rules.proofs.Basics.{clash, Same, same, other, same?, false_of, eqb_self, or_right, or_false, and_none}
use Rattle.rules.proofs.Accepted.{pass, there_is}
use Rattle.rules.proofs.Sound.{eqb_other, not_zero}
use Rattle.rules.proofs.Counted.{counts_stored, counts_large, counts_small, counts_acknowledged_lem}
use Rattle.rules.proofs.Reasons.{first_passed, at_home}
use Rattle.rules.proofs.Pending.{counted, valid_group, valid_stands, valid_acks, of_valid}

small_valid : (g : ℕ) (e : Expense) → e.group ≡ g → e.deleted ≡ false → AllSmall e → valid use_rule g e ≡ true
small_valid g e i d s = of_valid use_rule g e i d (λ w w8 _. counts_small (e.shares w) (e.acknowledged w) (s w w8))

large_waits : (k g u : ℕ) (e : Expense) → u < user_count → small_share < e.shares u → e.acknowledged u ≡ false → valid k g e ≡ false
large_waits k g u e u8 s n = false_of (valid k g e) (λ v. clash (valid_acks k g e v u u8 (omega arith)) (counts_large k (e.shares u) (e.acknowledged u) s ∙ n))

strictly_valid : (k g : ℕ) (e : Expense) → valid equal_rule g e ≡ true → valid k g e ≡ true
strictly_valid k g e v = of_valid k g e (valid_group equal_rule g e v) (valid_stands equal_rule g e v)
    (λ w w8 s. counts_acknowledged_lem k (e.shares w) (e.acknowledged w) (sym (counts_stored equal_rule (e.shares w) (e.acknowledged w) (λ q. omega arith)) ∙ valid_acks equal_rule g e v w w8 s))

-- One more bit, of a user whose share counts as acknowledged already if the expense is in the group.
module _ (k g a : ℕ) (e : Expense) (ready : e.group ≡ g → counted k e a ≡ true) where
  abbrev nodded : Expense
  nodded = with_acks e (λ w. e.acknowledged w || eqb w a)

  counts_same : e.group ≡ g → (w : ℕ) → counted k nodded w ≡ counted k e w
  counts_same i w = go (same? w a)
    where
      go : Same w a → counts_acknowledged k (e.shares w) (e.acknowledged w || eqb w a) ≡ counts_acknowledged k (e.shares w) (e.acknowledged w)
      go (same p q) = counts_acknowledged_lem k (e.shares w) (e.acknowledged w || eqb w a) (or_right (e.acknowledged w) (eqb w a) q) ∙ sym (ap (counted k e) p ∙ ready i)
      go (other _ q) = ap (λ t. counts_acknowledged k (e.shares w) (e.acknowledged w || t)) q ∙ ap (counts_acknowledged k (e.shares w)) (or_false (e.acknowledged w))

  valid_same : valid k g nodded ≡ valid k g e
  valid_same = go (same? e.group g)
    where
      go : Same e.group g → valid k g nodded ≡ valid k g e
      go (same p _) = λ i. eqb e.group g && not e.deleted && every8 (λ w. eqb (e.shares w) 0 || counts_same p w i)
      go (other _ q) = rw q

  paid_same : (u : ℕ) → paid_in k g u (some nodded) ≡ paid_in k g u (some e)
  paid_same u = λ i. only (valid_same i && eqb e.payer u) (total e)

  held_same : (u : ℕ) → held_in k g u (some nodded) ≡ held_in k g u (some e)
  held_same u = λ i. only (valid_same i) (e.shares u)

  used_same : (u : ℕ) → used_in k g u (some nodded) ≡ used_in k g u (some e)
  used_same u = λ i. number (valid_same i && ltb 0 (e.shares u))

  pending_same : (u : ℕ) → pending_in k g u (some nodded) ≡ pending_in k g u (some e)
  pending_same u = go (same? e.group g)
    where
      go : Same e.group g → pending_in k g u (some nodded) ≡ pending_in k g u (some e)
      go (same p _) = λ i. counts_same p u i && ltb 0 (e.shares u) && eqb e.group g && not (e.deleted || valid_same i)
      go (other _ q) = rw q (rw (and_none (counted k nodded u && ltb 0 (e.shares u)), and_none (counted k e u && ltb 0 (e.shares u))))

-- So an acknowledgement of such a share changes no figure.
module _ (l : Ledger) (a c : ℕ) (ab : absent l c ≡ false) (g : ℕ) (ready : (at l c).group ≡ g → counted (l.rule g) (at l c) a ≡ true) where
  abbrev m : Ledger
  m = record { counter = l.counter; rule = l.rule; expense = λ d. cond (eqb d c) (add_ack a (l.expense d)) (l.expense d) }

  one : {X : Type 0} (F : Option Expense → X) → F (some (nodded (l.rule g) g a (at l c) ready)) ≡ F (some (at l c)) → (d : ℕ) → F (m.expense d) ≡ F (l.expense d)
  one F q d = go (same? d c)
    where
      go : Same d c → F (cond (eqb d c) (add_ack a (l.expense d)) (l.expense d)) ≡ F (l.expense d)
      go (same p z) =
          let is : l.expense d ≡ some (at l c) = ap l.expense p ∙ there_is l c ab in
          ap (λ t. F (cond t (add_ack a (l.expense d)) (l.expense d))) z ∙ ap (λ o. F (add_ack a o)) is ∙ q ∙ sym (ap F is)
      go (other _ z) = ap (λ t. F (cond t (add_ack a (l.expense d)) (l.expense d))) z

  paid_stays : (u : ℕ) → paid m g u ≡ paid l g u
  unfolding paid
  paid_stays u = λ i. sum_below expense_count (λ d. one (paid_in (l.rule g) g u) (paid_same (l.rule g) g a (at l c) ready u) d i)

  held_stays : (u : ℕ) → held m g u ≡ held l g u
  unfolding held
  held_stays u = λ i. sum_below expense_count (λ d. one (held_in (l.rule g) g u) (held_same (l.rule g) g a (at l c) ready u) d i)

  weight_stays : (u : ℕ) → weight m g u ≡ weight l g u
  unfolding weight
  weight_stays u = λ i. sum_below expense_count (λ d. one (used_in (l.rule g) g u) (used_same (l.rule g) g a (at l c) ready u) d i)

  valid_stays : valid_expenses m g ≡ valid_expenses l g
  unfolding valid_expenses
  valid_stays = λ i. sum_below expense_count (λ d. one (valid_in (l.rule g) g) (ap number (valid_same (l.rule g) g a (at l c) ready)) d i)

  pub pending_stays : (u : ℕ) → pending m g u ≡ pending l g u
  unfolding pending
  pending_stays u = λ i. some_below expense_count (λ d. one (pending_in (l.rule g) g u) (pending_same (l.rule g) g a (at l c) ready u) d i)

  raw_stays : (u : ℕ) → raw m g u ≡ raw l g u
  unfolding raw
  raw_stays u = λ i. sub_ℕ (paid_stays u i) (held_stays u i)

  gift_stays : (u : ℕ) → gift m g u ≡ gift l g u
  unfolding gift
  gift_stays u = λ i. only (not (member l g u)) (paid_stays u i - held_stays u i)

  gifts_stay : gifts m g ≡ gifts l g
  unfolding gifts
  gifts_stay = λ i. sum8 (λ u. gift_stays u i)

  part_stays : (u : ℕ) → part m g u ≡ part l g u
  unfolding part
  part_stays u = λ i. part_in (member l g) (gifts_stay i) (λ w. weight_stays w i) (l.rule g) u

  line_stays : (u : ℕ) → line_of m g u ≡ line_of l g u
  unfolding line_of balance
  line_stays u = λ i. record {
    counter = l.counter g u;
    raw = raw_stays u i;
    gift = gift_stays u i;
    part = part_stays u i;
    balance = raw_stays u i -ℤ pos (gift_stays u i) +ℤ pos (part_stays u i);
  }

  pub lines_stay : lines_of m g ≡ lines_of l g
  unfolding lines_of
  lines_stay = λ i. line_stays 0 i ∷ line_stays 1 i ∷ line_stays 2 i ∷ line_stays 3 i ∷ line_stays 4 i ∷ line_stays 5 i ∷ line_stays 6 i ∷ line_stays 7 i ∷ []

  pub totals_stay : totals_of m g ≡ totals_of l g
  unfolding totals_of members
  totals_stay = λ i. record { answer = 0; members = members l g; expenses = valid_stays i; gifts = gifts_stay i }

module _ (home : ℕ → ℕ) (r : ℕ) (l : Ledger) where
  put_valid : (a g c : ℕ) → answer home r (some (put_in a g c)) l ≡ 0 → l.rule g ≡ use_rule → (at l c).deleted ≡ false → AllSmall (at l c) → valid (l.rule g) g (at (ledger_after (put_in a g c) l) c) ≡ true
  unfolding gives
  put_valid a g c e k d s =
      let new : Expense = edited (at l c) g (at l c).deleted (at l c).acknowledged (at l c).shares (at l c).day in
      ap (λ t. valid (l.rule g) g (or_blank (cond t (some new) (l.expense c)))) (eqb_self c) ∙ ap (λ n. valid n g new) k ∙ small_valid g new refl d s

  nod_accepted : (a c : ℕ) → fields_fit (acknowledge a c) ≡ true → home a ≡ r → absent l c ≡ false → (at l c).deleted ≡ false → in_group (at l c) ≡ true
      → member l (at l c).group a ≡ true → 0 < (at l c).shares a → (at l c).acknowledged a ≡ false → answer home r (some (acknowledge a c)) l ≡ 0
  unfolding answer actor checks
  nod_accepted a c fi hm ab de ig me s n = first_passed _ (ap not fi, (at_home home r a hm, (ab, (de, (ap not ig, (ap not me, (not_zero ((at l c).shares a) s, (n, tt))))))))

  absorb_accepted : (a o c : ℕ) → fields_fit (absorb a o c) ≡ true → home a ≡ r → o ≢ a → absent l c ≡ false → (at l c).deleted ≡ false → (at l c).payer ≡ a → in_group (at l c) ≡ true
      → member l (at l c).group a ≡ true → member l (at l c).group o ≡ false → 0 < (at l c).shares o → (at l c).acknowledged o ≡ false
      → (at l c).version ≢ last_version → answer home r (some (absorb a o c)) l ≡ 0
  unfolding answer actor checks
  absorb_accepted a o c fi hm ne ab de pa ig me out s n room =
      first_passed _ (
        ap not fi,
        (
          at_home home r a hm,
          (
            eqb_other o a ne,
            (
              ab,
              (
                de,
                (
                  ap (λ p. not (eqb p a)) pa ∙ ap not (eqb_self a),
                  (
                    not_zero ((at l c).shares o) s,
                    (
                      n,
                      (
                        ap not ig,
                        (
                          ap not me,
                          (
                            out,
                            (eqb_other (at l c).version last_version room, tt),
                          ),
                        ),
                      ),
                    ),
                  ),
                ),
              ),
            ),
          ),
        ),
      )

  -- The group of the expense is the one whose rule was asked.
  ready : (a c g : ℕ) → l.rule (at l c).group ≡ use_rule → (at l c).shares a ≤ small_share → (at l c).group ≡ g → counted (l.rule g) (at l c) a ≡ true
  ready a c g k s i = ap (λ n. counts_acknowledged n ((at l c).shares a) ((at l c).acknowledged a)) (ap l.rule (sym i) ∙ k) ∙ counts_small ((at l c).shares a) ((at l c).acknowledged a) s

  there : (a c : ℕ) → answer home r (some (acknowledge a c)) l ≡ 0 → absent l c ≡ false
  unfolding answer checks
  there a c e = pass _ tt e 2

  pub small_shares : SmallShares home r l
  unfolding gives
  small_shares = record {
    stands = λ g e k i d s. ap (λ n. valid n g e) k ∙ small_valid g e i d s;
    put = put_valid;
    waits = large_waits;
    stays = strictly_valid;
    nods = nod_accepted;
    absorbs = absorb_accepted;
    idle = λ a c e k s g.
        let y = ready a c g k s in
        (lines_stay l a c (there a c e) g y, totals_stay l a c (there a c e) g y, pending_stays l a c (there a c e) g y);
  }
