-- Accepted actions keep a ledger sound.
use mathlib.Core.Path.{◌≡◌, refl, sym, ◌∙◌, subst}
use mathlib.Core.Bool.{Bool, true, false, not, cond, ◌&&◌, ◌||◌}
use mathlib.Core.Option.{some}
use mathlib.Core.Logic.{◌≢◌}
use Prim.Native.Nat.{ℕ, zero, suc, ◌+◌, ◌/◌, ◌%◌, ◌≤◌, ◌<◌}
use native.Mathlib.Omega.{arith}
use lib.Dec.{ltb, leb, eqb}
use Rattle.rules.proofs.Basics.{clash, same?, Same, same, other, eqb_true, eqb_false, and_left, and_right}
use Rattle.format.specs.Layout.{no_group}
use Rattle.rules.specs.Tests.{sum8}
use Rattle.rules.specs.Ledger.{Expense, with_acks, Ledger, in_group, member, at, absent}
use Rattle.rules.specs.Sound.{day_fits, sound}
use Rattle.rules.specs.Action.{Action, found, add, leave, enter, put_in, take_out, change, delete, acknowledge, absorb, actor, fields_fit}
use Rattle.rules.specs.Step.{founds, counts, states, acks, add_ack, apply, edited, payer_ack, moved, gives, ledger_after}
use Rattle.rules.specs.Refusal.{checks, answer, outside, stranger_in}
use Rattle.rules.proofs.Accepted.{fits, nobody_zero, pass, test, every_8, ltb_lt, not_false, there_is}
use Rattle.rules.proofs.Sound.{or_else, leb_le, eqb_other, positive, not_zero, no_group_lem, in_group_lem, Good, GoodOption, GoodLedger, good_ledger, ungood_ledger, good_more, good_option}

-- What the three kinds of step ask for.
module _ (home : ℕ → ℕ) (l : Ledger) (h : GoodLedger home l) where
  keep_counts : (g u n : ℕ) → l.counter g u ≤ n → GoodLedger home (apply (counts g u n) l)
  keep_counts g u n le c k = good_option home l (apply (counts g u n) l) c (λ x w. go x w (same? x g) (same? w u)) (l.expense c) (h c k)
    where
      go : (x w : ℕ) → Same x g → Same w u → l.counter x w ≤ cond (eqb x g && eqb w u) n (l.counter x w)
      go x w (same p a) (same q b) = rw (a, b, p, q) le
      go x w (same p a) (other q b) = rw (a, b) (omega arith)
      go x w (other p a) _ = rw a (omega arith)

  keep_founds : (g u k : ℕ) → l.counter g u ≤ 1 → GoodLedger home (apply (founds g u k) l)
  keep_founds g u k le c j = good_option home (apply (counts g u 1) l) (apply (founds g u k) l) c (λ x w. omega arith) (l.expense c) (keep_counts g u 1 le c j)

  keep_states : (c : ℕ) (e : Expense) → Good home l c e → GoodLedger home (apply (states c e) l)
  keep_states c e g d k = go (same? d c)
    where
      go : Same d c → GoodOption home (apply (states c e) l) d (cond (eqb d c) (some e) (l.expense d))
      go (same p a) = rw (a, p) (good_more _ (λ x w. omega arith) g)
      go (other p a) = rw a (good_option home l _ d (λ x w. omega arith) (l.expense d) (h d k))

  keep_acks : (c v u : ℕ) (e : Expense) → l.expense c ≡ some e → c < 512 → 0 < e.shares u → e.group ≢ 255 → GoodLedger home (apply (acks c v u) l)
  keep_acks c v u e is c512 pos ing d k = go (same? d c)
    where
      g : Good home l c e
      g = rw is at (h c c512)

      one_more : Good home (apply (acks c v u) l) c (with_acks e (λ w. e.acknowledged w || eqb w u))
      one_more = record {
        payer8 = g.payer8;
        group16 = g.group16;
        homed = g.homed;
        low = g.low;
        high = g.high;
        bits = λ w j a. go₂ w j (same? w u) a;
        lone = λ q. absurd (ing q);
        payer_in = g.payer_in;
        shares_in = g.shares_in;
        dayed = g.dayed;
      }
        where
          go₂ : (w : ℕ) → w < 8 → Same w u → (e.acknowledged w || eqb w u) ≡ true → 0 < e.shares w
          go₂ w j (same p b) a = rw p pos
          go₂ w j (other p b) a = g.bits w j (or_no (e.acknowledged w) (eqb w u) a b)
            where
              or_no : (x y : Bool) → (x || y) ≡ true → y ≡ false → x ≡ true
              or_no true y q r = refl
              or_no false y q r = absurd (clash q r)

      go : Same d c → GoodOption home (apply (acks c v u) l) d (cond (eqb d c) (add_ack u (l.expense d)) (l.expense d))
      go (same p a) = rw (a, p, is) one_more
      go (other p a) = rw a (good_option home l _ d (λ x w. omega arith) (l.expense d) (h d k))

-- Facts that the checks give.
member_ever : (l : Ledger) (g u : ℕ) → member l g u ≡ true → 0 < l.counter g u
member_ever l g u e = let z = eqb_true (l.counter g u % 2) 1 e in omega arith

low_of : (s : ℕ → ℕ) → outside s ≡ false → 1 ≤ sum8 s
low_of s e = leb_le 1 (sum8 s) (and_left (leb 1 (sum8 s)) (leb (sum8 s) 1_000_000_000) (not_false _ e))

high_of : (s : ℕ → ℕ) → outside s ≡ false → sum8 s ≤ 1_000_000_000
high_of s e = leb_le (sum8 s) 1_000_000_000 (and_right (leb 1 (sum8 s)) (leb (sum8 s) 1_000_000_000) (not_false _ e))

shared_in : (l : Ledger) (g : ℕ) (s : ℕ → ℕ) → stranger_in (l.counter g) s ≡ false → (u : ℕ) → u < 8 → 0 < s u → 0 < l.counter g u
shared_in l g s e u k h = member_ever l g u (or_else (eqb (s u) 0) (member l g u) (every_8 _ (not_false _ e) u k) (not_zero (s u) h))

and_no : (a b : Bool) → (a && b) ≡ false → a ≡ true → b ≡ false
and_no true b e p = e
and_no false b e p = absurd (clash p refl)

-- The sum of the shares with one of them replaced.
sum_set : (a : ℕ) (x : ℕ) (s : ℕ → ℕ) → a < 8 → sum8 (λ u. cond (eqb u a) x (s u)) + s a ≡ sum8 s + x
sum_set zero x s k = omega arith
sum_set (suc zero) x s k = omega arith
sum_set (suc (suc zero)) x s k = omega arith
sum_set (suc (suc (suc zero))) x s k = omega arith
sum_set (suc (suc (suc (suc zero)))) x s k = omega arith
sum_set (suc (suc (suc (suc (suc zero))))) x s k = omega arith
sum_set (suc (suc (suc (suc (suc (suc zero)))))) x s k = omega arith
sum_set (suc (suc (suc (suc (suc (suc (suc zero))))))) x s k = omega arith
sum_set (suc (suc (suc (suc (suc (suc (suc (suc n)))))))) x s k = absurd (omega arith)

pub moved_total : (a o : ℕ) (s : ℕ → ℕ) → a < 8 → o < 8 → a ≢ o → sum8 (moved a o s) ≡ sum8 s
moved_total a o s ka ko ne =
    let p = sum_set a (s a + s o) (λ u. cond (eqb u o) 0 (s u)) ka in
    let q = sum_set o 0 s ko in
    let r : cond (eqb a o) 0 (s a) ≡ s a = rw (eqb_other a o ne) in
    let p' : sum8 (moved a o s) + s a ≡ sum8 (λ u. cond (eqb u o) 0 (s u)) + (s a + s o) = rw r at p in
    omega arith

-- The payer of an accepted edit is the actor, and the old version is sound.
module _ (home : ℕ → ℕ) (replica a c : ℕ) (l : Ledger) (so : sound home l ≡ true) (lt : ltb c 512 ≡ true) (ab : absent l c ≡ false) (pa : not (eqb (at l c).payer a) ≡ false) where
  ledger_good : GoodLedger home l
  ledger_good = good_ledger home l so

  is_some : l.expense c ≡ some (at l c)
  is_some = there_is l c ab

  old : Good home l c (at l c)
  old = let z : GoodOption home l c (l.expense c) = ledger_good c (ltb_lt c 512 lt) in rw is_some at z

  payer_is : (at l c).payer ≡ a
  payer_is = eqb_true (at l c).payer a (not_false _ pa)

  good_put : (g : ℕ) → ltb g 16 ≡ true → not (member l g a) ≡ false → stranger_in (l.counter g) (at l c).shares ≡ false
      → Good home l c (edited (at l c) g (at l c).deleted (at l c).acknowledged (at l c).shares (at l c).day)
  good_put g g16 ma st = record {
    payer8 = old.payer8;
    group16 = rw g16;
    homed = old.homed;
    low = old.low;
    high = old.high;
    bits = old.bits;
    lone = λ q. absurd (let z = ltb_lt g 16 g16 in omega arith);
    payer_in = λ q. rw payer_is (member_ever l g a (not_false _ ma));
    shares_in = λ q. shared_in l g (at l c).shares st;
    dayed = old.dayed;
  }

  good_take : Good home l c (edited (at l c) no_group (at l c).deleted (payer_ack a (at l c).shares) (at l c).shares (at l c).day)
  good_take = record {
    payer8 = old.payer8;
    group16 = refl;
    homed = old.homed;
    low = old.low;
    high = old.high;
    bits = λ u k e. ltb_lt 0 ((at l c).shares u) (and_right (eqb u a) (ltb 0 ((at l c).shares u)) e);
    lone = λ q u k e. rw payer_is (eqb_true u a (and_left (eqb u a) (ltb 0 ((at l c).shares u)) e));
    payer_in = λ q. absurd (q refl);
    shares_in = λ q. absurd (q refl);
    dayed = old.dayed;
  }

  good_change : (s : ℕ → ℕ) (day : ℕ) → day_fits day ≡ true → outside s ≡ false → (in_group (at l c) && stranger_in (l.counter (at l c).group) s) ≡ false
      → Good home l c (edited (at l c) (at l c).group (at l c).deleted (payer_ack a s) s day)
  good_change s day dy out st = record {
    payer8 = old.payer8;
    group16 = old.group16;
    homed = old.homed;
    low = low_of s out;
    high = high_of s out;
    bits = λ u k e. ltb_lt 0 (s u) (and_right (eqb u a) (ltb 0 (s u)) e);
    lone = λ q u k e. rw payer_is (eqb_true u a (and_left (eqb u a) (ltb 0 (s u)) e));
    payer_in = old.payer_in;
    shares_in = λ q. shared_in l (at l c).group s (and_no (in_group (at l c)) (stranger_in (l.counter (at l c).group) s) st (in_group_lem (at l c) q));
    dayed = dy;
  }

  good_delete : Good home l c (edited (at l c) (at l c).group true (at l c).acknowledged (at l c).shares (at l c).day)
  good_delete = record {
    payer8 = old.payer8;
    group16 = old.group16;
    homed = old.homed;
    low = old.low;
    high = old.high;
    bits = old.bits;
    lone = old.lone;
    payer_in = old.payer_in;
    shares_in = old.shares_in;
    dayed = old.dayed;
  }

  good_absorb : (o : ℕ) → ltb a 8 ≡ true → ltb o 8 ≡ true → eqb o a ≡ false → (at l c).acknowledged o ≡ false → not (in_group (at l c)) ≡ false
      → Good home l c (edited (at l c) (at l c).group (at l c).deleted (at l c).acknowledged (moved a o (at l c).shares) (at l c).day)
  good_absorb o a8 o8 ne no-ack ing = record {
    payer8 = old.payer8;
    group16 = old.group16;
    homed = old.homed;
    low = subst (λ n. 1 ≤ n) (sym sums) old.low;
    high = subst (λ n. n ≤ 1_000_000_000) (sym sums) old.high;
    bits = λ u k e. positive_moved u (same? u a) (same? u o) e (old.bits u k e);
    lone = λ q. absurd (in_some q);
    payer_in = old.payer_in;
    shares_in = λ q u k. member_moved q u k (same? u a) (same? u o);
    dayed = old.dayed;
  }
    where
      s : ℕ → ℕ
      s = (at l c).shares

      sums : sum8 (moved a o s) ≡ sum8 s
      sums = moved_total a o s (ltb_lt a 8 a8) (ltb_lt o 8 o8) (let z = eqb_false o a ne in omega arith)

      in_some : (at l c).group ≡ 255 → ⊥
      in_some q = clash (not_false _ ing) (no_group_lem (at l c) q)

      positive_moved : (u : ℕ) → Same u a → Same u o → (at l c).acknowledged u ≡ true → 0 < s u → 0 < moved a o s u
      positive_moved u (same p x) _ e h = rw x (let z : 0 < s a = rw p at h in omega arith)
      positive_moved u (other p x) (same q y) e h = absurd (clash (rw q at e) no-ack)
      positive_moved u (other p x) (other q y) e h = rw (x, y) h

      member_moved : (at l c).group ≢ 255 → (u : ℕ) → u < 8 → Same u a → Same u o → 0 < moved a o s u → 0 < l.counter (at l c).group u
      member_moved q u k (same p x) _ h = let z = old.payer_in q in rw (p ∙ sym payer_is) z
      member_moved q u k (other p x) (same r y) h = absurd (let z : 0 < 0 = rw (x, y) at h in omega arith)
      member_moved q u k (other p x) (other r y) h = old.shares_in q u k (rw (x, y) at h)

-- Every accepted action.
act_good : (home : ℕ → ℕ) (replica : ℕ) (x : Action) (l : Ledger) → sound home l ≡ true → answer home replica (some x) l ≡ 0 → GoodLedger home (ledger_after x l)
unfolding answer checks gives fields_fit actor
act_good home replica (found a g k) l so e = keep_founds home l (good_ledger home l so) g a k (let z = fits home replica (found a g k) l so e in let y = nobody_zero (l.counter g) z.2 a z.1 in omega arith)
act_good home replica (add a o g) l so e = let p = pass _ tt e in keep_counts home l (good_ledger home l so) g o (suc (l.counter g o)) (omega arith)
act_good home replica (leave a g) l so e = let p = pass _ tt e in keep_counts home l (good_ledger home l so) g a (suc (l.counter g a)) (omega arith)
act_good home replica (enter a c s day) l so e =
    let p = pass _ tt e in
    let f = test _ (not_false _ (p 0)) in
    keep_states home l (good_ledger home l so) c _ (record {
      payer8 = ltb_lt a 8 (f 0);
      group16 = refl;
      homed = eqb_true (home a) replica (not_false _ (p 1)) ∙ sym (eqb_true (c / 64) replica (not_false _ (p 2)));
      low = low_of s (p 4);
      high = high_of s (p 4);
      bits = λ u k q. ltb_lt 0 (s u) (and_right (eqb u a) (ltb 0 (s u)) q);
      lone = λ q u k b. eqb_true u a (and_left (eqb u a) (ltb 0 (s u)) b);
      payer_in = λ q. absurd (q refl);
      shares_in = λ q. absurd (q refl);
      dayed = f 2;
    })
act_good home replica (put_in a g c) l so e =
    let p = pass _ tt e in
    let f = test _ (not_false _ (p 0)) in
    keep_states home l (good_ledger home l so) c _
    (good_put home replica a c l so (f 2) (p 3) (p 5) g (f 1) (p 4) (p 7))
act_good home replica (take_out a g c) l so e =
    let p = pass _ tt e in
    let f = test _ (not_false _ (p 0)) in
    keep_states home l (good_ledger home l so) c _ (good_take home replica a c l so (f 2) (p 3) (p 6))
act_good home replica (change a c s day) l so e =
    let p = pass _ tt e in
    let f = test _ (not_false _ (p 0)) in
    keep_states home l (good_ledger home l so) c _
    (good_change home replica a c l so (f 1) (p 2) (p 3) s day (f 2) (p 4) (p 6))
act_good home replica (delete a c) l so e =
    let p = pass _ tt e in
    let f = test _ (not_false _ (p 0)) in
    keep_states home l (good_ledger home l so) c _ (good_delete home replica a c l so (f 1) (p 2) (p 3))
act_good home replica (acknowledge a c) l so e =
    let p = pass _ tt e in
    let f = test _ (not_false _ (p 0)) in
    keep_acks home l (good_ledger home l so) c (at l c).version a (at l c) (there_is l c (p 2)) (ltb_lt c 512 (f 1))
    (positive ((at l c).shares a) (p 6))
    (λ q. clash (not_false _ (p 4)) (no_group_lem (at l c) q))
act_good home replica (absorb a o c) l so e =
    let p = pass _ tt e in
    let f = test _ (not_false _ (p 0)) in
    keep_states home l (good_ledger home l so) c _
    (good_absorb home replica a c l so (f 2) (p 3) (p 5) o (f 0) (f 1) (p 2) (p 7) (p 8))

pub act_sound : (home : ℕ → ℕ) (replica : ℕ) (x : Action) (l : Ledger) → sound home l ≡ true → answer home replica (some x) l ≡ 0 → sound home (ledger_after x l) ≡ true
act_sound home replica x l so e = ungood_ledger home (ledger_after x l) (act_good home replica x l so e)
