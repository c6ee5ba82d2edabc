-- The ledger after an accepted action shows the module's step: the tie of effects.
use mathlib.Core.Path.{◌≡◌, refl, sym, ap, ◌∙◌, fun_ext}
use mathlib.Core.Bool.{Bool, true, false, not, cond, ◌&&◌, ◌||◌, or-true, or-false}
use mathlib.Core.Option.{Option, none, some, map}
use mathlib.Core.Logic.{◌≢◌}
use Prim.Native.Nat.{ℕ, suc, ◌+◌, ◌<◌}
use native.Mathlib.Omega.{arith}
use lib.Dec.{ltb, eqb}
use Rattle.rules.specs.Tests.{every8}
use Rattle.rules.specs.Ledger.{Expense, with_acks, Ledger, group_absent, absent, at}
use Rattle.rules.specs.Action.{Action, found, add, leave, enter, put_in, take_out, change, delete, acknowledge, absorb, actor, fields_fit}
use Rattle.rules.specs.Step.{founds, counts, states, acks, add_ack, apply, payer_ack, moved, gives, ledger_after}
use Rattle.rules.specs.Refusal.{checks, answer}
use Rattle.rules.proofs.Basics.{clash, Same, eqb_self, eqb_false, same?, ltb_true, false_of, same, other}
use Rattle.rules.proofs.Accepted.{pass, not_false, there_is, test, ltb_lt, every_8}
use Rattle.rules.proofs.Sound.{eqb_other}
use Rattle.rules.proofs.SoundSteps.{moved_total}
use Rattle.splitless.specs.Module as M
use Rattle.splitless.specs.Shown.{shown_expense, shown_group, show, effect}
use Rattle.splitless.proofs.Facts.{numbers_path, flags_path, sum_shares}
use Rattle.splitless.proofs.Showing.{absent_zero, shown_is, id_some}

-- What the ledger shows once an expense, or a counter, is set.
show_states : (r : ℕ) (l : Ledger) (c : ℕ) (e : Expense) (E : M.Expense) → shown_expense c e ≡ E → show r (apply (states c e) l) ≡ M.expenses_to c E (show r l)
unfolding show
show_states r l c e E h = λ i. record { id = r; recorded_expenses = λ d. go d (same? d c) i; groups = λ g. shown_group g (l.counter g) (group_absent l g) }
  where
    go : (d : ℕ) → Same d c → map (shown_expense d) (cond (eqb d c) (some e) (l.expense d)) ≡ cond (eqb d c) (some E) (map (shown_expense d) (l.expense d))
    go d (same p q) = rw (q, p) (ap some h)
    go d (other p q) = rw q

show_counts : (r : ℕ) (l : Ledger) (g u n : ℕ) (m : ℕ → ℕ) → u < 8 → 0 < n → M.numbers (λ w. cond (eqb w u) n (l.counter g w)) ≡ m → show r (apply (counts g u n) l) ≡ M.groups_to g (record { id = g; members = m }) (show r l)
unfolding show
show_counts r l g u n m k pn h = λ i. record { id = r; recorded_expenses = λ d. map (shown_expense d) (l.expense d); groups = λ x. go x (same? x g) i }
  where
    here_now : every8 (λ w. not (ltb 0 (cond (eqb w u) n (l.counter g w)))) ≡ false
    here_now = false_of _ (λ z. clash (every_8 _ z u k) (rw (eqb_self u, ltb_true 0 n pn)))

    -- The group x with the counters that b tells.
    told : ℕ → Bool → Option M.Group
    told x b = shown_group x (λ w. cond (b && eqb w u) n (l.counter x w)) (every8 (λ w. not (ltb 0 (cond (b && eqb w u) n (l.counter x w)))))

    at_g : (b : Bool) → b ≡ true → told g b ≡ some (record { id = g; members = m })
    at_g true e = ap (shown_group g (λ w. cond (eqb w u) n (l.counter g w))) here_now ∙ ap (λ f. some (record { id = g; members = f })) h
    at_g false e = absurd (clash e refl)

    go : (x : ℕ) → Same x g → told x (eqb x g) ≡ cond (eqb x g) (some (record { id = g; members = m })) (shown_group x (l.counter x) (group_absent l x))
    go x (same p q) = ap (λ y. told y (eqb y g)) p ∙ at_g (eqb g g) (eqb_self g) ∙ sym (ap (λ b. cond b (some (record { id = g; members = m })) (shown_group x (l.counter x) (group_absent l x))) q)
    go x (other p q) = ap (λ b. told x b) q ∙ sym (ap (λ b. cond b (some (record { id = g; members = m })) (shown_group x (l.counter x) (group_absent l x))) q)

shown_group_lem : (r : ℕ) (l : Ledger) (g : ℕ) → group_absent l g ≡ false → M.group (show r l) g ≡ record { id = g; members = M.numbers (l.counter g) }
unfolding M.group show
shown_group_lem r l g p = ap (λ b. M.group_or g (shown_group g (l.counter g) b)) p

-- One counter up by one.
up_numbers : (f : ℕ → ℕ) (u : ℕ) → u < 8 → M.numbers (λ w. cond (eqb w u) (suc (f u)) (f w)) ≡ M.except (M.numbers f) u (suc (M.numbers f u))
up_numbers f u k = fun_ext (λ w. go w (same? w u))
  where
    go : (w : ℕ) → Same w u → M.numbers (λ v. cond (eqb v u) (suc (f u)) (f v)) w ≡ M.except (M.numbers f) u (suc (M.numbers f u)) w
    go w (same p q) = rw (q, p, ltb_true u 8 k)
    go w (other p q) = rw q

show_up : (r : ℕ) (l : Ledger) (g u : ℕ) → u < 8 → group_absent l g ≡ false → show r (apply (counts g u (suc (l.counter g u))) l) ≡ M.member_up g u (show r l)
show_up r l g u k p = rw (shown_group_lem r l g p) (show_counts r l g u (suc (l.counter g u)) _ k (omega arith) (up_numbers (l.counter g) u k))

-- Acknowledgements and shares after a step, as functions of the users.
actor_acks : (a : ℕ) (s : ℕ → ℕ) → M.flags (payer_ack a s) ≡ M.only_actor a (M.numbers s)
actor_acks a s = flags_path (payer_ack a s) _ (λ u k. rw (ltb_true u 8 k) (go (eqb u a && ltb 0 (s u))))
  where
    go : (b : Bool) → b ≡ cond b true false
    go true = refl
    go false = refl

ack_flags : (p : ℕ → Bool) (a : ℕ) → a < 8 → M.flags (λ w. p w || eqb w a) ≡ M.except (M.flags p) a true
ack_flags p a k = fun_ext (λ w. go w (same? w a))
  where
    go : (w : ℕ) → Same w a → M.flags (λ v. p v || eqb v a) w ≡ M.except (M.flags p) a true w
    go w (same q e) = rw (e, q, ltb_true a 8 k, or-true (p a))
    go w (other q e) = rw (e, or-false (p w))

moved_numbers : (a o : ℕ) (s : ℕ → ℕ) → a < 8 → o < 8 → M.numbers (moved a o s) ≡ M.new_shares a o (M.numbers s)
moved_numbers a o s ka ko = numbers_path (moved a o s) _ (λ u k. go u k (same? u a))
  where
    go : (u : ℕ) → u < 8 → Same u a → moved a o s u ≡ cond (eqb u a) (M.numbers s u + M.numbers s o) (cond (eqb u o) 0 (M.numbers s u))
    go u k (same p e) = rw (e, p, ltb_true a 8 ka, ltb_true o 8 ko)
    go u k (other p e) = rw (e, ltb_true u 8 k)

kept_flags : (o : ℕ) (p : ℕ → Bool) → p o ≡ false → M.flags p ≡ M.flags (λ u. cond (eqb u o) false (M.flags p u))
kept_flags o p h = flags_path p _ (λ u k. go u k (same? u o))
  where
    go : (u : ℕ) → u < 8 → Same u o → p u ≡ cond (eqb u o) false (M.flags p u)
    go u k (same q e) = rw (e, q) h
    go u k (other q e) = rw (e, ltb_true u 8 k)

-- A founding shows its counter; the rule is not shown.
show_founds : (r : ℕ) (l : Ledger) (g u k : ℕ) → show r (apply (founds g u k) l) ≡ show r (apply (counts g u 1) l)
unfolding show
show_founds r l g u k = refl

-- To acknowledge is to state the same expense with one bit more.
ack_states : (l : Ledger) (c v u : ℕ) → absent l c ≡ false → apply (acks c v u) l ≡ apply (states c (with_acks (at l c) (λ w. (at l c).acknowledged w || eqb w u))) l
ack_states l c v u ab = λ i. record { counter = l.counter; rule = l.rule; expense = λ d. go d (same? d c) i }
  where
    go : (d : ℕ) → Same d c → cond (eqb d c) (add_ack u (l.expense d)) (l.expense d) ≡ cond (eqb d c) (some (with_acks (at l c) (λ w. (at l c).acknowledged w || eqb w u))) (l.expense d)
    go d (same p q) = rw (q, p) (ap (add_ack u) (there_is l c ab))
    go d (other p q) = rw q

-- The tie of effects: after an accepted action the ledger shows exactly the module's step.
pub tie_effect : (home : ℕ → ℕ) (r : ℕ) (l : Ledger) (x : Action) → answer home r (some x) l ≡ 0 → show r (ledger_after x l) ≡ effect x (show r l)
unfolding answer checks fields_fit actor gives effect
tie_effect home r l (found a g k) e =
    let p = pass _ tt e in
    let a8 = ltb_lt a 8 (test _ (not_false _ (p 0)) 0) in
    show_founds r l g a k ∙ show_counts r l g a 1 _ a8 (omega arith) (numbers_path _ _ (λ u k. ap (cond (eqb u a) 1) (absent_zero r l g u k (not_false _ (p 3)))))
tie_effect home r l (add a o g) e =
    let p = pass _ tt e in
    show_up r l g o (ltb_lt o 8 (test _ (not_false _ (p 0)) 1)) (p 2)
tie_effect home r l (leave a g) e =
    let p = pass _ tt e in
    show_up r l g a (ltb_lt a 8 (test _ (not_false _ (p 0)) 0)) (p 2)
tie_effect home r l (enter a c s day) e =
    show_states r l c _ _ (λ i. record { id = c; group = none; version = 0; payer = a; amount = sym (sum_shares s) i; shares = M.numbers s; acknowledged_shares = actor_acks a s i; deleted = false })
tie_effect home r l (put_in a g c) e =
    let p = pass _ tt e in
    let g16 = ltb_lt g 16 (test _ (not_false _ (p 0)) 1) in
    rw (shown_is r l c (p 3)) (show_states r l c _ _ (ap (λ o. M.group_to o (M.version_up (shown_expense c (at l c)))) (id_some g (eqb_other g 255 (omega arith)))))
tie_effect home r l (take_out a g c) e =
    let p = pass _ tt e in
    rw (shown_is r l c (p 3)) (show_states r l c _ _ (ap (λ f. M.acknowledged_to f (M.version_up (M.group_to none (shown_expense c (at l c))))) (actor_acks a (at l c).shares)))
tie_effect home r l (change a c s day) e =
    let p = pass _ tt e in
    rw (shown_is r l c (p 2)) (show_states r l c _ _ (λ i. M.version_up (M.amount_to (sym (sum_shares s) i) (M.acknowledged_to (actor_acks a s i) (M.shares_to (M.numbers s) (shown_expense c (at l c)))))))
tie_effect home r l (delete a c) e =
    let p = pass _ tt e in
    rw (shown_is r l c (p 2)) (show_states r l c _ _ refl)
tie_effect home r l (acknowledge a c) e =
    let p = pass _ tt e in
    let a8 = ltb_lt a 8 (test _ (not_false _ (p 0)) 0) in
    rw (shown_is r l c (p 2), ack_states l c (at l c).version a (p 2)) (show_states r l c _ _ (ap (λ f. M.acknowledged_to f (shown_expense c (at l c))) (ack_flags (at l c).acknowledged a a8)))
tie_effect home r l (absorb a o c) e =
    let p = pass _ tt e in
    let f = test _ (not_false _ (p 0)) in
    let a8 = ltb_lt a 8 (f 0) in
    let o8 = ltb_lt o 8 (f 1) in
    let ne : o ≢ a = eqb_false o a (p 2) in
    rw (shown_is r l c (p 3)) (show_states r l c _ _ (λ i. M.version_up (M.amount_to (moved_total a o (at l c).shares a8 o8 (λ q. ne (sym q)) i) (M.acknowledged_to (kept_flags o (at l c).acknowledged (p 7) i) (M.shares_to (moved_numbers a o (at l c).shares a8 o8 i) (shown_expense c (at l c)))))))
