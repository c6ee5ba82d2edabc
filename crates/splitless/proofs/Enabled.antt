-- What is accepted on a sound ledger is granted: enabled by the module, within the limits; leaving by the rules. Soundness is for the module's line 334 alone.
use mathlib.Core.Path.{◌≡◌, sym, ◌∙◌}
use mathlib.Core.Bool.{true, false, not}
use mathlib.Core.Option.{some}
use Prim.Native.Nat.{ℕ, ◌/◌}
use lib.Dec.{eqb}
use Rattle.rules.specs.Ledger.{Ledger, member, in_group, at}
use Rattle.rules.specs.Balance.{paid, held, raw}
use Rattle.rules.specs.Sound.{sound}
use Rattle.rules.specs.Action.{Action, found, add, leave, enter, put_in, take_out, change, delete, acknowledge, absorb, actor, fields_fit}
use Rattle.rules.specs.Refusal.{stranger_in, checks, answer}
use Rattle.rules.proofs.Basics.{eqb_true, eqb_false}
use Rattle.rules.proofs.Accepted.{pass, not_false, test, ltb_lt}
use Rattle.splitless.specs.Shown.{show, Enabled, Limits, Granted, here}
use Rattle.splitless.proofs.Facts.{odd_yes, odd_no, numbers_at, least_zero, and_false}
use Rattle.splitless.proofs.Showing.{shown_counter, group_none, group_some, member_present, expense_none, expense_some, shares_of, acks_of, grouped, ungrouped, of_grouped, its_id, its_counter, no_stranger, inside, payer_of, deleted_of, version_of, share_of, at_group}
use Rattle.splitless.proofs.Stranger.{once_member}

module _ (home : ℕ → ℕ) (r : ℕ) (l : Ledger) (so : sound home l ≡ true) where
  at_home : (a : ℕ) → not (eqb (home a) r) ≡ false → home a ≡ r
  at_home a p = eqb_true (home a) r (not_false _ p)

  pub granted : (x : Action) → answer home r (some x) l ≡ 0 → Granted home r (here (show r l)) l x
  unfolding answer checks fields_fit actor Enabled Limits Granted
  granted (found a g k) e =
      let p = pass _ tt e in
      ((at_home a (p 1), λ other k. group_none r l g (not_false _ (p 3))), eqb_true (g / 2) r (not_false _ (p 2)))
  granted (add a o g) e =
      let p = pass _ tt e in
      let f = test _ (not_false _ (p 0)) in
      let a8 = ltb_lt a 8 (f 0) in
      let o8 = ltb_lt o 8 (f 1) in (
        (
          at_home a (p 1),
          group_some r l g (p 2),
          odd_yes _ _ (shown_counter r l g a a8) (not_false _ (p 3)),
          odd_no _ _ (shown_counter r l g o o8) (p 4),
        ),
        tt,
      )
  granted (leave a g) e =
      let p = pass _ tt e in (
        at_home a (p 1),
        p 2,
        not_false _ (p 3),
        (unfold raw in (least_zero (paid l g a) (held l g a) (p 4))),
        p 5,
        eqb_false (l.counter g a) 65_535 (p 6),
      )
  granted (enter a c s day) e =
      let p = pass _ tt e in
      let i = inside s (p 4) in
      ((at_home a (p 1), i.0, λ other k. expense_none r l c (not_false _ (p 3))), (eqb_true (c / 64) r (not_false _ (p 2)), i.1))
  granted (put_in a g c) e =
      let p = pass _ tt e in
      let f = test _ (not_false _ (p 0)) in
      let a8 = ltb_lt a 8 (f 0) in (
        (
          at_home a (p 1),
          group_some r l g (p 2),
          expense_some r l c (p 3),
          odd_yes _ _ (shown_counter r l g a a8) (not_false _ (p 4)),
          payer_of r l c (p 3) a (p 5),
          ungrouped r l c (p 3) (p 6),
          no_stranger l g (at l c).shares _ _ (shares_of r l c (p 3)) (shown_counter r l g) (p 7),
        ),
        version_of r l c (p 3) (p 8),
      )
  granted (take_out a g c) e =
      let p = pass _ tt e in
      let f = test _ (not_false _ (p 0)) in
      let a8 = ltb_lt a 8 (f 0) in (
        (
          at_home a (p 1),
          group_some r l g (p 2),
          expense_some r l c (p 3),
          odd_yes _ _ (shown_counter r l g a a8) (not_false _ (p 4)),
          at_group r l c (p 3) g (ltb_lt g 16 (f 1)) (p 5),
          payer_of r l c (p 3) a (p 6),
        ),
        version_of r l c (p 3) (p 7),
      )
  granted (change a c s day) e =
      let p = pass _ tt e in
      let i = inside s (p 4) in (
        (
          at_home a (p 1),
          expense_some r l c (p 2),
          payer_of r l c (p 2) a (p 3),
          i.0,
          deleted_of r l c (p 2) (p 5),
          λ ng.
              let ig = of_grouped r l c (p 2) ng in
              no_stranger l (at l c).group s _ _ (numbers_at s) (its_counter r l c (p 2) ig) (and_false (in_group (at l c)) (stranger_in (l.counter (at l c).group) s) (p 6) ig),
        ),
        (i.1, version_of r l c (p 2) (p 7)),
      )
  granted (delete a c) e =
      let p = pass _ tt e in
      let f = test _ (not_false _ (p 0)) in
      let a8 = ltb_lt a 8 (f 0) in (
        (
          at_home a (p 1),
          expense_some r l c (p 2),
          payer_of r l c (p 2) a (p 3),
          deleted_of r l c (p 2) (p 4),
          λ ng.
              let ig = of_grouped r l c (p 2) ng in
              odd_yes _ _ (its_counter r l c (p 2) ig a a8) (not_false _ (and_false (in_group (at l c)) (not (member l (at l c).group a)) (p 5) ig)),
        ),
        version_of r l c (p 2) (p 6),
      )
  granted (acknowledge a c) e =
      let p = pass _ tt e in
      let f = test _ (not_false _ (p 0)) in
      let a8 = ltb_lt a 8 (f 0) in
      let ig = not_false _ (p 4) in (
        (
          at_home a (p 1),
          expense_some r l c (p 2),
          deleted_of r l c (p 2) (p 3),
          grouped r l c (p 2) ig,
          odd_yes _ _ (its_counter r l c (p 2) ig a a8) (not_false _ (p 5)),
          share_of r l c (p 2) a a8 (p 6),
          acks_of r l c (p 2) a a8 ∙ p 7,
        ),
        tt,
      )
  granted (absorb a o c) e =
      let p = pass _ tt e in
      let f = test _ (not_false _ (p 0)) in
      let a8 = ltb_lt a 8 (f 0) in
      let o8 = ltb_lt o 8 (f 1) in
      let ig = not_false _ (p 8) in (
        (
          at_home a (p 1),
          λ q. eqb_false o a (p 2) (sym q),
          expense_some r l c (p 3),
          deleted_of r l c (p 3) (p 4),
          payer_of r l c (p 3) a (p 5),
          share_of r l c (p 3) o o8 (p 6),
          acks_of r l c (p 3) o o8 ∙ p 7,
          grouped r l c (p 3) ig,
          rw (its_id r l c (p 3) ig) (group_some r l (at l c).group (member_present r l (at l c).group a a8 (not_false _ (p 9)))),
          odd_yes _ _ (its_counter r l c (p 3) ig a a8) (not_false _ (p 9)),
          odd_no _ _ (its_counter r l c (p 3) ig o o8) (p 10),
          rw (its_counter r l c (p 3) ig o o8) (once_member home r l so c o (ltb_lt c 512 (f 2)) o8 (p 3) (p 6) ig),
        ),
        version_of r l c (p 3) (p 11),
      )
