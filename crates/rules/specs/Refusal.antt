-- Document 01, 'Steps, and what stops them', with document 02's A2 and A5: the refusals of each kind, in order, and the answer to an action.
-- A kind's list speaks of what it looks at: the counters f of the group, the expense o of the number.
use Rattle.std.specs.Prelude.{Bool, not, ◌&&◌, ◌||◌, List, [], ◌∷◌, ℕ, ◌/◌, ltb, leb, eqb}
use Rattle.std.proofs.Math.Option.{Option, none, some}
use Rattle.format.specs.Layout.{groups_each, expenses_each, most_total, last_counter, last_version}
use Rattle.rules.specs.Tests.{sum8, every8, Check, first}
use Rattle.rules.specs.Ledger.{Expense, Ledger, member_in, nobody, in_group, absent_option, or_blank, at}
use Rattle.rules.specs.Balance.{paid, held}
use Rattle.rules.specs.Pending.{pending}
use Rattle.rules.specs.Action.{Action, found, add, leave, enter, put_in, take_out, change, delete, acknowledge, absorb, actor, fields_fit}

-- 19: "total outside 1 to 1,000,000,000"
abbrev pub outside : (ℕ → ℕ) → Bool
outside s = not (leb 1 (sum8 s) && leb (sum8 s) most_total)

-- 23: "a positive share of a non-member"
abbrev pub stranger_in : (ℕ → ℕ) → (ℕ → ℕ) → Bool
stranger_in f s = not (every8 (λ u. eqb (s u) 0 || member_in f u))

-- 27: "version is 4,294,967,295"
abbrev pub at_last_version : Expense → Bool
at_last_version e = eqb e.version last_version

-- "Kind 1, found a crew. 8 crew div 2 isn't this van; 9 crew present."
abbrev pub found_checks : (replica group : ℕ) → (ℕ → ℕ) → List Check
found_checks r g f = (not (eqb (g / groups_each) r), 8) ∷ (not (nobody f), 9) ∷ []

-- "Kind 2, add a member. 10 crew absent; 11 actor no member; 12 other already a member."
abbrev pub add_checks : (ℕ → ℕ) → (a o : ℕ) → List Check
add_checks f a o = (nobody f, 10) ∷ (not (member_in f a), 11) ∷ (member_in f o, 12) ∷ []

-- "Kind 3, leave. 10; 11; 13 actor's raw balance below zero; 14 counter is 65,535." Raw is `paid` less `held`. A2: "34, in kind 3 after 13 and before 14".
abbrev pub leave_checks : (ℕ → ℕ) → (a paid held : ℕ) → (pending : Bool) → List Check
leave_checks f a p h w = (nobody f, 10) ∷ (not (member_in f a), 11) ∷ (ltb p h, 13) ∷ (w, 34) ∷ (eqb (f a) last_counter, 14) ∷ []

-- "Kind 4, enter a cost. 15 cost div 64 isn't this van; 16 cost present; 19."
abbrev pub enter_checks : (replica c : ℕ) → Option Expense → (ℕ → ℕ) → List Check
enter_checks r c o s = (not (eqb (c / expenses_each) r), 15) ∷ (not (absent_option o), 16) ∷ (outside s, 19) ∷ []

-- "Kind 5, put into a crew. 10; 17 cost absent; 11; 18 actor isn't the payer; 21 has a crew; 23; 27."
abbrev pub put_in_checks : Option Expense → (ℕ → ℕ) → ℕ → List Check
put_in_checks o f a =
    (nobody f, 10) ∷ (absent_option o, 17) ∷ (not (member_in f a), 11) ∷ (not (eqb (or_blank o).payer a), 18) ∷ (in_group (or_blank o), 21)
    ∷ (stranger_in f (or_blank o).shares, 23) ∷ (at_last_version (or_blank o), 27) ∷ []

-- "Kind 6, take out. 10; 17; 11; 22 not in that crew; 18; 27."
abbrev pub take_out_checks : Option Expense → (ℕ → ℕ) → (a g : ℕ) → List Check
take_out_checks o f a g =
    (nobody f, 10) ∷ (absent_option o, 17) ∷ (not (member_in f a), 11) ∷ (not (eqb (or_blank o).group g), 22) ∷ (not (eqb (or_blank o).payer a), 18)
    ∷ (at_last_version (or_blank o), 27) ∷ []

-- "Kind 7, change shares. 17; 18; 19; 24 deleted; 23 if in a crew; 27." 23 is of the new shares.
abbrev pub change_checks : Option Expense → (ℕ → ℕ) → ℕ → (ℕ → ℕ) → List Check
change_checks o f a s =
    (absent_option o, 17) ∷ (not (eqb (or_blank o).payer a), 18) ∷ (outside s, 19) ∷ ((or_blank o).deleted, 24) ∷ (in_group (or_blank o) && stranger_in f s, 23)
    ∷ (at_last_version (or_blank o), 27) ∷ []

-- "Kind 8, delete. 17; 18; 24; 11 if in a crew; 27."
abbrev pub delete_checks : Option Expense → (ℕ → ℕ) → ℕ → List Check
delete_checks o f a =
    (absent_option o, 17) ∷ (not (eqb (or_blank o).payer a), 18) ∷ ((or_blank o).deleted, 24) ∷ (in_group (or_blank o) && not (member_in f a), 11)
    ∷ (at_last_version (or_blank o), 27) ∷ []

-- "Kind 9, acknowledge. 17; 24; 22 no crew; 11; 25 actor's share is zero; 26 already acknowledged."
abbrev pub acknowledge_checks : Option Expense → (ℕ → ℕ) → ℕ → List Check
acknowledge_checks o f a =
    (absent_option o, 17) ∷ ((or_blank o).deleted, 24) ∷ (not (in_group (or_blank o)), 22) ∷ (not (member_in f a), 11) ∷ (eqb ((or_blank o).shares a) 0, 25)
    ∷ ((or_blank o).acknowledged a, 26) ∷ []

-- "Kind 10, absorb the other's share. 29 other is the actor; 17; 24; 18; 25 other's share zero; 26 other's acknowledged; 22 no crew; 11;
-- 28 other is a member; 27." (Document 02, A5: there is no 20 behind 28, "other was never a member", and "20 isn't used again".)
abbrev pub absorb_checks : Option Expense → (ℕ → ℕ) → (a w : ℕ) → List Check
absorb_checks o f a w =
    (eqb w a, 29) ∷ (absent_option o, 17) ∷ ((or_blank o).deleted, 24) ∷ (not (eqb (or_blank o).payer a), 18) ∷ (eqb ((or_blank o).shares w) 0, 25)
    ∷ ((or_blank o).acknowledged w, 26) ∷ (not (in_group (or_blank o)), 22) ∷ (not (member_in f a), 11) ∷ (member_in f w, 28) ∷ (at_last_version (or_blank o), 27) ∷ []

-- The kind's own refusals on replica r. Kinds 7 to 10 look at the group that the expense is in.
unfoldable pub checks : ℕ → Action → Ledger → List Check
checks r (found a g k) l = found_checks r g (l.counter g)
checks r (add a o g) l = add_checks (l.counter g) a o
checks r (leave a g) l = leave_checks (l.counter g) a (paid l g a) (held l g a) (pending l g a)
checks r (enter a c s day) l = enter_checks r c (l.expense c) s
checks r (put_in a g c) l = put_in_checks (l.expense c) (l.counter g) a
checks r (take_out a g c) l = take_out_checks (l.expense c) (l.counter g) a g
checks r (change a c s day) l = change_checks (l.expense c) (l.counter (at l c).group) a s
checks r (delete a c) l = delete_checks (l.expense c) (l.counter (at l c).group) a
checks r (acknowledge a c) l = acknowledge_checks (l.expense c) (l.counter (at l c).group) a
checks r (absorb a o c) l = absorb_checks (l.expense c) (l.counter (at l c).group) a o

-- "Every action, once its image has passed the check", on replica r with this home table: 6; "7 actor's home is another van"; then the kind's own.
abbrev pub refusals : (ℕ → ℕ) → ℕ → Action → Ledger → List Check
refusals home r a l = (not (fields_fit a), 6) ∷ (not (eqb (home (actor a)) r), 7) ∷ checks r a l

-- The answer to what an action record gives: "where that gives no action: 6".
unfoldable pub answer : (ℕ → ℕ) → ℕ → Option Action → Ledger → ℕ
answer home r none l = 6
answer home r (some a) l = first (refusals home r a l)
