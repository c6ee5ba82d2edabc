-- Document 01, 'The action: 40 bytes': which record gives which action, in each version.
use Rattle.std.specs.Prelude.{Bool, cond, ◌&&◌, ◌||◌, [], ◌∷◌, ℕ, ltb, leb, eqb, length}
use Rattle.std.proofs.Math.Option.{Option, none, some}
use Rattle.format.specs.Layout.{Version, v1, v2, v3, current, equal_rule, last_day, undated, action_size, kind_count, user_count, group_count, expense_count}
use Rattle.format.specs.Bytes.{Bytes, kind_in, actor_in, other_in, group_in, expense_in, rest_in, shares_of}
use Rattle.rules.specs.Tests.{all_of, every8, eight_at}
use Rattle.rules.specs.Sound.{a_rule}
use Rattle.rules.specs.Action.{Action, found, add, leave, enter, put_in, take_out, change, delete, acknowledge, absorb}

-- A field that the kind uses is below its bound. "Fields a kind doesn't use are zero."
abbrev pub field : Bool → ℕ → ℕ → Bool
field used n bound = cond used (ltb n bound) (eqb n 0)

-- "bytes 6 and 7 zero"; version 2: "Founding a crew takes rule 1 or 2 from action bytes 6 and 7; any other value there gives 6."
-- Version 3: "Kinds 4 and 7 carry the day in action bytes 6 and 7, and one above 36,524 gives 6."
abbrev pub rest_fits : Version → (kind rest : ℕ) → Bool
rest_fits v1 k z = eqb z 0
rest_fits v2 k z = cond (eqb k 1) (a_rule z) (eqb z 0)
rest_fits v3 k z = cond (eqb k 1) (a_rule z) (cond (eqb k 4 || eqb k 7) (leb z last_day) (eqb z 0))

-- "rule 1 where the founding named none"
abbrev pub rule_named : Version → (rest : ℕ) → ℕ
rule_named v1 z = equal_rule
rule_named v2 z = z
rule_named v3 z = z

-- "A heard step made in an older version leaves its cost undated."
abbrev pub day_named : Version → (rest : ℕ) → ℕ
day_named v1 z = undated
day_named v2 z = undated
day_named v3 z = z

-- "kind, 1 to 10; actor, 0 to 7; other user, 0 to 7 (kinds 2, 10); crew, 0 to 15 (kinds 1, 2, 3, 5, 6); cost, 0 to 511 (kinds 4 to 10);
-- bytes 6 and 7; shares (kinds 4, 7)"
abbrev pub fields_fit_in : Version → (kind actor other group expense rest : ℕ) → Bool → Bool
fields_fit_in v k a o g c z unshared =
    all_of
    (leb 1 k
    ∷ leb k kind_count
    ∷ ltb a user_count
    ∷ field (eqb k 2 || eqb k 10) o user_count
    ∷ field (leb k 3 || (eqb k 5 || eqb k 6)) g group_count
    ∷ field (leb 4 k) c expense_count
    ∷ rest_fits v k z
    ∷ ((eqb k 4 || eqb k 7) || unshared)
    ∷ [])

unfoldable pub record_fits_in : Version → Bytes → Bool
record_fits_in v x =
    eqb (length x) action_size && fields_fit_in v (kind_in x) (actor_in x) (other_in x) (group_in x) (expense_in x) (rest_in x) (every8 (λ u. eqb (eight_at (shares_of x) u) 0))

-- The action of a kind.
abbrev pub kinds : ℕ → (a o g c rule day : ℕ) → (ℕ → ℕ) → Action
kinds k a o g c n day s =
    cond (eqb k 1) (found a g n)
    (cond (eqb k 2) (add a o g)
    (cond (eqb k 3) (leave a g)
    (cond (eqb k 4) (enter a c s day)
    (cond (eqb k 5) (put_in a g c)
    (cond (eqb k 6) (take_out a g c)
    (cond (eqb k 7) (change a c s day) (cond (eqb k 8) (delete a c) (cond (eqb k 9) (acknowledge a c) (absorb a o c)))))))))

-- "An action record is taken apart first; where that gives no action, because length, kind or a field is wrong": none.
unfoldable pub read_action_in : Version → Bytes → Option Action
read_action_in v x =
    cond (record_fits_in v x) (some (kinds (kind_in x) (actor_in x) (other_in x) (group_in x) (expense_in x) (rule_named v (rest_in x)) (day_named v (rest_in x)) (eight_at (shares_of x)))) none

abbrev pub read_action : Bytes → Option Action
read_action = read_action_in current
