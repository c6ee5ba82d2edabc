-- Document 01, 'Program' and 'Edges': C1 to C10 in one table, what the rules give beside what the paper says.
-- C1 is a history of eight calls on images, and once more a history over the changes of version. C2 to C10 stand on ledgers that are written out, since an image of 21,808 bytes is more than a check computes;
-- what a ledger's answer has to do with an image's is said by images, proofs/Encoded.
use Rattle.std.specs.Prelude.{◌≡◌, false, cond, ◌||◌, List, [], ◌∷◌, ◌++◌, ℕ, ltb, eqb, ℤ, pos, negsuc, replicate}
use Rattle.std.proofs.Math.Option.{Option, none, some}
use Rattle.format.specs.Layout.{v1, v2, v3, current, image_size_in, user_count, no_group, equal_rule}
use Rattle.format.specs.Bytes.{Bytes, le16, le32}
use Rattle.rules.specs.Ledger.{Expense, Ledger, empty}
use Rattle.rules.specs.Sound.{sound}
use Rattle.rules.specs.Balance.{raw, part, balance}
use Rattle.rules.specs.Action.{Action, leave, enter, change}
use Rattle.rules.specs.Refusal.{answer}
use Rattle.text.specs.Text.{ascii, program_text}
use Rattle.history.specs.History.{Call, act, merge, raise, images, answers}

-- What a row shows: the answer to an action; the same with the actor's raw and his balance; the answers of a history with what the program prints of an
-- image; parts of the gifts.
pub data Figure : Type 0 where
  answered : ℕ → Figure
  weighed : (raw balance : ℤ) → ℕ → Figure
  printed : List ℕ → Bytes → Figure
  parts : List ℕ → Figure

-- A row: C with this number, what the rules give, and what the paper says.
pub record Row : Type 0 where
  pub number : ℕ
  pub rules : Figure
  pub paper : Figure

-- Every row of a table has what the paper says.
abbrev pub Agree : List Row → Type 0
Agree [] = Unit {0}
Agree (r ∷ rs) = (r.rules ≡ r.paper) × Agree rs

-- "homes u = u"
abbrev pub own_homes : ℕ → ℕ
own_homes u = cond (ltb u user_count) u 0

-- An action record: "kind; actor; other user; crew; cost; bytes 6 and 7; shares".
abbrev pub action : (kind actor other group expense rest : ℕ) → Bytes → Bytes
action k a o g c z s = k ∷ a ∷ o ∷ g ∷ le16 c ++ (le16 z ++ s)

abbrev pub no_shares : Bytes
no_shares = replicate 32 0

-- C1: "User 0 founds crew 0, adds user 1, enters cost 0 with shares 300 and 600 for users 0 and 1, puts it in; van 1 joins van 0's image; user 1 acknowledges
-- on van 1; van 0 joins van 1's image; user 0 leaves."
abbrev pub c1 : List Call
c1 =
    act current 0 (action 1 0 0 0 0 equal_rule no_shares)
    ∷ act current 0 (action 2 0 1 0 0 0 no_shares)
    ∷ act current 0 (action 4 0 0 0 0 0 (le32 300 ++ (le32 600 ++ replicate 24 0)))
    ∷ act current 0 (action 5 0 0 0 0 0 no_shares)
    ∷ merge current 1 0 4 current
    ∷ act current 1 (action 9 1 0 0 0 0 no_shares)
    ∷ merge current 0 1 6 current
    ∷ act current 0 (action 3 0 0 0 0 0 no_shares)
    ∷ []

-- "Van 0's image prints": what the program prints for the image that stands there at the end. "C1 and C10 are of rule 1."
abbrev pub c1_given : Figure
c1_given = printed (answers own_homes (λ r. current) c1) (program_text (images own_homes (λ r. current) c1 8 0))

abbrev pub c1_text : Bytes
c1_text =
    ascii "van 0\n"
    ++ (ascii "crew 0 members 1 costs 1 gifts 600\n"
    ++ (ascii "user 0 counter 2 raw 600 gift 600 part 0 balance 0\n" ++ ascii "user 1 counter 1 raw -600 gift 0 part 600 balance 0\n"))

abbrev pub c1_paper : Figure
c1_paper = printed (replicate 8 0) c1_text

-- C1 over the changes of version: both vans begin with version 1, found without a rule and enter without a day. Van 0 raises its image to version 2 while van 1
-- goes on with the oldest library; van 1's image is handed over as it is, which is refused with 41, and then raised. The oldest library takes van 0's new image no
-- more. Van 0 raises it once more, to version 3, and joins van 1's image again, raised from version 1 to 3 at once.
abbrev pub c1_across : List Call
c1_across =
    act v1 0 (action 1 0 0 0 0 0 no_shares)
    ∷ act v1 0 (action 2 0 1 0 0 0 no_shares)
    ∷ act v1 0 (action 4 0 0 0 0 0 (le32 300 ++ (le32 600 ++ replicate 24 0)))
    ∷ act v1 0 (action 5 0 0 0 0 0 no_shares)
    ∷ merge v1 1 0 4 v1
    ∷ raise v2 0 (replicate (image_size_in v2) 0)
    ∷ act v1 1 (action 9 1 0 0 0 0 no_shares)
    ∷ merge v2 0 1 7 v1
    ∷ merge v2 0 1 7 v2
    ∷ act v1 0 (action 3 0 0 0 0 0 no_shares)
    ∷ raise v3 0 (replicate (image_size_in v3) 0)
    ∷ merge v3 0 1 7 v3
    ∷ act v3 0 (action 3 0 0 0 0 0 no_shares)
    ∷ []

abbrev pub across_answers : List ℕ
across_answers = 0 ∷ 0 ∷ 0 ∷ 0 ∷ 0 ∷ 0 ∷ 0 ∷ 41 ∷ 0 ∷ 1 ∷ 0 ∷ 0 ∷ 0 ∷ []

-- The answers, and what the program prints for van 0's image at the end: what C1 prints.
abbrev pub across_given : Figure
across_given = printed (answers own_homes (λ r. v1) c1_across) (program_text (images own_homes (λ r. v1) c1_across 13 0))

abbrev pub across_paper : Figure
across_paper = printed across_answers c1_text

-- The answer to an action on a ledger that is written out. "5 any unsound cost" comes first, so a row with another answer stands on a sound ledger.
abbrev pub answer_on : (home : ℕ → ℕ) (replica : ℕ) → Action → Ledger → ℕ
answer_on home r a l = cond (sound home l) (answer home r (some a) l) 5

-- Shares of user 0 alone.
abbrev pub lone : ℕ → ℕ → ℕ
lone n u = cond (eqb u 0) n 0

-- A ledger whose group 0 has these counters and is under rule 1 ("C1 and C10 are of rule 1"), and with expense 0 or with no expense.
abbrev pub group0 : (ℕ → ℕ) → ℕ → ℕ → ℕ
group0 f g u = cond (eqb g 0) (f u) 0

abbrev pub rule0 : ℕ → ℕ
rule0 g = cond (eqb g 0) equal_rule 0

abbrev pub expense0 : Expense → ℕ → Option Expense
expense0 e c = cond (eqb c 0) (some e) none

abbrev pub members0 : (ℕ → ℕ) → Ledger
members0 f = record { counter = group0 f; rule = rule0; expense = λ c. none }

-- User 0 with counter n and user 1 with counter 1.
abbrev pub pair : ℕ → ℕ → ℕ
pair n u = cond (eqb u 0) n (cond (eqb u 1) 1 0)

-- C8, C9: user 0's expense in no group, of version v.
abbrev pub versioned : ℕ → Ledger
versioned v = record {
  counter = λ g u. 0;
  rule = λ g. 0;
  expense = expense0 (record { payer = 0; group = no_group; deleted = false; acknowledged = λ u. false; version = v; shares = lone 1; day = 0 });
}

-- An expense of group 0 that one user paid for another, who has acknowledged it.
abbrev pub paid_for : (payer other cents : ℕ) → Expense
paid_for p o n = record { payer = p; group = 0; deleted = false; acknowledged = λ u. eqb u o; version = 0; shares = λ u. cond (eqb u o) n 0; day = 0 }

-- C4, C10: user 4 has left and is owed 100 by user 1; users 1, 2 and 3 are members, and share the gift. All are at home on replica 0.
abbrev pub sharing : Ledger
sharing = record { counter = group0 (λ u. cond (eqb u 4) 2 (cond (eqb u 1 || (eqb u 2 || eqb u 3)) 1 0)); rule = rule0; expense = expense0 (paid_for 4 1 100) }

-- C5: user 1 has paid 1 for user 2 besides, who then owes less than his part of the gift.
abbrev pub owing : Ledger
owing = record { counter = sharing.counter; rule = rule0; expense = λ c. cond (eqb c 1) (some (paid_for 1 2 1)) (sharing.expense c) }

-- User 2 of these leaves: his raw, his balance with the part, and the answer.
abbrev pub leaving : Ledger → Figure
leaving l = weighed (raw l 0 2) (balance l 0 2) (answer_on (λ u. 0) 0 (leave 2 0) l)

-- "C1 to C10 form one table": C2, C3 and C6 to C9 are answers to user 0's action on replica 0.
abbrev pub row : ℕ → Figure → Figure → Row
row n rules paper = record { number = n; rules = rules; paper = paper }

abbrev pub table : List Row
table =
    row 1 c1_given c1_paper
    ∷ row 1 across_given across_paper
    -- "C2: total 1,000,000,000 accepted; C3: 1,000,000,001 gives 19, and 0 gives 19."
    ∷ row 2 (answered (answer_on own_homes 0 (enter 0 0 (lone 1_000_000_000) 0) empty)) (answered 0)
    ∷ row 3 (answered (answer_on own_homes 0 (enter 0 0 (lone 1_000_000_001) 0) empty)) (answered 19)
    ∷ row 3 (answered (answer_on own_homes 0 (enter 0 0 (lone 0) 0) empty)) (answered 19)
    -- "C4: raw 0 leaves; C5: raw −1 gives 13." "Leaving looks at raw", and not at the balance.
    ∷ row 4 (leaving sharing) (weighed (pos 0) (pos 33) 0)
    ∷ row 5 (leaving owing) (weighed (negsuc 0) (pos 32) 13)
    -- "C6: counter 65,533 may leave; C7: 65,535 gives 14."
    ∷ row 6 (answered (answer_on own_homes 0 (leave 0 0) (members0 (pair 65_533)))) (answered 0)
    ∷ row 7 (answered (answer_on own_homes 0 (leave 0 0) (members0 (pair 65_535)))) (answered 14)
    -- "C8: version 4,294,967,294 may change; C9: 4,294,967,295 gives 27."
    ∷ row 8 (answered (answer_on own_homes 0 (change 0 0 (lone 5) 0) (versioned 4_294_967_294))) (answered 0)
    ∷ row 9 (answered (answer_on own_homes 0 (change 0 0 (lone 5) 0) (versioned 4_294_967_295))) (answered 27)
    -- "C10: gifts 100, three members: 34, 33, 33."
    ∷ row 10 (parts (part sharing 0 1 ∷ part sharing 0 2 ∷ part sharing 0 3 ∷ [])) (parts (34 ∷ 33 ∷ 33 ∷ []))
    ∷ []
