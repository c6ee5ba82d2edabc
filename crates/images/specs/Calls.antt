-- The calls on lists of bytes, whatever they hold: what each answers and what it leaves of the lent bytes and lines. The exported functions promise these.
-- A name with `In` is the call of the library of that version, on images of that version; the plain name is the current library's.
use Rattle.std.specs.Prelude.{not, cond, ◌&&◌, List, [], ◌∷◌, ℕ, ◌+◌, ltb, eqb, ℤ, length}
use Rattle.std.proofs.Math.Option.{Option, none, some}
use Rattle.format.specs.Layout.{Version, v1, v2, v3, current, user_count, replica_count, image_size_in, payments_size, balances_size, month_count}
use Rattle.format.specs.Bytes.{Bytes, expense_part}
use Rattle.format.specs.declared.Line.{Line}
use Rattle.format.specs.declared.Totals.{Totals}
use Rattle.rules.specs.Tests.{every8, Check, first, eight_at}
use Rattle.rules.specs.Ledger.{Ledger, empty, absent, group_absent}
use Rattle.rules.specs.Balance.{members, lines_of, totals_of, balances_in}
use Rattle.rules.specs.Month.{month_raws}
use Rattle.rules.specs.Together.{all_balances}
use Rattle.rules.specs.Payments.{payments, row_by_row}
use Rattle.rules.specs.Action.{Action}
use Rattle.rules.specs.Step.{ledger_after}
use Rattle.rules.specs.Refusal.{checks, answer}
use Rattle.rules.specs.Merge.{merge_ledger, merge_answer}
use Rattle.images.specs.Image.{encode_in, decode_in, decode, replica_of, home_of, image_check_in, image_check}
use Rattle.images.specs.Record.{read_action_in}

-- k where it refuses, else n.
abbrev pub or_else : ℕ → ℕ → ℕ
or_else k n = cond (eqb k 0) n k

-- "Empty image, from a van number and exactly eight homes. 1 buffer not" of the image's length; "4 van or a home above 7. Otherwise header, no crews, no costs."
unfoldable pub empty_answer_in : Version → Bytes → ℕ → List ℕ → ℕ
empty_answer_in v b r homes = first ((not (eqb (length b) (image_size_in v)), 1) ∷ (not (ltb r replica_count && every8 (λ u. ltb (eight_at homes u) replica_count)), 4) ∷ [])

unfoldable pub empty_image_in : Version → Bytes → ℕ → List ℕ → Bytes
empty_image_in v b r homes = cond (eqb (empty_answer_in v b r homes) 0) (encode_in v (eight_at homes) r empty) b

abbrev pub empty_answer : Bytes → ℕ → List ℕ → ℕ
empty_answer = empty_answer_in current

abbrev pub empty_image : Bytes → ℕ → List ℕ → Bytes
empty_image = empty_image_in current

-- "Every action, once its image has passed the check": the record x on the image b.
unfoldable pub act_answer_in : Version → Bytes → Bytes → ℕ
act_answer_in v b x = or_else (image_check_in v b) (answer (home_of b) (replica_of b) (read_action_in v x) (decode_in v b))

-- The image after an accepted action.
unfoldable pub acted_in : Version → Bytes → Action → Bytes
acted_in v b a = encode_in v (home_of b) (replica_of b) (ledger_after a (decode_in v b))

abbrev pub acted_by_in : Version → Bytes → Option Action → Bytes
acted_by_in v b none = b
acted_by_in v b (some a) = acted_in v b a

unfoldable pub act_image_in : Version → Bytes → Bytes → Bytes
act_image_in v b x = cond (eqb (act_answer_in v b x) 0) (acted_by_in v b (read_action_in v x)) b

abbrev pub act_answer : Bytes → Bytes → ℕ
act_answer = act_answer_in current

abbrev pub acted : Bytes → Action → Bytes
acted = acted_in current

abbrev pub act_image : Bytes → Bytes → Bytes
act_image = act_image_in current

-- One kind on a checked image whose actor is at home: its own refusals, and the image that it leaves.
unfoldable pub ruled : Bytes → Action → ℕ
ruled b a = first (checks (replica_of b) a (decode b))

unfoldable pub done : Bytes → Action → Bytes
done b a = cond (eqb (ruled b a) 0) (acted b a) b

-- "Join of another image into one's own. 1 to 5 own; 41 to 45 the same for the other; 30 home tables differ; 31."
abbrev pub other_answer : ℕ → ℕ
other_answer k = cond (eqb k 0) 0 (40 + k)

unfoldable pub merge_images_answer_in : Version → Bytes → Bytes → ℕ
merge_images_answer_in v b d =
    or_else (image_check_in v b)
    (or_else (other_answer (image_check_in v d)) (cond (every8 (λ u. eqb (home_of b u) (home_of d u))) (merge_answer (decode_in v b) (decode_in v d)) 30))

-- "Own header remains."
unfoldable pub merged_image_in : Version → Bytes → Bytes → Bytes
merged_image_in v b d = encode_in v (home_of b) (replica_of b) (merge_ledger (decode_in v b) (decode_in v d))

unfoldable pub merge_images_in : Version → Bytes → Bytes → Bytes
merge_images_in v b d = cond (eqb (merge_images_answer_in v b d) 0) (merged_image_in v b d) b

abbrev pub merge_images_answer : Bytes → Bytes → ℕ
merge_images_answer = merge_images_answer_in current

abbrev pub merge_images : Bytes → Bytes → Bytes
merge_images = merge_images_in current

-- "Statement of a crew. 1 to 5; 10, also for a number above 15; 32 not eight lines lent." (Beyond the sixteen groups all counters are zero.)
unfoldable pub statement_answer_in : Version → Bytes → (group lent : ℕ) → ℕ
statement_answer_in v b g n = or_else (image_check_in v b) (first ((group_absent (decode_in v b) g, 10) ∷ (not (eqb n user_count), 32) ∷ []))

-- "returns members, valid costs and total gifts, all zero when refused"
abbrev pub refused_totals : ℕ → Totals
refused_totals k = record { answer = k; members = 0; expenses = 0; gifts = 0 }

unfoldable pub statement_totals_in : Version → Bytes → (group lent : ℕ) → Totals
statement_totals_in v b g n = cond (eqb (statement_answer_in v b g n) 0) (totals_of (decode_in v b) g) (refused_totals (statement_answer_in v b g n))

-- "It fills eight lent lines, one for each user."
unfoldable pub statement_lines_in : Version → Bytes → ℕ → List Line → List Line
statement_lines_in v b g lines = cond (eqb (statement_answer_in v b g (length lines)) 0) (lines_of (decode_in v b) g) lines

abbrev pub statement_answer : Bytes → (group lent : ℕ) → ℕ
statement_answer = statement_answer_in current

abbrev pub statement_totals : Bytes → (group lent : ℕ) → Totals
statement_totals = statement_totals_in current

abbrev pub statement_lines : Bytes → ℕ → List Line → List Line
statement_lines = statement_lines_in current

-- "A list of who pays whom. Another length gives 32, after 1 to 5 and 10. 33, crew has no member, last." (Document 02, A1.)
abbrev pub payments_checks : (lent members : ℕ) → List Check
payments_checks n m = (not (eqb n payments_size), 32) ∷ (eqb m 0, 33) ∷ []

unfoldable pub payments_answer_in : Version → Bytes → (group lent : ℕ) → ℕ
payments_answer_in v b g n = or_else (image_check_in v b) (first ((group_absent (decode_in v b) g, 10) ∷ payments_checks n (members (decode_in v b) g)))

-- "From a crew's eight balances. The result is an eight by eight table of cents, payer by receiver, written row by row to 64 lent numbers."
abbrev pub payments_in : Ledger → ℕ → List (List ℕ)
payments_in l g = payments (balances_in (lines_of l g))

unfoldable pub payments_cents_in : Version → Bytes → ℕ → List ℕ → List ℕ
payments_cents_in v b g cents = cond (eqb (payments_answer_in v b g (length cents)) 0) (row_by_row (payments_in (decode_in v b) g)) cents

abbrev pub payments_answer : Bytes → (group lent : ℕ) → ℕ
payments_answer = payments_answer_in current

abbrev pub payments_cents : Bytes → ℕ → List ℕ → List ℕ
payments_cents = payments_cents_in current

-- "A month statement writes to eight lent signed numbers. 35, month above 1199, after 10 and 32." (Document 02, A6.)
abbrev pub month_checks : (lent month : ℕ) → List Check
month_checks n m = (not (eqb n user_count), 32) ∷ (not (ltb m month_count), 35) ∷ []

unfoldable pub month_answer_in : Version → Bytes → (group month lent : ℕ) → ℕ
month_answer_in v b g m n = or_else (image_check_in v b) (first ((group_absent (decode_in v b) g, 10) ∷ month_checks n m))

unfoldable pub month_raws_in : Version → Bytes → (group month : ℕ) → List ℤ → List ℤ
month_raws_in v b g m raws = cond (eqb (month_answer_in v b g m (length raws)) 0) (month_raws (decode_in v b) g m) raws

abbrev pub month_answer : Bytes → (group month lent : ℕ) → ℕ
month_answer = month_answer_in current

abbrev pub month_raws_left : Bytes → (group month : ℕ) → List ℤ → List ℤ
month_raws_left = month_raws_in current

-- "The balances of all sixteen crews and eight users. The output is a lent slice of 128 signed 64-bit numbers, crew by crew; another length gives 32, after
-- 1 to 5." (Document 02, A8.)
unfoldable pub balances_answer_in : Version → Bytes → (lent : ℕ) → ℕ
balances_answer_in v b n = or_else (image_check_in v b) (first ((not (eqb n balances_size), 32) ∷ []))

unfoldable pub balances_left_in : Version → Bytes → List ℤ → List ℤ
balances_left_in v b balances = cond (eqb (balances_answer_in v b (length balances)) 0) (all_balances (decode_in v b)) balances

abbrev pub balances_answer : Bytes → (lent : ℕ) → ℕ
balances_answer = balances_answer_in current

abbrev pub balances_left : Bytes → List ℤ → List ℤ
balances_left = balances_left_in current

-- "Lookup hands back the cost's own bytes. The part is empty just when the image check fails, the number is above 511 or the cost is absent."
-- (Beyond the 512 numbers every expense is absent.)
unfoldable pub lookup_part : Bytes → ℕ → Bytes
lookup_part b c = cond (eqb (image_check b) 0 && not (absent (decode b) c)) (expense_part b c) []

-- "A call of its own raises a version 1 image into a buffer of the new size: 1 for a wrong length of either, then 2 to 5." The versions older than v, told
-- apart by length: the one whose images have n bytes.
abbrev pub older_by : Version → ℕ → Option Version
older_by v1 n = none
older_by v2 n = cond (eqb n (image_size_in v1)) (some v1) none
older_by v3 n = cond (eqb n (image_size_in v1)) (some v1) (cond (eqb n (image_size_in v2)) (some v2) none)

abbrev pub raise_answer_from : Version → Option Version → Bytes → (lent : ℕ) → ℕ
raise_answer_from v none b n = 1
raise_answer_from v (some w) b n = cond (eqb n (image_size_in v)) (image_check_in w b) 1

unfoldable pub raise_answer_in : Version → Bytes → (buffer : Bytes) → ℕ
raise_answer_in v b d = raise_answer_from v (older_by v (length b)) b (length d)

-- An older image in version v: the same header but for the version, and the same crews and costs, "its present crews under rule 1". Any other is left as it is.
abbrev pub raised_from : Version → Option Version → Bytes → Bytes
raised_from v none b = b
raised_from v (some w) b = encode_in v (home_of b) (replica_of b) (decode_in w b)

unfoldable pub raised_in : Version → Bytes → Bytes
raised_in v b = raised_from v (older_by v (length b)) b

-- What the call leaves in the buffer.
unfoldable pub raise_image_in : Version → Bytes → (buffer : Bytes) → Bytes
raise_image_in v b d = cond (eqb (raise_answer_in v b d) 0) (raised_in v b) d

abbrev pub raise_answer : Bytes → (buffer : Bytes) → ℕ
raise_answer = raise_answer_in current

abbrev pub raise_image : Bytes → (buffer : Bytes) → Bytes
raise_image = raise_image_in current
