-- The table C1 to C10 holds. C1 is computed on the ledgers of its history and carried over to the images (Transfer).
use mathlib.Core.Path.{◌≡◌, refl, ap, ◌∙◌, subst}
use mathlib.Core.List.{List, ◌++◌}
use Prim.Native.Nat.{ℕ, ◌<◌}
use lib.Dec.{T, ltb, ltb→lt}
use lib.ListN.{replicate}
use Rattle.format.specs.Layout.{Version, v1, current, user_count, replica_count, group_count}
use Rattle.format.specs.Bytes.{Bytes, shares_of}
use Rattle.rules.specs.Tests.{first, all_of, every8, every_below, some_below, sum_below}
use Rattle.rules.specs.Ledger.{Ledger}
use Rattle.rules.specs.Sound.{sound_expense, sound}
use Rattle.rules.specs.Parts.{members_in, rank_in, part_equally, part_in}
use Rattle.rules.specs.Balance.{counts_acknowledged, paid, held, raw, gift, gifts, members, part, balance, valid_expenses, line_of, totals_of}
use Rattle.rules.specs.Pending.{pending}
use Rattle.rules.specs.Action.{actor, fields_fit}
use Rattle.rules.specs.Step.{gives}
use Rattle.rules.specs.Refusal.{checks, answer}
use Rattle.rules.specs.Merge.{merge_answer}
use Rattle.images.specs.Image.{Homes, encode_in, encode}
use Rattle.images.specs.Record.{record_fits_in, read_action_in}
use Rattle.rules.proofs.Basics.{ltb_true, ltb_false}
use Rattle.images.proofs.Encoded.{Holds}
use Rattle.text.specs.Text.{digits_of, decimal, signed, van_text, crew_line, standing_text, outcome_text, user_line, user_text, users_text, crew_text, crews_text, program_text}
use Rattle.text.proofs.Encoded.{text_encoded}
use Rattle.history.specs.History.{Call, callee, after, note, raised_by, images, answers, versions}
use Rattle.history.specs.Demand.{Named}
use Rattle.history.specs.Edges.{printed, Agree, own_homes, c1, c1_text, c1_given, c1_paper, c1_across, across_answers, across_given, across_paper, table}
use Rattle.history.proofs.Run.{answer_to, ok, acted_on, outcome, proceed, upgrade, run_from, run_versions_from, run_answers_from, run, run_versions, run_answers}
use Rattle.history.proofs.Transfer.{shows, answers_are, versions_are, images_are}

-- "homes u = u"
own_homes_lem : Homes own_homes
own_homes_lem = record { below = λ u k. rw (ltb_true u user_count k) k; beyond = λ u k. rw (ltb_false u user_count k) }

eight : (r : ℕ) → T (ltb r replica_count) → r < replica_count
eight r t = ltb→lt r replica_count t

-- A history that is computed on ledgers, and so on images: its answers, and what the program prints for the image of a moment on replica 0.
module _ (made : ℕ → Version) (h : List Call) (nm : Named h) (m : ℕ) (is : run_versions own_homes made h m 0 ≡ current) where
  version_is : versions own_homes made h m 0 ≡ current
  version_is = ap (λ f. f m 0) (versions_are own_homes own_homes_lem made h nm) ∙ is

  image_is : images own_homes made h m 0 ≡ encode own_homes 0 (run own_homes made h m 0)
  image_is = images_are own_homes own_homes_lem made h nm m 0 (eight 0 tt) ∙ ap (λ w. encode_in w own_homes 0 (run own_homes made h m 0)) version_is

  fits : Holds current own_homes (run own_homes made h m 0)
  fits = subst (λ w. Holds w own_homes (run own_homes made h m 0)) version_is (shows own_homes own_homes_lem made h nm m 0).held

  prints : (ns : List ℕ) (text : Bytes) → run_answers own_homes made h ≡ ns → van_text 0 ++ crews_text group_count (run own_homes made h m 0) ≡ text
      → printed (answers own_homes made h) (program_text (images own_homes made h m 0)) ≡ printed ns text
  prints ns text e t =
      let a = answers_are own_homes own_homes_lem made h nm ∙ e in
      let b = ap program_text image_is ∙ text_encoded own_homes own_homes_lem 0 (eight 0 tt) (run own_homes made h m 0) fits ∙ t in
      λ i. printed (a i) (b i)

-- C1, from eight empty images of the current version.
abbrev start : ℕ → Version
start r = current

abbrev end : Ledger
end = run own_homes start c1 8 0

answers_computed : run_answers own_homes start c1 ≡ replicate 8 0
unfolding run run_from run_versions run_versions_from run_answers run_answers_from answer_to ok acted_on outcome proceed upgrade callee after note raised_by read_action_in record_fits_in shares_of answer first every_below some_below every8 all_of actor fields_fit checks gives merge_answer sum_below counts_acknowledged paid held pending raw gift gifts members members_in rank_in part_equally part_in part balance
answers_computed = refl

version_computed : run_versions own_homes start c1 8 0 ≡ current
unfolding run run_from run_versions run_versions_from run_answers run_answers_from answer_to ok acted_on outcome proceed upgrade callee after note raised_by read_action_in record_fits_in shares_of answer first every_below some_below every8 all_of actor fields_fit checks gives merge_answer sum_below counts_acknowledged paid held pending raw gift gifts members members_in rank_in part_equally part_in part balance
version_computed = refl

text_computed : van_text 0 ++ crews_text group_count end ≡ c1_text
unfolding run run_from run_versions run_versions_from run_answers run_answers_from answer_to ok acted_on outcome proceed upgrade callee after note raised_by read_action_in record_fits_in shares_of answer first every_below some_below every8 all_of actor fields_fit checks gives merge_answer sum_below counts_acknowledged paid held pending raw gift gifts members members_in rank_in part_equally part_in part balance valid_expenses line_of totals_of digits_of decimal signed van_text crew_line standing_text outcome_text user_line user_text users_text crew_text crews_text
text_computed = refl

c1_named : Named c1
c1_named = (eight 0 tt, (eight 0 tt, (eight 0 tt, (eight 0 tt, (eight 1 tt, eight 0 tt, (eight 1 tt, (eight 0 tt, eight 1 tt, (eight 0 tt, tt))))))))

c1_row : c1_given ≡ c1_paper
c1_row = prints start c1 c1_named 8 version_computed (replicate 8 0) c1_text answers_computed text_computed

-- C1 over the changes of version.
abbrev older : ℕ → Version
older r = v1

abbrev across_end : Ledger
across_end = run own_homes older c1_across 13 0

across_answers_lem : run_answers own_homes older c1_across ≡ across_answers
unfolding run run_from run_versions run_versions_from run_answers run_answers_from answer_to ok acted_on outcome proceed upgrade callee after note raised_by read_action_in record_fits_in shares_of answer first every_below some_below every8 all_of actor fields_fit checks gives merge_answer sum_below counts_acknowledged paid held pending raw gift gifts members members_in rank_in part_equally part_in part balance
across_answers_lem = refl

across_version : run_versions own_homes older c1_across 13 0 ≡ current
unfolding run run_from run_versions run_versions_from run_answers run_answers_from answer_to ok acted_on outcome proceed upgrade callee after note raised_by read_action_in record_fits_in shares_of answer first every_below some_below every8 all_of actor fields_fit checks gives merge_answer sum_below counts_acknowledged paid held pending raw gift gifts members members_in rank_in part_equally part_in part balance
across_version = refl

across_text : van_text 0 ++ crews_text group_count across_end ≡ c1_text
unfolding run run_from run_versions run_versions_from run_answers run_answers_from answer_to ok acted_on outcome proceed upgrade callee after note raised_by read_action_in record_fits_in shares_of answer first every_below some_below every8 all_of actor fields_fit checks gives merge_answer sum_below counts_acknowledged paid held pending raw gift gifts members members_in rank_in part_equally part_in part balance valid_expenses line_of totals_of digits_of decimal signed van_text crew_line standing_text outcome_text user_line user_text users_text crew_text crews_text
across_text = refl

across_named : Named c1_across
across_named =
    (eight 0 tt, (eight 0 tt, (eight 0 tt, (eight 0 tt, (eight 1 tt, eight 0 tt, (eight 0 tt, (eight 1 tt, (eight 0 tt, eight 1 tt, (eight 0 tt, eight 1 tt, (eight 0 tt, (eight 0 tt, (eight 0 tt, eight 1 tt, (eight 0 tt, tt)))))))))))))

across_row : across_given ≡ across_paper
across_row = prints older c1_across across_named 13 across_version across_answers c1_text across_answers_lem across_text

-- "C1 to C10 form one table, shown by one result about the rules."
pub edges : Agree table
unfolding answer first sound sound_expense every_below some_below every8 all_of actor fields_fit checks gives sum_below counts_acknowledged paid held pending raw gift gifts members members_in rank_in part_equally part_in part balance
edges = (c1_row, (across_row, (refl, (refl, (refl, (refl, (refl, (refl, (refl, (refl, (refl, (refl, tt))))))))))))
