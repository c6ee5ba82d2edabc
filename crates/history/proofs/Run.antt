-- The history of ledgers: the same calls, on what the images mean, and the versions of the images. The claims are proved of it, and proofs/Transfer carries
-- them over to the images.
use mathlib.Core.Path.{◌≡◌, refl}
use mathlib.Core.Bool.{Bool, cond}
use mathlib.Core.Option.{Option, none, some}
use mathlib.Core.List.{List, [], ◌∷◌}
use Prim.Native.Nat.{ℕ, suc}
use lib.Dec.{eqb}
use lib.ListN.{length}
use Rattle.format.specs.Layout.{Version, image_size_in}
use Rattle.rules.specs.Ledger.{Ledger, empty}
use Rattle.rules.specs.Action.{Action}
use Rattle.rules.specs.Step.{ledger_after}
use Rattle.rules.specs.Refusal.{answer}
use Rattle.rules.specs.Merge.{merge_ledger, merge_answer}
use Rattle.images.specs.Record.{read_action_in}
use Rattle.images.specs.Calls.{or_else, other_answer, older_by}
use Rattle.images.proofs.Raise.{later}
use Rattle.history.specs.History.{Call, act, merge, raise, callee, after, accepted, note, book_from, raised_by}

-- "give 1 for the old length": an image of version u given to the library of version v.
abbrev pub sized : Version → Version → ℕ
sized u v = cond (eqb (image_size_in u) (image_size_in v)) 0 1

-- Raising into a buffer of n bytes an image that is older, or is not.
abbrev pub raising : Version → Option Version → ℕ → ℕ
raising v none n = 1
raising v (some w) n = cond (eqb n (image_size_in v)) 0 1

-- The answer of call n, where `at m r` is the version and `stood m r` the ledger of moment m on replica r, and whether it was 0.
unfoldable pub answer_to : (ℕ → ℕ) → ℕ → (at : ℕ → ℕ → Version) (stood : ℕ → ℕ → Ledger) → Call → ℕ
answer_to home n at stood (act v r x) = or_else (sized (at n r) v) (answer home r (read_action_in v x) (stood n r))
answer_to home n at stood (merge v r f k w) = or_else (sized (at n r) v) (or_else (other_answer (sized (later w (at k f)) v)) (merge_answer (stood n r) (stood k f)))
answer_to home n at stood (raise v r d) = raising v (older_by v (image_size_in (at n r))) (length d)

unfoldable pub ok : (ℕ → ℕ) → ℕ → (ℕ → ℕ → Version) → (ℕ → ℕ → Ledger) → Call → Bool
ok home n at stood c = eqb (answer_to home n at stood c) 0

-- The ledger after what a record gives; without an action it stays.
unfoldable pub acted_on : Option Action → Ledger → Ledger
acted_on none l = l
acted_on (some a) l = ledger_after a l

-- The ledger that an accepted call leaves on its replica.
unfoldable pub outcome : ℕ → (ℕ → ℕ → Ledger) → Call → Ledger
outcome n stood (act v r x) = acted_on (read_action_in v x) (stood n r)
outcome n stood (merge v r f k w) = merge_ledger (stood n r) (stood k f)
outcome n stood (raise v r d) = stood n r

module _ (home : ℕ → ℕ) where
  unfoldable pub proceed : ℕ → (ℕ → ℕ → Version) → (ℕ → ℕ → Ledger) → Call → ℕ → ℕ → Ledger
  proceed n at stood c = after stood n (callee c) (cond (ok home n at stood c) (outcome n stood c) (stood n (callee c)))

  unfoldable pub upgrade : ℕ → (ℕ → ℕ → Version) → (ℕ → ℕ → Ledger) → Call → ℕ → ℕ → Version
  upgrade n at stood c = note raised_by n at c (ok home n at stood c)

  -- The ledgers that stood, the versions, the answers, and of each answer whether it was 0, from call n on.
  unfoldable pub run_from : ℕ → (ℕ → ℕ → Version) → (ℕ → ℕ → Ledger) → List Call → ℕ → ℕ → Ledger
  run_from n at stood [] = stood
  run_from n at stood (c ∷ cs) = run_from (suc n) (upgrade n at stood c) (proceed n at stood c) cs

  unfoldable pub run_versions_from : ℕ → (ℕ → ℕ → Version) → (ℕ → ℕ → Ledger) → List Call → ℕ → ℕ → Version
  run_versions_from n at stood [] = at
  run_versions_from n at stood (c ∷ cs) = run_versions_from (suc n) (upgrade n at stood c) (proceed n at stood c) cs

  unfoldable pub run_answers_from : ℕ → (ℕ → ℕ → Version) → (ℕ → ℕ → Ledger) → List Call → List ℕ
  run_answers_from n at stood [] = []
  run_answers_from n at stood (c ∷ cs) = answer_to home n at stood c ∷ run_answers_from (suc n) (upgrade n at stood c) (proceed n at stood c) cs

  unfoldable pub run_oks_from : ℕ → (ℕ → ℕ → Version) → (ℕ → ℕ → Ledger) → List Call → List Bool
  run_oks_from n at stood cs = accepted (run_answers_from n at stood cs)

  -- The versions are those of the book.
  versions_from : (h : List Call) (n : ℕ) (at : ℕ → ℕ → Version) (stood : ℕ → ℕ → Ledger) → run_versions_from n at stood h ≡ book_from raised_by n at h (run_oks_from n at stood h)
  unfolding run_versions_from book_from run_oks_from run_answers_from upgrade ok
  versions_from [] n at stood = refl
  versions_from (c ∷ h) n at stood = versions_from h (suc n) (upgrade n at stood c) (proceed n at stood c)

  -- The ledger of a moment on a replica, its version, the answers, and of each answer whether it was 0.
  module _ (made : ℕ → Version) where
    unfoldable pub run : List Call → ℕ → ℕ → Ledger
    run h = run_from 0 (λ m r. made r) (λ m r. empty) h

    unfoldable pub run_versions : List Call → ℕ → ℕ → Version
    run_versions h = run_versions_from 0 (λ m r. made r) (λ m r. empty) h

    unfoldable pub run_answers : List Call → List ℕ
    run_answers h = run_answers_from 0 (λ m r. made r) (λ m r. empty) h

    unfoldable pub run_oks : List Call → List Bool
    run_oks h = run_oks_from 0 (λ m r. made r) (λ m r. empty) h

    pub versions_booked : (h : List Call) → run_versions h ≡ book_from raised_by 0 (λ m r. made r) h (run_oks h)
    unfolding run_versions run_oks
    versions_booked h = versions_from h 0 (λ m r. made r) (λ m r. empty)
