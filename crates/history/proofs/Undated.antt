-- A heard step is an action of the history; one that the library of an older version made states no day, for the ledger after it is one that this version can hold.
use mathlib.Core.Path.{◌≡◌, refl, sym, ap, ◌∙◌, subst}
use mathlib.Core.Bool.{Bool, true, false, cond}
use mathlib.Core.Option.{Option, none, some}
use mathlib.Core.Logic.{⊎_elim}
use mathlib.Core.List.{List, [], ◌∷◌}
use Prim.Native.Nat.{ℕ, zero, suc, ◌≤◌}
use native.Mathlib.Omega.{arith}
use lib.ListN.{drop}
use Rattle.format.specs.Layout.{Version}
use Rattle.format.specs.Bytes.{Bytes}
use Rattle.rules.specs.Ledger.{Expense, Ledger, empty}
use Rattle.rules.specs.Action.{Action}
use Rattle.rules.specs.Step.{Given, states, apply, gives}
use Rattle.rules.specs.Refusal.{answer}
use Rattle.rules.specs.Heard.{worked_out}
use Rattle.images.specs.Record.{read_action_in}
use Rattle.rules.proofs.Basics.{In, in_cases, in_none, in_either, eqb_true, eqb_self}
use Rattle.images.proofs.Encoded.{Holds}
use Rattle.images.proofs.Checked.{NarrowOption, read_narrow, act_holds, or_else_zero}
use Rattle.images.proofs.Raise.{dated_day, undated_day}
use Rattle.history.specs.History.{Call, act, merge, raise, callee, Step, givens, with_step, learned, note, book_from, book}
use Rattle.history.specs.Demand.{ByAction}
use Rattle.history.proofs.Run.{sized, answer_to, ok, proceed, upgrade, run_from, run_versions_from, run_answers_from, run_oks_from, run, run_versions, run_oks}
use Rattle.history.proofs.Steps.{after_both, after_old}
use Rattle.history.proofs.Transfer.{sized_same}

-- Behind a place of a list.
drop_one : (n : ℕ) (h : List Call) → drop (suc n) h ≡ drop 1 (drop n h)
drop_one zero h = refl
drop_one (suc n) [] = refl
drop_one (suc n) (c ∷ h) = drop_one n h

-- What a step states is held after it.
stated : (x : Given) (c : ℕ) (e : Expense) (l : Ledger) → x ≡ states c e → (apply x l).expense c ≡ some e
stated x c e l p = ap (λ y. (apply y l).expense c) p ∙ ap (λ t. cond t (some e) (l.expense c)) (eqb_self c)

module _ (home : ℕ → ℕ) where
  -- What is past stays, of versions, ledgers and books.
  versions_past : (h : List Call) (n : ℕ) (at : ℕ → ℕ → Version) (stood : ℕ → ℕ → Ledger) (m w : ℕ) → m ≤ n → run_versions_from home n at stood h m w ≡ at m w
  unfolding run_versions_from upgrade note
  versions_past [] n at stood m w k = refl
  versions_past (c ∷ h) n at stood m w k = versions_past h (suc n) (upgrade home n at stood c) (proceed home n at stood c) m w (omega arith) ∙ after_old at n (callee c) _ m w k

  ledgers_past : (h : List Call) (n : ℕ) (at : ℕ → ℕ → Version) (stood : ℕ → ℕ → Ledger) (m w : ℕ) → m ≤ n → run_from home n at stood h m w ≡ stood m w
  unfolding run_from proceed
  ledgers_past [] n at stood m w k = refl
  ledgers_past (c ∷ h) n at stood m w k = ledgers_past h (suc n) (upgrade home n at stood c) (proceed home n at stood c) m w (omega arith) ∙ after_old stood n (callee c) _ m w k

books_past : (h : List Call) (bs : List Bool) (n : ℕ) (heard : ℕ → ℕ → List Step) (m w : ℕ) → m ≤ n → book_from learned n heard h bs m w ≡ heard m w
unfolding book_from note
books_past [] bs n heard m w k = refl
books_past (c ∷ h) [] n heard m w k = refl
books_past (c ∷ h) (b ∷ bs) n heard m w k = books_past h bs (suc n) (note learned n heard c b) m w (omega arith) ∙ after_old heard n (callee c) _ m w k

-- The calls of a list, `whole`, from place n on, where each replica's ledger is one of its version, worked out from the steps heard.
module _ (home : ℕ → ℕ) (whole : List Call) where
  module _ (n : ℕ) (at : ℕ → ℕ → Version) (stood : ℕ → ℕ → Ledger) (heard : ℕ → ℕ → List Step) (held : (r : ℕ) → Holds (at n r) home (stood n r)) (worked : (r : ℕ) → stood n r ≡ worked_out (givens (heard n r))) (known : (m r : ℕ) (s : Step) → In s (heard m r) → ByAction whole s) where
    acting : (v : Version) (r : ℕ) (x : Bytes) (rest : List Call) → drop n whole ≡ act v r x ∷ rest → at n r ≡ v → (o : Option Action) → NarrowOption v o → answer home r o (stood n r) ≡ 0
        → (s : Step) → In s (with_step n o (heard n r)) → ByAction whole s
    unfolding with_step
    acting v r x rest d p none nr e s i = known n r s i
    acting v r x rest d p (some a) nr e s i = ⊎_elim
        (λ q. record {
          library = v;
          replica = r;
          bytes = x;
          rest = rest;
          call = ap (λ y. drop y.place whole) q ∙ d;
          dayless = λ o c f g.
              let z : gives a (stood n r) ≡ states c f = ap (gives a) (worked r) ∙ ap (λ y. y.given) (sym q) ∙ g in
              undated_day f.day (dated_day home _ (act_holds home r a (stood n r) nr (subst (λ w. Holds w home (stood n r)) p (held r)) e) c f (stated (gives a (stood n r)) c f (stood n r) z)) o;
        })
        (known n r s)
        (in_cases i)

    accepting : (c : Call) (rest : List Call) → drop n whole ≡ c ∷ rest → ok home n at stood c ≡ true → (s : Step) → In s (learned n heard c) → ByAction whole s
    unfolding ok answer_to learned
    accepting (act v r x) rest d p s i =
        let z = or_else_zero (sized (at n r) v) (answer home r (read_action_in v x) (stood n r)) (eqb_true _ 0 p) in
        acting v r x rest d (sized_same (at n r) v z.0) (read_action_in v x) (read_narrow v x) z.1 s i
    accepting (merge v r f m w) rest d p s i = ⊎_elim (known n r s) (known m f s) (in_either (heard n r) i)
    accepting (raise v r b) rest d p s i = known n r s i

    one_call : (c : Call) (rest : List Call) → drop n whole ≡ c ∷ rest → (m r : ℕ) (s : Step) → In s (note learned n heard c (ok home n at stood c) m r) → ByAction whole s
    unfolding note
    one_call c rest d =
        let new = cond (ok home n at stood c) (learned n heard c) (heard n (callee c)) in
        after_both (λ x y. (s : Step) → In s y → ByAction whole s) heard heard n (callee c) new new known (go (ok home n at stood c) refl)
      where
        go : (b : Bool) → ok home n at stood c ≡ b → (s : Step) → In s (cond b (learned n heard c) (heard n (callee c))) → ByAction whole s
        go false p = known n (callee c)
        go true p = accepting c rest d p

  all_calls : (h : List Call) (n : ℕ) (at : ℕ → ℕ → Version) (stood : ℕ → ℕ → Ledger) (heard : ℕ → ℕ → List Step) → drop n whole ≡ h
      → ((m r : ℕ) → Holds (run_versions_from home n at stood h m r) home (run_from home n at stood h m r))
      → ((m r : ℕ) → run_from home n at stood h m r ≡ worked_out (givens (book_from learned n heard h (run_oks_from home n at stood h) m r)))
      → ((m r : ℕ) (s : Step) → In s (heard m r) → ByAction whole s)
      → (m r : ℕ) (s : Step) → In s (book_from learned n heard h (run_oks_from home n at stood h) m r) → ByAction whole s
  unfolding run_from run_versions_from book_from run_oks_from run_answers_from ok
  all_calls [] n at stood heard d held worked known = known
  all_calls (c ∷ h) n at stood heard d held worked known =
      let le : n ≤ n = omega arith in
      let now : (r : ℕ) → Holds (at n r) home (stood n r) = λ r. subst (λ l. Holds (at n r) home l) (ledgers_past home (c ∷ h) n at stood n r le) (subst (λ v. Holds v home (run_from home n at stood (c ∷ h) n r)) (versions_past home (c ∷ h) n at stood n r le) (held n r)) in
      let here : (r : ℕ) → stood n r ≡ worked_out (givens (heard n r)) = λ r. sym (ledgers_past home (c ∷ h) n at stood n r le) ∙ worked n r ∙ ap (λ s. worked_out (givens s)) (books_past (c ∷ h) (run_oks_from home n at stood (c ∷ h)) n heard n r le) in
      all_calls h (suc n) (upgrade home n at stood c) (proceed home n at stood c) (note learned n heard c (ok home n at stood c)) (drop_one n whole ∙ ap (drop 1) d) held worked (one_call n at stood heard now here known c h d)

pub acted : (home : ℕ → ℕ) (made : ℕ → Version) (h : List Call) → ((m r : ℕ) → Holds (run_versions home made h m r) home (run home made h m r))
    → ((m r : ℕ) → run home made h m r ≡ worked_out (givens (book h (run_oks home made h) m r)))
    → (m r : ℕ) (s : Step) → In s (book h (run_oks home made h) m r) → ByAction h s
unfolding run run_versions book run_oks
acted home made h held worked = all_calls home h h 0 (λ m r. made r) (λ m r. empty) (λ m r. []) refl held worked (λ m r s i. absurd (in_none i))
