-- What specs/Stranger claims. By the time that 20 is asked, 25 and 22 have passed: the other has a positive share of an expense in a group, and was a member there
-- once. So the module's 334 follows from its 327, in a sound ledger.
use mathlib.Core.Path.{◌≡◌, refl, sym, ap, subst, ◌∙◌}
use mathlib.Core.Bool.{Bool, true, false, not, cond}
use mathlib.Core.Option.{some}
use mathlib.Core.List.{List, [], ◌∷◌}
use Prim.Native.Nat.{ℕ, ◌<◌}
use lib.Dec.{eqb}
use Rattle.format.specs.Layout.{Version}
use Rattle.format.specs.Bytes.{Bytes, Octets}
use Rattle.rules.specs.Tests.{Check, first, all_of, every8, every_below}
use Rattle.rules.specs.Ledger.{Ledger, in_group, absent, at}
use Rattle.rules.specs.Sound.{sound_expense, sound}
use Rattle.rules.specs.Action.{absorb, actor, fields_fit}
use Rattle.rules.specs.Refusal.{checks, refusals, answer}
use Rattle.images.specs.Image.{decode_in, replica_of, home_of, image_check_in}
use Rattle.images.specs.Record.{read_action_in}
use Rattle.images.specs.Calls.{or_else, act_answer_in}
use Rattle.rules.proofs.Basics.{clash, Same, same, other, same?, ltb_true}
use Rattle.rules.proofs.Accepted.{Passed, not_false, test, ltb_lt, there_is}
use Rattle.rules.proofs.Sound.{positive, Good, GoodOption, good_ledger}
use Rattle.images.proofs.Round.{sound_decoded}
use Rattle.splitless.specs.Stranger.{behind, never_member, asked_answer, stranger_share, StrangerDropped}

-- The checks up to the one that has a number.
abbrev up_to : (number : ℕ) → List Check → List Check
up_to n [] = []
up_to n (j ∷ js) = j ∷ cond (eqb j.1 n) [] (up_to n js)

-- A check that fails wherever those before it have passed may be left out.
behind_idle : (n : ℕ) (k : Check) (ks : List Check) → (Passed (up_to n ks) → k.0 ≡ false) → first (behind n k ks) ≡ first ks
unfolding first
behind_idle n k [] h = refl
behind_idle n k (j ∷ js) h = go j.0 refl (eqb j.1 n) refl (behind_idle n k js)
  where
    go : (x : Bool) → j.0 ≡ x → (y : Bool) → eqb j.1 n ≡ y → ((Passed (up_to n js) → k.0 ≡ false) → first (behind n k js) ≡ first js) → first (behind n k (j ∷ js)) ≡ first (j ∷ js)
    go true p y q ih = rw p
    go false p true q ih = rw (p, q, h (p, subst (λ t. Passed (cond t [] (up_to n js))) (sym q) tt))
    go false p false q ih = rw (p, q) (ih (λ r. h (p, subst (λ t. Passed (cond t [] (up_to n js))) (sym q) r)))

module _ (home : ℕ → ℕ) (r : ℕ) (l : Ledger) (so : sound home l ≡ true) where
  -- Whoever has a positive share of an expense in a group was a member there once.
  pub once_member : (c o : ℕ) → c < 512 → o < 8 → absent l c ≡ false → eqb ((at l c).shares o) 0 ≡ false → in_group (at l c) ≡ true → 0 < l.counter (at l c).group o
  once_member c o k o8 ab s g =
      let good : Good home l c (at l c) = subst (GoodOption home l c) (there_is l c ab) (good_ledger home l so c k) in
      good.shares_in (λ q. clash g (ap (λ n. not (eqb n 255)) q)) o o8 (positive ((at l c).shares o) s)

  -- The refusals of kind 10 with 20 behind 28 and those without it give one answer.
  asked_idle : (a o c : ℕ) → asked_answer home r a o c l ≡ answer home r (some (absorb a o c)) l
  unfolding asked_answer answer checks fields_fit
  asked_idle a o c =
      behind_idle 28 (never_member l o c, 20) (refusals home r (absorb a o c) l) (λ p.
      let f = test _ (not_false _ p.0) in
      let k = once_member c o (ltb_lt c 512 (f 2)) (ltb_lt o 8 (f 1)) p.1.1.1.0 p.1.1.1.1.1.1.0 (not_false _ p.1.1.1.1.1.1.1.1.0) in
      ap not (ltb_true 0 (l.counter (at l c).group o) k))

-- The call: an image is refused by the check, or holds a sound ledger.
call_idle : (v : Version) (b x : Bytes) → Octets b → (a o c : ℕ) → read_action_in v x ≡ some (absorb a o c)
    → act_answer_in v b x ≡ or_else (image_check_in v b) (asked_answer (home_of b) (replica_of b) a o c (decode_in v b))
unfolding act_answer_in
call_idle v b x oct a o c p = ap (λ y. or_else (image_check_in v b) (answer (home_of b) (replica_of b) y (decode_in v b))) p ∙ go (same? (image_check_in v b) 0)
  where
    go : Same (image_check_in v b) 0 → or_else (image_check_in v b) (answer (home_of b) (replica_of b) (some (absorb a o c)) (decode_in v b))
        ≡ or_else (image_check_in v b) (asked_answer (home_of b) (replica_of b) a o c (decode_in v b))
    go (same e _) =
        let so = sound_decoded b (record { octets = oct; passes = e }) in
        ap (or_else (image_check_in v b)) (sym (asked_idle (home_of b) (replica_of b) (decode_in v b) so a o c))
    go (other _ e) = rw e

soundness_needed : (sound (λ u. u) stranger_share ≡ false) × (asked_answer (λ u. u) 0 0 1 0 stranger_share ≡ 20) × (answer (λ u. u) 0 (some (absorb 0 1 0)) stranger_share ≡ 0)
unfolding asked_answer answer checks fields_fit actor sound sound_expense first all_of every8 every_below
soundness_needed = (refl, refl, refl)

pub stranger_dropped : StrangerDropped
stranger_dropped = record { ledgers = λ home r l so a o c. sym (asked_idle home r l so a o c); calls = call_idle; needed = soundness_needed }
