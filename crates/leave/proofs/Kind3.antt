-- Kind 3 from what its callees ensure, over plain variables.
use Rattle.std.proofs.Common.{◌≡◌, refl, sym, ap, ◌∙◌, ℕ, suc, ◌+◌, ◌<◌, ◌≢◌, true, false, not, List, ltb, eqb, set, add-one, arith}
use Rattle.format.specs.Layout.{group_count, group_place, last_counter}
use Rattle.format.specs.declared.GroupRecord.{GroupRecord}
use Rattle.format.specs.Bytes.{Bytes, group_bytes_of, splice}
use Rattle.rules.specs.Tests.{Check, first}
use Rattle.rules.specs.Ledger.{Ledger, nobody, member_in}
use Rattle.rules.specs.Balance.{paid, held}
use Rattle.rules.specs.Pending.{pending}
use Rattle.rules.specs.Action.{leave}
use Rattle.rules.specs.Step.{gives}
use Rattle.rules.specs.Refusal.{leave_checks, checks}
use Rattle.images.specs.Meaning.{counters_of, group_record_at}
use Rattle.images.specs.Image.{decode, Checked}
use Rattle.images.specs.Calls.{ruled, done}
use Rattle.rules.proofs.Basics.{eqb_false}
use Rattle.rules.proofs.Accepted.{pass}
use Rattle.rules.proofs.Answers.{first_yes, first_no}
use Rattle.standing.specs.declared.Standing.{Standing}
use Rattle.standing.specs.Standing.{standing_to, standing_of}
use Rattle.leave.specs.Members.{member_checks}
use Rattle.kinds.proofs.Seen.{counters_of_lem, refused, counted}

-- What speaks against the leaving of a member.
abbrev pub against : Ledger → (ℕ → ℕ) → (a n : ℕ) → List Check
against l f a n = member_checks (ltb (paid l n a) (held l n a)) (pending l n a) (eqb (f a) last_counter)

module _ (b : Bytes) (ok : Checked b) (a n : ℕ) (ka : a < 8) (kn : n < group_count) (g : GroupRecord) (q : g ≡ group_record_at (decode b) n) where
  ruled_is : first (leave_checks (counters_of g) a (paid (decode b) n a) (held (decode b) n a) (pending (decode b) n a)) ≡ ruled b (leave a n)
  unfolding ruled checks
  ruled_is = ap (λ f. first (leave_checks f a (paid (decode b) n a) (held (decode b) n a) (pending (decode b) n a))) (counters_of_lem b n g q)

  refuses : (r : ℕ) → r ≡ ruled b (leave a n) → r ≢ 0 → (r ≡ ruled b (leave a n)) × (b ≡ done b (leave a n))
  refuses r p z = (p, refused b (leave a n) r p z)

  pub absent_10 : nobody (counters_of g) ≡ true → (10 ≡ ruled b (leave a n)) × (b ≡ done b (leave a n))
  absent_10 x = refuses 10 (first_yes _ _ _ x ∙ ruled_is) (λ z. omega arith)

  module _ (x : nobody (counters_of g) ≡ false) where
    pub outside_11 : not (member_in (counters_of g) a) ≡ true → (11 ≡ ruled b (leave a n)) × (b ≡ done b (leave a n))
    outside_11 y = refuses 11 (first_no _ _ _ _ x (first_yes _ _ _ y) ∙ ruled_is) (λ z. omega arith)

    -- A member, with the refusal that the sums give.
    module _ (y : not (member_in (counters_of g) a) ≡ false) where
      pub stays_is : first (against (decode b) (counters_of g) a n) ≡ ruled b (leave a n)
      stays_is = first_no _ _ _ _ x (first_no _ _ _ _ y refl) ∙ ruled_is

      pub leaves : 0 ≡ first (against (decode b) (counters_of g) a n) → (new : GroupRecord) (out : Bytes) → (new.counters ≡ set g.counters a (counters_of g a + 1)) × (new.rule ≡ g.rule)
          → out ≡ splice b (group_place n) (group_bytes_of new) → (0 ≡ ruled b (leave a n)) × (out ≡ done b (leave a n))
      unfolding gives
      leaves z new out en e =
          let v : ℕ = counters_of g a in
          let up : v + 1 ≡ suc ((decode b).counter n a) = add-one v ∙ ap suc (ap (λ f. f a) (counters_of_lem b n g q)) in
          (z ∙ stays_is, counted b ok (leave a n) out (z ∙ stays_is) n a (suc ((decode b).counter n a)) (v + 1) kn ka refl up g new q en e)

-- Where nothing speaks against leaving, the counter has room for one more.
pub room : (l : Ledger) (f : ℕ → ℕ) (a n : ℕ) → 0 ≡ first (against l f a n) → f a ≢ last_counter
room l f a n z = eqb_false (f a) last_counter (pass (against l f a n) tt (sym z) 2)

-- The tests on the standing by the group's rule are those on raw and on what is pending.
pub refusal_is : (l : Ledger) (rule g u k : ℕ) (s : Standing) (r : ℕ) → rule ≡ l.rule g → s ≡ standing_of l rule g u
    → r ≡ first (member_checks (ltb s.paid s.held) s.pending (eqb k last_counter)) → r ≡ first (member_checks (ltb (paid l g u) (held l g u)) (pending l g u) (eqb k last_counter))
unfolding standing_of standing_to paid held pending
refusal_is l rule g u k s r er es e = e ∙ ap (λ t. first (member_checks (ltb t.paid t.held) t.pending (eqb k last_counter))) (es ∙ ap (λ n. standing_of l n g u) er)
