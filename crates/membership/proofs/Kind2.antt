-- Kind 2 from what its callees ensure, over plain variables.
use Rattle.std.proofs.Common.{◌≡◌, refl, sym, ap, ◌∙◌, ℕ, suc, ◌+◌, ◌%◌, ◌<◌, ◌≢◌, set, add-one}
use Rattle.format.specs.Layout.{group_count, group_place}
use Rattle.format.specs.declared.GroupRecord.{GroupRecord}
use Rattle.format.specs.Bytes.{Bytes, group_bytes_of, splice}
use Rattle.rules.specs.Tests.{first}
use Rattle.rules.specs.Action.{add}
use Rattle.rules.specs.Step.{gives}
use Rattle.rules.specs.Refusal.{add_checks, checks}
use Rattle.images.specs.Meaning.{counters_of, group_record_at}
use Rattle.images.specs.Image.{decode, Checked}
use Rattle.images.specs.Calls.{ruled, done}
use Rattle.rules.proofs.Basics.{eqb_false}
use Rattle.rules.proofs.Accepted.{pass}
use Rattle.kinds.proofs.Seen.{counters_of_lem, counted}

-- A non-member's counter is even, so it is not the last one.
pub even : (f : ℕ → ℕ) (a o : ℕ) → 0 ≡ first (add_checks f a o) → f o % 2 ≢ 1
even f a o z = eqb_false (f o % 2) 1 (pass (add_checks f a o) tt (sym z) 2)

module _ (b : Bytes) (ok : Checked b) (a o n : ℕ) (ko : o < 8) (kn : n < group_count) (g : GroupRecord) (q : g ≡ group_record_at (decode b) n) where
  pub ruled_is : first (add_checks (counters_of g) a o) ≡ ruled b (add a o n)
  unfolding ruled checks
  ruled_is = ap (λ f. first (add_checks f a o)) (counters_of_lem b n g q)

  pub adds : 0 ≡ first (add_checks (counters_of g) a o) → (new : GroupRecord) (out : Bytes) → (new.counters ≡ set g.counters o (counters_of g o + 1)) × (new.rule ≡ g.rule)
      → out ≡ splice b (group_place n) (group_bytes_of new) → (0 ≡ ruled b (add a o n)) × (out ≡ done b (add a o n))
  unfolding gives
  adds z new out en e =
      let v : ℕ = counters_of g o in
      let up : v + 1 ≡ suc ((decode b).counter n o) = add-one v ∙ ap suc (ap (λ f. f o) (counters_of_lem b n g q)) in
      (z ∙ ruled_is, counted b ok (add a o n) out (z ∙ ruled_is) n o (suc ((decode b).counter n o)) (v + 1) kn ko refl up g new q en e)
