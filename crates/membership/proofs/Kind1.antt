-- Kind 1 from what its callees ensure, over plain variables.
use Rattle.std.proofs.Common.{◌≡◌, refl, ap₂, ◌∙◌, ℕ, ◌<◌, set}
use Rattle.format.specs.Layout.{group_count, group_place}
use Rattle.format.specs.declared.GroupRecord.{GroupRecord}
use Rattle.format.specs.Bytes.{Bytes, group_bytes_of, splice}
use Rattle.rules.specs.Tests.{first}
use Rattle.rules.specs.Action.{found}
use Rattle.rules.specs.Step.{gives}
use Rattle.rules.specs.Refusal.{found_checks, checks}
use Rattle.images.specs.Meaning.{counters_of, group_record_at}
use Rattle.images.specs.Image.{decode, replica_of, Checked}
use Rattle.images.specs.Calls.{ruled, done}
use Rattle.kinds.proofs.Seen.{counters_of_lem, founded}

module _ (b : Bytes) (ok : Checked b) (a n k : ℕ) (ka : a < 8) (kn : n < group_count) (g : GroupRecord) (q : g ≡ group_record_at (decode b) n) (s : ℕ) (es : s ≡ replica_of b) where
  pub ruled_is : first (found_checks s n (counters_of g)) ≡ ruled b (found a n k)
  unfolding ruled checks
  ruled_is = ap₂ (λ r f. first (found_checks r n f)) es (counters_of_lem b n g q)

  pub founds : 0 ≡ first (found_checks s n (counters_of g)) → (new : GroupRecord) (out : Bytes) → (new.counters ≡ set g.counters a 1) × (new.rule ≡ k)
      → out ≡ splice b (group_place n) (group_bytes_of new) → (0 ≡ ruled b (found a n k)) × (out ≡ done b (found a n k))
  unfolding gives
  founds z new out en e = (z ∙ ruled_is, founded b ok (found a n k) out (z ∙ ruled_is) n a k kn ka refl g new q en e)
