-- What the check of an image is handed of its version.
use Rattle.std.specs.Prelude.{◌≡◌, ℕ, true, false, List, length, MatchOption}
use Rattle.std.specs.declared.option.Option.{Option}
use Rattle.format.specs.Layout.{Version, number_in, expense_size_in, expenses_at_in, image_size_in}
use Rattle.format.specs.Bytes.{Bytes}
use Rattle.rules.specs.Sound.{rules_fit}
use Rattle.images.specs.Image.{decode_in}
use Rattle.record_check.specs.Sets.{Knows}

-- Bytes as long as an image of version v; the version's number, how many bytes an expense has and where the first one stands; and who was ever a member
-- of each group, or none where a group's rule does not fit.
pub record Handed (v : Version) (size number at : ℕ) (known : Option (List ℕ)) (b : Bytes) : Type 0 where
  pub long : length b ≡ image_size_in v
  pub sized : size ≡ expense_size_in v
  pub numbered : number ≡ number_in v
  pub placed : at ≡ expenses_at_in v
  pub groups : MatchOption known (rules_fit (decode_in v b) ≡ false) (λ sets. (rules_fit (decode_in v b) ≡ true) × Knows sets (decode_in v b).counter)
