-- Lookup by place: where the part that `lookup_part` hands back stands in the image.
use Rattle.std.specs.Prelude.{not, cond, ◌&&◌, ℕ, Bool, eqb, Option}
use Rattle.std.specs.Bool.{then_some}
use Rattle.format.specs.Layout.{expense_place, expense_size}
use Rattle.format.specs.Bytes.{Bytes}
use Rattle.rules.specs.Ledger.{absent}
use Rattle.images.specs.Image.{decode, image_check}
use Rattle.format.specs.declared.Part.{Part}

-- The image passes the check and has expense c.
abbrev pub has : Bytes → ℕ → Bool
has b c = eqb (image_check b) 0 && not (absent (decode b) c)

-- The place of expense c, if it is there.
unfoldable pub place_at : Bytes → ℕ → Option ℕ
place_at b c = then_some (has b c) (expense_place c)

unfoldable pub lookup_place : Bytes → ℕ → Part
lookup_place b c = cond (has b c) (record { at = expense_place c; len = expense_size }) (record { at = 0; len = 0 })
