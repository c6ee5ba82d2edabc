-- The day's test, on the number that its two bytes make.
use Rattle.std.proofs.Common.{◌≡◌, ℕ, ◌+◌, ◌%◌, ◌<◌, ◌≤◌, true, eqb, leb, arith}
use Rattle.format.specs.Layout.{last_day, undated}
use Rattle.rules.specs.Sound.{day_fits}
use Rattle.rules.proofs.Basics.{Less, less, more, less?, eqb_true, false_of, bool_path}
use Rattle.rules.proofs.Sound.{le_leb, leb_le, or_else}

-- In one comparison: less 36,525, round the end of 32 bits, it is below 29,010 just for the numbers between the last day and 65,535.
pub day_test : (d x r : ℕ) → x ≡ d → (r + 36_525) % 4294967296 ≡ x → r < 4294967296 → x < 65_536 → leb 29_010 r ≡ day_fits d
day_test d x r e q kr kx = bool_path _ _ (λ t. to (leb_le 29_010 r t) (less? last_day d)) (λ t. from t (less? last_day d))
  where
    to : 29_010 ≤ r → Less last_day d → day_fits d ≡ true
    to z (less k p) = let y : d ≡ undated = omega arith in rw y
    to z (more k p) = rw (le_leb d last_day k)

    from : day_fits d ≡ true → Less last_day d → leb 29_010 r ≡ true
    from t (less k p) =
        let y : d ≡ undated = eqb_true d undated (or_else (leb d last_day) (eqb d undated) t (false_of (leb d last_day) (λ a. let z = leb_le d last_day a in omega arith))) in
        le_leb 29_010 r (omega arith)
    from t (more k p) = le_leb 29_010 r (omega arith)
