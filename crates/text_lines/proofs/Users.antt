-- The users' lines, one behind the other.
use Rattle.std.proofs.Common.{◌≡◌, refl, ℕ, ◌+◌, ◌++◌}
use native.Mathlib.Numerals.{add-one}
use Rattle.format.specs.declared.Line.{Line}
use Rattle.text.specs.Text.{user_text, users_text}

pub next_user : (f : ℕ → Line) (u : ℕ) → users_text (u + 1) f ≡ users_text u f ++ user_text u (f u)
unfolding users_text
next_user f u = rw add-one refl
