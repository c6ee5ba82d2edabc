use Rattle.std.proofs.Common.{refl, append_assoc, rules}
use mir.Syntax.{w64}
use mir.Facts.{to_z-of_z}
use Rattle.text.specs.Text.{user_line}
use Rattle.text_lines.proofs.put_line.Goals as goal

pub returns-clause-text : goal.returns-clause-text
unfolding user_line
returns-clause-text g c =
    let raw = to_z-of_z {w = w64} {z = c.args.line.raw} (search rules) in
    let balance = to_z-of_z {w = w64} {z = c.args.line.balance} (search rules) in
    rw (c.put_outcome.ensures.text, c.put_standing.ensures.text, raw, balance) (simp append_assoc refl)
