use Rattle.std.proofs.Common.{refl, append_assoc}
use Rattle.text.specs.Text.{statement_text}
use Rattle.program.proofs.put_statement.Goals as goal

pub returns-clause-text : goal.returns-clause-text
unfolding statement_text
returns-clause-text g c = rw (c.put_groups.ensures.text, c.put_van.ensures.text, c.replica_of.ensures) (simp append_assoc refl)
