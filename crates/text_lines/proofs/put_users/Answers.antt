use Rattle.std.proofs.Common.{◌≡◌, refl, append_assoc, rules, arith}
use Rattle.format.specs.Layout.{user_count}
use Rattle.text.specs.Text.{users_text}
use Rattle.text_lines.proofs.Users.{next_user}
use Rattle.text_lines.proofs.put_users.Goals as goal

pub loop-user-init : goal.loop-user-init
unfolding users_text
loop-user-init g c = (omega arith, search rules)

pub put_user-requires : goal.put_user-requires
put_user-requires g c = omega arith

pub loop-user-preserved : goal.loop-user-preserved
loop-user-preserved g c = (omega arith, rw (c.put_user.ensures.text, c.loop-user.invariant.1, next_user _ c.loop-user.user, append_assoc) refl)

pub returns-clause-text : goal.returns-clause-text
returns-clause-text g c = let z : c.loop-user.user ≡ user_count = omega arith in rw z at c.loop-user.invariant.1

pub returns-clause-room : goal.returns-clause-room
returns-clause-room g c = omega arith
