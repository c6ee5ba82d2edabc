use Rattle.std.proofs.Common.{rules}
use borrow.Author.Tests.{lt-ltb, le-ltb}
use Rattle.text.specs.Text.{user_text}
use Rattle.text_lines.proofs.put_user.Goals as goal

pub returns-then-line-gt0-clause-text : goal.returns-then-line-gt0-clause-text
unfolding user_text
returns-then-line-gt0-clause-text g c = rw (lt-ltb 0 c.args.line.counter c.if-line-gt0.true) c.put_line.ensures.text

pub returns-else-line-gt0-clause-text : goal.returns-else-line-gt0-clause-text
unfolding user_text
returns-else-line-gt0-clause-text g c = rw (le-ltb 0 c.args.line.counter c.if-line-gt0.false) (search rules)
