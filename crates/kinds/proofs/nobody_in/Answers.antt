use Rattle.std.proofs.Common.{sym, ◌∙◌, arith}
use Rattle.rules.specs.Tests.{eight_at}
use Rattle.eight.proofs.Eight.{zeros}
use Rattle.sets.proofs.Masks.{every8_same, not_positive}
use Rattle.kinds.proofs.nobody_in.Goals as goal

pub returns : goal.returns
returns c = c.eq.ensures ∙ zeros c.args.f (omega arith) ∙ every8_same _ _ (λ u k. sym (not_positive (eight_at c.args.f u)))
