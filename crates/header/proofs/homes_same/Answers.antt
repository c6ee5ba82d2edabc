use Rattle.std.proofs.Common.{ap₂, ◌∙◌, eqb}
use lib.Pointwise.{pointwise}
use Rattle.rules.specs.Tests.{every8, all_of}
use Rattle.header.proofs.homes_same.Goals as goal

pub returns : goal.returns
unfolding every8 all_of
returns c = c.eq.ensures ∙ ap₂ (pointwise eqb) c.homes_of.ensures c.homes_of-2.ensures
