use Rattle.std.proofs.Common.{ap, ◌∙◌, ltb}
use Rattle.format.specs.Layout.{replica_count}
use Rattle.rules.specs.Tests.{every8, eight_at}
use Rattle.header.proofs.homes_ok.Goals as goal

pub returns : goal.returns
unfolding every8
returns c = c.homes_fit.ensures ∙ ap (λ homes. every8 (λ u. ltb (eight_at homes u) replica_count)) c.homes_of.ensures
