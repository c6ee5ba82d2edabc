use Rattle.std.proofs.Common.{sym, ap, ◌∙◌, cond}
use Rattle.format.specs.Layout.{equal_rule}
use Rattle.format.specs.Bytes.{group_of}
use Rattle.format.proofs.Round.{same_g}
use Rattle.images.specs.Image.{read_group, read_rule}
use Rattle.raised.proofs.raised_group.Goals as goal

pub returns-then-nobody_ever : goal.returns-then-nobody_ever
unfolding read_group read_rule group_of
returns-then-nobody_ever c = same_g c.read_counters-counters.ensures (sym (ap (λ t. cond t 0 equal_rule) (sym c.nobody_ever.ensures ∙ c.if-nobody_ever.true)))

pub returns : goal.returns
unfolding read_group read_rule group_of
returns c = same_g c.read_counters-counters.ensures (sym (ap (λ t. cond t 0 equal_rule) (sym c.nobody_ever.ensures ∙ c.if-nobody_ever.false)))
