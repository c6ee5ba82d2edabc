use Rattle.std.proofs.Common.{◌∙◌}
use Rattle.rules.specs.Action.{found}
use Rattle.kinds.proofs.Seen.{refuses}
use Rattle.membership.proofs.Kind1.{ruled_is, founds}
use Rattle.membership.proofs.found_group.Goals as goal

pub returns-in_err-may_found : goal.returns-in_err-may_found
returns-in_err-may_found c =
    let b = c.args.image.now in
    let r = ruled_is b c.requires.2 c.args.actor c.args.group c.args.rule c.requires.0 c.requires.1 _ c.counters_of-g.ensures _ c.replica_of.ensures in
    let both = refuses b (found c.args.actor c.args.group c.args.rule) _ _ c.from_residual.ensures.1 (c.in_err-may_found.ensures ∙ r) in
    record { code = both.0; bytes = both.1 }

pub returns : goal.returns
returns c =
    let b = c.args.image.now in
    let both = founds b c.requires.2 c.args.actor c.args.group c.args.rule c.requires.0 c.requires.1 _ c.counters_of-g.ensures _ c.replica_of.ensures c.in_ok-may_found.ensures _ _ c.with_founder.ensures c.write_group.ensures in
    record { code = both.0; bytes = both.1 }
