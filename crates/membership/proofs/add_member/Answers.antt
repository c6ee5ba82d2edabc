use Rattle.std.proofs.Common.{◌∙◌, arith}
use Rattle.rules.specs.Action.{add}
use Rattle.rules.specs.Tests.{eight_at}
use Rattle.kinds.proofs.Seen.{refuses}
use Rattle.membership.proofs.Kind2.{ruled_is, adds, even}
use Rattle.membership.proofs.add_member.Goals as goal

pub returns-in_err-may_add : goal.returns-in_err-may_add
returns-in_err-may_add c =
    let b = c.args.image.now in
    let r = ruled_is b c.requires.3 c.args.actor c.args.other c.args.group c.requires.1 c.requires.2 _ c.counters_of-g.ensures in
    let both = refuses b (add c.args.actor c.args.other c.args.group) _ _ c.from_residual.ensures.1 (c.in_err-may_add.ensures ∙ r) in
    record { code = both.0; bytes = both.1 }

pub overflow_add-theirs : goal.overflow_add-theirs
overflow_add-theirs c =
    let odd = even (eight_at c.counters_of-g.result.counters) c.args.actor c.args.other c.in_ok-may_add.ensures in omega arith

pub returns : goal.returns
returns c =
    let both = adds c.args.image.now c.requires.3 c.args.actor c.args.other c.args.group c.requires.1 c.requires.2 _ c.counters_of-g.ensures c.in_ok-may_add.ensures _ _ c.with_counter.ensures c.write_group.ensures in
    record { code = both.0; bytes = both.1 }
