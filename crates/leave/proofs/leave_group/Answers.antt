use Rattle.std.proofs.Common.{sym, ap, not, ◌∙◌, arith}
use Rattle.rules.specs.Action.{leave}
use Rattle.images.specs.Image.{decode}
use Rattle.rules.specs.Tests.{eight_at}
use Rattle.kinds.proofs.Seen.{refuses}
use Rattle.leave.proofs.Kind3.{absent_10, outside_11, stays_is, leaves, room}
use Rattle.leave.proofs.leave_group.Goals as goal

pub returns-then-nobody_in : goal.returns-then-nobody_in
returns-then-nobody_in c =
    let both = absent_10 c.args.image.now c.requires.2 c.args.actor c.args.group c.requires.0 c.requires.1 _ c.counters_of-g.ensures (sym c.nobody_in.ensures ∙ c.if-nobody_in.true) in
    record { code = both.0; bytes = both.1 }

pub returns-then-not-is_member : goal.returns-then-not-is_member
returns-then-not-is_member c =
    let both = outside_11 c.args.image.now c.requires.2 c.args.actor c.args.group c.requires.0 c.requires.1 _ c.counters_of-g.ensures (sym c.nobody_in.ensures ∙ c.if-nobody_in.false) (ap not (sym c.is_member.ensures ∙ c.if-not-is_member.true)) in
    record { code = both.0; bytes = both.1 }

pub returns-in_err-member_refusal : goal.returns-in_err-member_refusal
returns-in_err-member_refusal c =
    let b = c.args.image.now in
    let r = stays_is b c.requires.2 c.args.actor c.args.group c.requires.0 c.requires.1 _ c.counters_of-g.ensures (sym c.nobody_in.ensures ∙ c.if-nobody_in.false) (ap not (sym c.is_member.ensures ∙ c.if-not-is_member.false)) in
    let both = refuses b (leave c.args.actor c.args.group) _ _ c.from_residual.ensures.1 (c.in_err-member_refusal.ensures ∙ r) in
    record { code = both.0; bytes = both.1 }

pub overflow_add-mine : goal.overflow_add-mine
overflow_add-mine c =
    let k = room (decode c.args.image.now) (eight_at c.counters_of-g.result.counters) c.args.actor c.args.group c.in_ok-member_refusal.ensures in omega arith

pub returns : goal.returns
returns c =
    let both = leaves c.args.image.now c.requires.2 c.args.actor c.args.group c.requires.0 c.requires.1 _ c.counters_of-g.ensures (sym c.nobody_in.ensures ∙ c.if-nobody_in.false) (ap not (sym c.is_member.ensures ∙ c.if-not-is_member.false)) c.in_ok-member_refusal.ensures _ _ c.with_counter.ensures c.write_group.ensures in
    record { code = both.0; bytes = both.1 }
