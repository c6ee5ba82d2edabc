use Rattle.parts.proofs.Parts.{ranks_are}
use Rattle.parts.specs.Parts.{ranks_from}
use Rattle.rules.specs.Ledger.{member_in}
use Rattle.rules.specs.Tests.{eight_at}
use Rattle.parts.proofs.ranks_of.Goals as goal

pub returns : goal.returns
unfolding ranks_from
returns c = ranks_are (member_in (eight_at c.args.f)) _ _ _ _ _ _ _ c.one_member-r1.ensures.0 c.one_member.ensures.0 c.one_member-2.ensures.0 c.one_member-3.ensures.0 c.one_member-4.ensures.0 c.one_member-5.ensures.0 c.one_member-6.ensures.0
