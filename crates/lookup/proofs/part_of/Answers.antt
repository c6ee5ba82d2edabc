use Rattle.lookup.proofs.There.{there_whole, place_there, no_part, no_place}
use Rattle.lookup.proofs.part_of.Goals as goal

pub returns-in_default : goal.returns-in_default
returns-in_default c = record { place = no_place _ _ c.in_default.ensures; part = no_part _ _ c.in_default.ensures }

pub returns : goal.returns
returns c = record { place = place_there c.args.image.now c.args.expense _ c.in-Some.ensures; part = there_whole c.args.image.now c.args.expense _ c.in-Some.ensures }
