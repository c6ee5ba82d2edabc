-- Kind 3's refusals of a member, which need the sums of the group: 13, 34 and 14, in this order.
use Rattle.std.specs.Prelude.{Bool, List, [], ◌∷◌}
use Rattle.rules.specs.Tests.{Check}

abbrev pub member_checks : (owes waits last : Bool) → List Check
member_checks o w l = (o, 13) ∷ (w, 34) ∷ (l, 14) ∷ []
