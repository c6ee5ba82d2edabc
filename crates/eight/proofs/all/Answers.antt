use Rattle.std.proofs.Common.{◌≡◌, refl, subst, rules}
use Rattle.std.proofs.lemmas.Fn.{fold_over, slice_gives, fronts}
use Rattle.rules.specs.Tests.{all_of}
use Rattle.eight.proofs.Eight.{one_more}
use Rattle.eight.proofs.all.Goals as goal

pub returns : goal.returns
unfolding all_of
returns g c = subst (λ l. c.fold.result ≡ all_of l) c.iter.ensures.rest
    (fold_over fronts (λ y. y.now) _ (λ ys held. held ≡ all_of ys) _ (λ ys a x b f' j k. let more = one_more ys x.now in search rules)
    _ _ _ _ (slice_gives c.iter.result) refl c.fold.ensures.ran)
