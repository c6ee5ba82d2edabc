use Rattle.std.proofs.Common.{◌∙◌, arith}
use Rattle.raise.proofs.Raised.{buffer_length, no_older, left_alone}
use Rattle.raise.proofs.raise.Goals as goal

pub returns-in_default : goal.returns-in_default
returns-in_default c =
    let e = buffer_length c.args.old.now c.args.image.now c.in_default.ensures.cases in
    record { code = e; bytes = left_alone c.args.old.now c.args.image.now 1 e (λ z. omega arith) }

pub returns-in-Some-as_array : goal.returns-in-Some-as_array
returns-in-Some-as_array c =
    let old = c.in-Some-as_array.ensures.cases.same in
    let image = c.in-Some.ensures.cases.same in
    let both = rw (old, image) at c.raise_1.ensures in
    record { code = both.code; bytes = both.bytes }

pub returns-in-Some-as_array-2 : goal.returns-in-Some-as_array-2
returns-in-Some-as_array-2 c =
    let old = c.in-Some-as_array-2.ensures.cases.same in
    let image = c.in-Some.ensures.cases.same in
    let both = rw (old, image) at c.raise_2.ensures in
    record { code = both.code; bytes = both.bytes }

pub returns : goal.returns
returns c =
    let e = no_older c.args.old.now c.args.image.now c.in_default-as_array.ensures.cases c.in_default-as_array-2.ensures.cases in
    record { code = e; bytes = c.in-Some.ensures.cases.same ∙ left_alone c.args.old.now c.args.image.now 1 e (λ z. omega arith) }
