use Rattle.std.proofs.Common.{◌≡◌, ◌++◌, ◌∙◌, ap, sym, length, take, length-take, arith}
use Rattle.format.specs.Layout.{image_size}
use Rattle.text.specs.Text.{refused_text}
use Rattle.program.proofs.Inputs.{input_one, input_two, input_other}
use Rattle.program.proofs.put_program.Goals as goal

pub returns-then-input-eq-IMAGE_SIZE-clause-text : goal.returns-then-input-eq-IMAGE_SIZE-clause-text
returns-then-input-eq-IMAGE_SIZE-clause-text g c = c.put_image.ensures.text ∙ ap (λ t. c.args.text.now ++ t) (input_one c.args.input.now c.if-input-eq-IMAGE_SIZE.true)

pub slice_bounds-copy_from_slice-end-then-input : goal.slice_bounds-copy_from_slice-end-then-input
slice_bounds-copy_from_slice-end-then-input g c = let z : length (take image_size c.args.input.now) ≡ image_size = simp length-take (omega arith) in sym z

pub copy_from_slice-requires : goal.copy_from_slice-requires
copy_from_slice-requires g c = simp length-take (omega arith)

pub returns-then-input-clause-text : goal.returns-then-input-clause-text
returns-then-input-clause-text g c =
    let both = input_two c.args.input.now c.if-input-eq-IMAGE_SIZE.false c.if-input.true in
    rw c.copy_from_slice.ensures.after at c.put_joined.ensures.text ∙ ap (λ t. c.args.text.now ++ t) both

pub returns-clause-text : goal.returns-clause-text
returns-clause-text g c = c.put_refused.ensures.text ∙ ap (λ t. c.args.text.now ++ t) (ap refused_text c.number.ensures ∙ input_other c.args.input.now c.if-input-eq-IMAGE_SIZE.false c.if-input.false)
