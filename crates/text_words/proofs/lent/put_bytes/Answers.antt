use Rattle.std.proofs.Common.{refl, ap, ◌∙◌, ◌+◌, ◌-◌, length}
use borrow.Rule.Slice.PartMut.{put_mid}
use Rattle.text_words.proofs.Places.{copied}
use Rattle.text_words.proofs.lent.put_bytes.Goals as goal

pub returns : goal.returns
returns c =
    let a = c.args in
    record { left = ap (put_mid a.at ((a.at + length a.bytes.now) - a.at) a.out.now) c.copy_from_slice.ensures.after ∙ copied a.out.now a.bytes.now a.at c.requires; behind = refl }
