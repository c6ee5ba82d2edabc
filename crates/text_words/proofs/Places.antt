-- Texts put into a lent buffer: one copied there, and one put behind another.
use Rattle.std.proofs.Common.{◌≡◌, refl, sym, ap, ◌∙◌, ℕ, ◌+◌, ◌-◌, ◌≤◌, ◌++◌, length, append_assoc, length-append, arith}
use borrow.Rule.Slice.PartMut.{put_mid}
use lib.Seq.{drop-drop, sets, sets-eq}
use Rattle.format.specs.Bytes.{Bytes}
use Rattle.format.proofs.Laws.{add_sub, sets_append}
use Rattle.text_words.specs.Put.{Put}

-- A part of the buffer overwritten by bytes of its length.
pub copied : (out bytes : Bytes) (at : ℕ) → at + length bytes ≤ length out → put_mid at ((at + length bytes) - at) out bytes ≡ sets out at bytes
copied out bytes at h = rw (add_sub, drop-drop) (sym (sets-eq bytes out at h ∙ rw append_assoc refl))

-- One text, then another.
pub then : {out mid after x y : Bytes} {at next last : ℕ} → Put out at x mid next → Put mid next y after last → Put out at (x ++ y) after last
then {out} {mid} {after} {x} {y} {at} {next} {last} p q = record {
  left = q.left ∙ (λ i. sets (p.left i) (p.behind i) y) ∙ sym (sets_append x y out at);
  behind = q.behind ∙ (let z = p.behind in let w = length-append x y in omega arith);
}

-- The same text.
pub same_text : {out after x y : Bytes} {at next : ℕ} → x ≡ y → Put out at x after next → Put out at y after next
same_text {out} {after} {x} {y} {at} {next} e p = record { left = p.left ∙ ap (sets out at) e; behind = p.behind ∙ ap (λ t. at + length t) e }
