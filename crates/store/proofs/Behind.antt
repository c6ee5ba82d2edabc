-- Bytes written behind bytes just written: a record's fields, one behind the other, are its bytes.
use Rattle.std.proofs.Common.{◌≡◌, sym, ap, ◌∙◌, List, [], ◌∷◌, ◌++◌, ℕ, ◌+◌, length, get_or}
use Rattle.std.proofs.lemmas.List.Edits.{sets}
use Rattle.format.specs.declared.ExpenseRecord.{ExpenseRecord}
use Rattle.format.specs.declared.GroupRecord.{GroupRecord}
use Rattle.format.specs.Bytes.{Bytes, le16, le32, share_bytes, counter_bytes, forty_of, bytes_in, bytes_of, group_bytes_in, group_bytes_of}
use Rattle.format.proofs.Laws.{sets_append}

pub wrote_behind : (x y : Bytes) (at : ℕ) (s : Bytes) {t u : Bytes} → t ≡ sets s at x → u ≡ sets t (at + length x) y → u ≡ sets s at (x ++ y)
wrote_behind x y at s p q = q ∙ ap (λ l. sets l (at + length x) y) p ∙ sym (sets_append x y s at)

pub four_behind : (w x y z : Bytes) (at : ℕ) (s : Bytes) {t u v r : Bytes} → t ≡ sets s at w → u ≡ sets t (at + length w) x
    → v ≡ sets u (at + length (w ++ x)) y → r ≡ sets v (at + length ((w ++ x) ++ y)) z → r ≡ sets s at (((w ++ x) ++ y) ++ z)
four_behind w x y z at s p q k m = wrote_behind ((w ++ x) ++ y) z at s (wrote_behind (w ++ x) y at s (wrote_behind w x at s p q) k) m

pub shares_behind : (s : List ℕ) (p : Bytes) {t u : Bytes} → t ≡ sets p 8 (le32 (get_or s 0 0) ++ le32 (get_or s 1 0) ++ le32 (get_or s 2 0) ++ le32 (get_or s 3 0))
    → u ≡ sets t 24 (le32 (get_or s 4 0) ++ le32 (get_or s 5 0) ++ le32 (get_or s 6 0) ++ le32 (get_or s 7 0)) → u ≡ sets p 8 (share_bytes s)
shares_behind s p = wrote_behind (le32 (get_or s 0 0) ++ le32 (get_or s 1 0) ++ le32 (get_or s 2 0) ++ le32 (get_or s 3 0)) (le32 (get_or s 4 0) ++ le32 (get_or s 5 0) ++ le32 (get_or s 6 0) ++ le32 (get_or s 7 0)) 8 p

pub counters_behind : (s : List ℕ) (p : Bytes) {t u : Bytes} → t ≡ sets p 0 (le16 (get_or s 0 0) ++ le16 (get_or s 1 0) ++ le16 (get_or s 2 0) ++ le16 (get_or s 3 0))
    → u ≡ sets t 8 (le16 (get_or s 4 0) ++ le16 (get_or s 5 0) ++ le16 (get_or s 6 0) ++ le16 (get_or s 7 0)) → u ≡ sets p 0 (counter_bytes s)
counters_behind s p = wrote_behind (le16 (get_or s 0 0) ++ le16 (get_or s 1 0) ++ le16 (get_or s 2 0) ++ le16 (get_or s 3 0)) (le16 (get_or s 4 0) ++ le16 (get_or s 5 0) ++ le16 (get_or s 6 0) ++ le16 (get_or s 7 0)) 0 p

pub expense_behind : (e : ExpenseRecord) (p : Bytes) {t u v r : Bytes} → t ≡ sets p 0 (e.payer ∷ e.group ∷ e.deleted ∷ e.acknowledged ∷ [])
    → u ≡ sets t 4 (le32 e.version) → v ≡ sets u 8 (share_bytes e.shares) → r ≡ sets v 40 (le16 e.day) → r ≡ sets p 0 (bytes_of e)
unfolding bytes_in forty_of
expense_behind e p = four_behind (e.payer ∷ e.group ∷ e.deleted ∷ e.acknowledged ∷ []) (le32 e.version) (share_bytes e.shares) (le16 e.day) 0 p

pub group_behind : (g : GroupRecord) (p : Bytes) {t u : Bytes} → t ≡ sets p 0 (counter_bytes g.counters) → u ≡ sets t 16 (le16 g.rule) → u ≡ sets p 0 (group_bytes_of g)
unfolding group_bytes_in
group_behind g p = wrote_behind (counter_bytes g.counters) (le16 g.rule) 0 p
