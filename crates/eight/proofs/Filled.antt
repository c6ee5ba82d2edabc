-- A loop that fills a list from the front: what it is to hold is what it holds below the place reached, and behind it what the definition gives of the rest. And
-- a signed number on its way through an array.
use Rattle.std.proofs.Common.{◌≡◌, sym, ◌∙◌, ap, ap₂, List, [], ◌∷◌, ◌++◌, map, append_assoc, append-nil, ℕ, ◌+◌, ◌<◌, ◌^◌, arith, add-one, ℤ, length, get_or, set, take, drop, drop_of_length-le, drop-cons, take-suc-set, take_all, w64, to_z, of_z, to_z-of_z}
use borrow.Author.Rules.{sfits_of}
use lib.Signed.{mag}

-- The next element, and the last.
module _ {A : Type 0} (s r : List A) (u : ℕ) where
  pub next : (y : A) (t t' : List A) → u < length r → t ≡ y ∷ t' → s ≡ take u r ++ t → s ≡ take (u + 1) (set r u y) ++ t'
  next y t t' k e h = h ∙ ap (λ x. take u r ++ x) e ∙ sym (rw add-one (ap (λ x. x ++ t') (take-suc-set r u y k) ∙ append_assoc (take u r) (y ∷ []) t'))

  pub last : (t : List A) → length r ≡ u → t ≡ [] → s ≡ take u r ++ t → r ≡ s
  last t k e h = sym (h ∙ ap₂ (λ x y. x ++ y) (take_all u r (omega arith)) e ∙ append-nil r)

-- A function of each element.
module _ {A B : Type 0} (f : A → B) (b : List A) (u : ℕ) where
  pub mapped_next : (d : A) (y : B) → u < length b → y ≡ f (get_or b u d) → map f (drop u b) ≡ y ∷ map f (drop (u + 1) b)
  mapped_next d y k e = rw (add-one, e) (ap (map f) (drop-cons b u d k))

  pub mapped_last : length b ≡ u → map f (drop u b) ≡ []
  mapped_last k = ap (map f) (drop_of_length-le b {i = u} (omega arith))

-- A signed number that is read from an array and passed on is read back from its bits.
pub read_back : (z : ℤ) → mag z < 2 ^ 63 → to_z w64 (of_z w64 z) ≡ z
read_back z h = to_z-of_z {w = w64} (sfits_of {w = w64} {z = z} h)
