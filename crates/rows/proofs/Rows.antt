-- Eight records at one look: a test of each from tests of all, and eight words or'ed together.
use Rattle.std.proofs.Common.{◌≡◌, ℕ, ◌+◌, ◌*◌, ◌≤◌, ◌<◌, Bool, true, false, ◌&&◌, ◌||◌, eqb, length, length-take, length-drop, refl, sym, ap, ◌∙◌, inl, inr, arith, add-zero, add-one, bit_or}
use Rattle.format.specs.Layout.{expense_count}
use Rattle.format.specs.Bytes.{Bytes, expense_of}
use Rattle.rules.specs.Tests.{all_of, every8, every_below, some_below}
use Rattle.rules.proofs.Basics.{and_left, and_right, bool_path}
use Rattle.rules.proofs.Accepted.{every_8, every_below_lem}
use Rattle.rules.proofs.Sound.{of_every8, of_every_below}
use Rattle.rules.proofs.Below.{all_none}
use Rattle.fields.specs.Fields.{Sized, among, blank_head, blank_tail, absent_record}
use Rattle.fields.proofs.Words.{or_zero_b, absent_is}

-- Where an expense of either size stands among all, and that it ends inside.
pub inside : (n c : ℕ) → Sized n → c < expense_count → (c * n + n ≤ expense_count * n) × (expense_count * n ≤ 21_504)
inside n c (inl e) k = rw e (omega arith, omega arith)
inside n c (inr e) k = rw e (omega arith, omega arith)

pub part_sized : (n c : ℕ) (s : Bytes) → Sized n → c < expense_count → length s ≡ expense_count * n → length (among n s c) ≡ n
part_sized n c s h k e = let z = inside n c h k in simp (length-take, length-drop) (omega arith)

-- A test of all numbers below a bound, as a loop goes through them, up to the eight below 8; and of one of four.
pub every_none : (f : ℕ → Bool) → true ≡ every_below 0 f
every_none f = sym (all_none f)

pub every_next : (n : ℕ) (f : ℕ → Bool) {a b : Bool} → a ≡ every_below n f → b ≡ f n → (a && b) ≡ every_below (n + 1) f
unfolding every_below
every_next n f ea eb = rw (add-one, ea, eb)

pub every_eight : (n : ℕ) (f : ℕ → Bool) {a : Bool} → n ≡ 8 → a ≡ every_below n f → a ≡ every8 f
every_eight n f z e =
    e ∙ ap (λ m. every_below m f) z ∙ bool_path _ _ (λ t. of_every8 f (every_below_lem 8 f t)) (λ t. of_every_below 8 f (every_8 f t))

-- The first of a row tells that not all hold, or is one that does.
pub row_broken : (f : ℕ → Bool) (n : ℕ) → f n ≡ false → false ≡ every8 (λ i. f (n + i))
unfolding every8 all_of
row_broken f n z = rw (ap f (add-zero n) ∙ z)

pub row_begun : (f : ℕ → Bool) (n : ℕ) → f n ≡ true → true ≡ every_below 1 (λ i. f (n + i))
row_begun f n z = every_next 0 (λ i. f (n + i)) (every_none _) (sym (ap f (add-zero n) ∙ z))

pub some_none : (f : ℕ → Bool) → false ≡ some_below 0 f
unfolding some_below
some_none f = refl

pub some_next : (n : ℕ) (f : ℕ → Bool) {a b : Bool} → a ≡ some_below n f → b ≡ f n → (a || b) ≡ some_below (n + 1) f
unfolding some_below
some_next n f ea eb = rw (add-one, ea, eb)

pub some_four : (n m : ℕ) (f : ℕ → Bool) {a : Bool} → n ≡ 4 → a ≡ some_below n (λ i. f (m + i)) → a ≡ (f m || f (m + 1) || f (m + 2) || f (m + 3))
unfolding some_below
some_four n m f z e = e ∙ ap (λ k. some_below k (λ i. f (m + i))) z ∙ ap (λ k. f k || f (m + 1) || f (m + 2) || f (m + 3)) (add-zero m)

-- The words so far, or'ed together.
pub words_next : (n : ℕ) (f : ℕ → Bool) (a b : ℕ) → eqb a 0 ≡ every_below n f → eqb b 0 ≡ f n → eqb (bit_or a b) 0 ≡ every_below (n + 1) f
words_next n f a b ea eb = or_zero_b a b ∙ every_next n f ea eb

-- All heads and all that stands behind them are all records.
pub row_absent : (f g h : ℕ → Bool) → ((i : ℕ) → (f i && g i) ≡ h i) → (every8 f && every8 g) ≡ every8 h
row_absent f g h q = bool_path _ _
    (λ e. of_every8 _ (λ u k. sym (q u) ∙ rw (every_8 f (and_left (every8 f) (every8 g) e) u k, every_8 g (and_right (every8 f) (every8 g) e) u k)))
    (λ e. rw (of_every8 f (λ u k. and_left (f u) (g u) (q u ∙ every_8 h e u k)), of_every8 g (λ u k. and_right (f u) (g u) (q u ∙ every_8 h e u k))))

pub absent_row : (m : ℕ) (b : Bytes) (n : ℕ) → (every8 (λ i. blank_head (expense_of (among m b (n + i)))) && every8 (λ i. blank_tail (expense_of (among m b (n + i)))))
    ≡ every8 (λ i. absent_record (expense_of (among m b (n + i))))
absent_row m b n = row_absent _ _ _ (λ i. absent_is (expense_of (among m b (n + i))))
