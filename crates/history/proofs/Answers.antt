-- Demand 1: every call answers one of its numbers, and a refused call leaves what was lent.
-- The answer is the first of a list of checks (rules, Tests), and that the list's numbers are among those written is a test that computes.
use mathlib.Core.Path.{◌≡◌, refl, sym, ap, ◌∙◌}
use mathlib.Core.Bool.{Bool, true, false, cond, ◌&&◌, ◌||◌}
use mathlib.Core.Option.{Option, none, some}
use mathlib.Core.Logic.{◌≢◌, ⊎_elim}
use mathlib.Core.List.Memᴰ
use mathlib.Core.List.{List, [], ◌∷◌, Memᴰ}
use Prim.Native.Nat.{ℕ}
use lib.Dec.{T, eqb}
use lib.IntN.{ℤ}
use lib.ListN.{length}
use Rattle.format.specs.Layout.{Version, image_size_in}
use Rattle.format.specs.Bytes.{Bytes}
use Rattle.format.specs.declared.Line.{Line}
use Rattle.rules.specs.Tests.{every8, Check, first}
use Rattle.rules.specs.Ledger.{Ledger}
use Rattle.rules.specs.Action.{Action, found, add, leave, enter, put_in, take_out, change, delete, acknowledge, absorb}
use Rattle.rules.specs.Refusal.{checks, answer}
use Rattle.rules.specs.Merge.{merge_answer}
use Rattle.images.specs.Image.{decode_in, replica_of, home_of, image_check_in}
use Rattle.images.specs.Record.{read_action_in}
use Rattle.images.specs.Calls.{or_else, empty_answer_in, empty_image_in, act_answer_in, act_image_in, other_answer, merge_images_answer_in, merge_images_in, refused_totals, statement_answer_in, statement_totals_in, statement_lines_in, payments_answer_in, payments_cents_in, month_answer_in, month_raws_in, balances_answer_in, balances_left_in, older_by, raise_answer_from, raise_answer_in, raise_image_in}
use Rattle.rules.proofs.Basics.{true_T, T_true, clash, Same, same, other, same?, and_left, and_right}
use Rattle.rules.proofs.Sound.{eqb_other}
use Rattle.images.proofs.Together.{totals_answer}
use Rattle.history.specs.Answers.{empty_numbers, check_numbers, act_numbers, merge_numbers, raise_numbers, statement_numbers, payments_numbers, month_numbers, balances_numbers, all_numbers, Answers}

-- A number is in a list, as a test, and so are the numbers of a list of checks, and 0.
abbrev within : ℕ → List ℕ → Bool
within k [] = false
within k (n ∷ ns) = eqb k n || within k ns

abbrev covers : List ℕ → List ℕ → Bool
covers [] ns = true
covers (k ∷ ks) ns = within k ns && covers ks ns

abbrev numbers_of : List Check → List ℕ
numbers_of [] = 0 ∷ []
numbers_of (k ∷ ks) = k.1 ∷ numbers_of ks

within_in : (k : ℕ) (ns : List ℕ) → within k ns ≡ true → Memᴰ k ns
within_in k [] e = absurd (true_T e)
within_in k (n ∷ ns) e = go (same? k n) (λ z. within_in k ns z)
  where
    go : Same k n → (within k ns ≡ true → Memᴰ k ns) → Memᴰ k (n ∷ ns)
    go (same p q) ih = Memᴰ.head p
    go (other p q) ih = Memᴰ.tail (ih (rw q at e))

first_in : (ks : List Check) (ns : List ℕ) → T (covers (numbers_of ks) ns) → Memᴰ (first ks) ns
unfolding first
first_in [] ns t = within_in 0 ns (and_left (within 0 ns) true (T_true _ t))
first_in (k ∷ ks) ns t = go k.0 (first_in ks ns (true_T (and_right (within k.1 ns) (covers (numbers_of ks) ns) (T_true _ t))))
  where
    go : (b : Bool) → Memᴰ (first ks) ns → Memᴰ (cond b k.1 (first ks)) ns
    go true m = within_in k.1 ns (and_left (within k.1 ns) (covers (numbers_of ks) ns) (T_true _ t))
    go false m = m

widen : {k : ℕ} (ks ns : List ℕ) → T (covers ks ns) → Memᴰ k ks → Memᴰ k ns
widen [] ns t m = elim m [ ]
widen {k} (n ∷ ks) ns t m =
    ⊎_elim
    (λ e. rw e (within_in n ns (and_left (within n ns) (covers ks ns) (T_true _ t))))
    (λ d. widen ks ns (true_T (and_right (within n ns) (covers ks ns) (T_true _ t))) d)
    (Memᴰ.cases_cons m)

-- One test before another.
or_else_in : (k n : ℕ) (ns : List ℕ) → Memᴰ k (0 ∷ ns) → Memᴰ n ns → Memᴰ (or_else k n) ns
or_else_in k n ns i j = go (same? k 0)
  where
    go : Same k 0 → Memᴰ (or_else k n) ns
    go (same p q) = rw q j
    go (other p q) = rw q (⊎_elim (λ e. absurd (p e)) (λ m. m) (Memᴰ.cases_cons i))

check_in : (v : Version) (b : Bytes) → Memᴰ (image_check_in v b) check_numbers
unfolding image_check_in
check_in v b = first_in _ check_numbers tt

-- An action, by its kind.
ruled_in : (home : ℕ → ℕ) (r : ℕ) (o : Option Action) (l : Ledger) → Memᴰ (answer home r o l) (act_numbers o)
unfolding answer checks
ruled_in home r none l = within_in 6 (act_numbers none) refl
ruled_in home r (some (found a g k)) l = first_in _ (act_numbers (some (found a g k))) tt
ruled_in home r (some (add a o g)) l = first_in _ (act_numbers (some (add a o g))) tt
ruled_in home r (some (leave a g)) l = first_in _ (act_numbers (some (leave a g))) tt
ruled_in home r (some (enter a c s day)) l = first_in _ (act_numbers (some (enter a c s day))) tt
ruled_in home r (some (put_in a g c)) l = first_in _ (act_numbers (some (put_in a g c))) tt
ruled_in home r (some (take_out a g c)) l = first_in _ (act_numbers (some (take_out a g c))) tt
ruled_in home r (some (change a c s day)) l = first_in _ (act_numbers (some (change a c s day))) tt
ruled_in home r (some (delete a c)) l = first_in _ (act_numbers (some (delete a c))) tt
ruled_in home r (some (acknowledge a c)) l = first_in _ (act_numbers (some (acknowledge a c))) tt
ruled_in home r (some (absorb a o c)) l = first_in _ (act_numbers (some (absorb a o c))) tt

-- 20 is no number of any call.
lacks : (k : ℕ) (ns : List ℕ) → within k ns ≡ false → ¬ Memᴰ k ns
lacks k [] e m = elim m [ ]
lacks k (n ∷ ns) e m = go (same? k n) (λ z. lacks k ns z)
  where
    go : Same k n → (within k ns ≡ false → ¬ Memᴰ k ns) → ⊥
    go (same p q) ih = clash (rw q) e
    go (other p q) ih = ⊎_elim p (ih (rw q at e)) (Memᴰ.cases_cons m)

no_20 : (o : Option Action) → ¬ Memᴰ 20 (all_numbers o)
no_20 none = lacks 20 (all_numbers none) refl
no_20 (some (found a g k)) = lacks 20 (all_numbers (some (found a g k))) refl
no_20 (some (add a o g)) = lacks 20 (all_numbers (some (add a o g))) refl
no_20 (some (leave a g)) = lacks 20 (all_numbers (some (leave a g))) refl
no_20 (some (enter a c s day)) = lacks 20 (all_numbers (some (enter a c s day))) refl
no_20 (some (put_in a g c)) = lacks 20 (all_numbers (some (put_in a g c))) refl
no_20 (some (take_out a g c)) = lacks 20 (all_numbers (some (take_out a g c))) refl
no_20 (some (change a c s day)) = lacks 20 (all_numbers (some (change a c s day))) refl
no_20 (some (delete a c)) = lacks 20 (all_numbers (some (delete a c))) refl
no_20 (some (acknowledge a c)) = lacks 20 (all_numbers (some (acknowledge a c))) refl
no_20 (some (absorb a o c)) = lacks 20 (all_numbers (some (absorb a o c))) refl

act_in : (v : Version) (b x : Bytes) → Memᴰ (act_answer_in v b x) (act_numbers (read_action_in v x))
unfolding act_answer_in
act_in v b x = or_else_in (image_check_in v b) _ (act_numbers (read_action_in v x)) (checked (read_action_in v x)) (ruled_in (home_of b) (replica_of b) (read_action_in v x) (decode_in v b))
  where
    checked : (o : Option Action) → Memᴰ (image_check_in v b) (0 ∷ act_numbers o)
    checked none = widen check_numbers (0 ∷ act_numbers none) tt (check_in v b)
    checked (some a) = widen check_numbers (0 ∷ act_numbers (some a)) tt (check_in v b)

-- A merge.
abbrev others : List ℕ → List ℕ
others [] = []
others (k ∷ ks) = other_answer k ∷ others ks

other_in_lem : {k : ℕ} {ns : List ℕ} → Memᴰ k ns → Memᴰ (other_answer k) (others ns)
other_in_lem (Memᴰ.head e) = Memᴰ.head (ap other_answer e)
other_in_lem (Memᴰ.tail m) = Memᴰ.tail (other_in_lem m)

agreed_in : (l m : Ledger) (t : Bool) → Memᴰ (cond t (merge_answer l m) 30) merge_numbers
unfolding merge_answer
agreed_in l m true = first_in _ merge_numbers tt
agreed_in l m false = within_in 30 merge_numbers refl

merge_in : (v : Version) (b d : Bytes) → Memᴰ (merge_images_answer_in v b d) merge_numbers
unfolding merge_images_answer_in
merge_in v b d =
    or_else_in (image_check_in v b) _ merge_numbers (widen check_numbers (0 ∷ merge_numbers) tt (check_in v b))
    (or_else_in (other_answer (image_check_in v d)) _ merge_numbers (widen (others check_numbers) (0 ∷ merge_numbers) tt (other_in_lem (check_in v d)))
    (agreed_in (decode_in v b) (decode_in v d) (every8 (λ u. eqb (home_of b u) (home_of d u)))))

-- A raising.
raise_in : (v : Version) (b d : Bytes) → Memᴰ (raise_answer_in v b d) raise_numbers
unfolding raise_answer_in
raise_in v b d = go (older_by v (length b))
  where
    sized : (w : Version) (t : Bool) → Memᴰ (cond t (image_check_in w b) 1) raise_numbers
    sized w true = check_in w b
    sized w false = within_in 1 raise_numbers refl

    go : (o : Option Version) → Memᴰ (raise_answer_from v o b (length d)) raise_numbers
    go none = within_in 1 raise_numbers refl
    go (some w) = sized w (eqb (length d) (image_size_in v))

-- A statement.
statement_in : (v : Version) (b : Bytes) (g n : ℕ) → Memᴰ (statement_totals_in v b g n).answer statement_numbers
unfolding statement_answer_in
statement_in v b g n = rw (totals_answer v b g n) (or_else_in (image_check_in v b) _ statement_numbers (widen check_numbers (0 ∷ statement_numbers) tt (check_in v b)) (first_in _ statement_numbers tt))

-- A list of who pays whom.
payments_in_lem : (v : Version) (b : Bytes) (g n : ℕ) → Memᴰ (payments_answer_in v b g n) payments_numbers
unfolding payments_answer_in
payments_in_lem v b g n = or_else_in (image_check_in v b) _ payments_numbers (widen check_numbers (0 ∷ payments_numbers) tt (check_in v b)) (first_in _ payments_numbers tt)

month_in : (v : Version) (b : Bytes) (g m n : ℕ) → Memᴰ (month_answer_in v b g m n) month_numbers
unfolding month_answer_in
month_in v b g m n = or_else_in (image_check_in v b) _ month_numbers (widen check_numbers (0 ∷ month_numbers) tt (check_in v b)) (first_in _ month_numbers tt)

balances_in_lem : (v : Version) (b : Bytes) (n : ℕ) → Memᴰ (balances_answer_in v b n) balances_numbers
unfolding balances_answer_in
balances_in_lem v b n = or_else_in (image_check_in v b) _ balances_numbers (widen check_numbers (0 ∷ balances_numbers) tt (check_in v b)) (first_in _ balances_numbers tt)

empty_in : (v : Version) (b : Bytes) (r : ℕ) (homes : List ℕ) → Memᴰ (empty_answer_in v b r homes) empty_numbers
unfolding empty_answer_in
empty_in v b r homes = first_in _ empty_numbers tt

-- What a refusal leaves.
module _ (v : Version) (b : Bytes) where
  empty_leaves : (r : ℕ) (homes : List ℕ) → empty_answer_in v b r homes ≢ 0 → empty_image_in v b r homes ≡ b
  unfolding empty_image_in
  empty_leaves r homes n = rw (eqb_other (empty_answer_in v b r homes) 0 n)

  act_leaves : (x : Bytes) → act_answer_in v b x ≢ 0 → act_image_in v b x ≡ b
  unfolding act_image_in
  act_leaves x n = rw (eqb_other (act_answer_in v b x) 0 n)

  merge_leaves : (d : Bytes) → merge_images_answer_in v b d ≢ 0 → merge_images_in v b d ≡ b
  unfolding merge_images_in
  merge_leaves d n = rw (eqb_other (merge_images_answer_in v b d) 0 n)

  raise_leaves : (d : Bytes) → raise_answer_in v b d ≢ 0 → raise_image_in v b d ≡ d
  unfolding raise_image_in
  raise_leaves d n = rw (eqb_other (raise_answer_in v b d) 0 n)

  payments_leaves : (g : ℕ) (cents : List ℕ) → payments_answer_in v b g (length cents) ≢ 0 → payments_cents_in v b g cents ≡ cents
  unfolding payments_cents_in
  payments_leaves g cents n = rw (eqb_other (payments_answer_in v b g (length cents)) 0 n)

  month_leaves : (g m : ℕ) (raws : List ℤ) → month_answer_in v b g m (length raws) ≢ 0 → month_raws_in v b g m raws ≡ raws
  unfolding month_raws_in
  month_leaves g m raws n = rw (eqb_other (month_answer_in v b g m (length raws)) 0 n)

  balances_leaves : (balances : List ℤ) → balances_answer_in v b (length balances) ≢ 0 → balances_left_in v b balances ≡ balances
  unfolding balances_left_in
  balances_leaves balances n = rw (eqb_other (balances_answer_in v b (length balances)) 0 n)

  refused : (g : ℕ) (lines : List Line) → (statement_totals_in v b g (length lines)).answer ≢ 0 → eqb (statement_answer_in v b g (length lines)) 0 ≡ false
  refused g lines n = eqb_other (statement_answer_in v b g (length lines)) 0 (λ e. n (totals_answer v b g (length lines) ∙ e))

  lines_left : (g : ℕ) (lines : List Line) → (statement_totals_in v b g (length lines)).answer ≢ 0 → statement_lines_in v b g lines ≡ lines
  unfolding statement_lines_in
  lines_left g lines n = rw (refused g lines n)

  totals_zero : (g : ℕ) (lines : List Line) → (statement_totals_in v b g (length lines)).answer ≢ 0 → statement_totals_in v b g (length lines) ≡ refused_totals (statement_answer_in v b g (length lines))
  unfolding statement_totals_in
  totals_zero g lines n = rw (refused g lines n)

pub answers : Answers
answers = record {
  empty = empty_in;
  check = check_in;
  act = act_in;
  merge = merge_in;
  raise = raise_in;
  statement = statement_in;
  payments = payments_in_lem;
  month = month_in;
  balances = balances_in_lem;
  unused = no_20;
  empty_left = empty_leaves;
  act_left = act_leaves;
  merge_left = merge_leaves;
  raise_left = raise_leaves;
  payments_left = payments_leaves;
  month_left = month_leaves;
  balances_left_lem = balances_leaves;
  statement_left = λ v b g lines n. (lines_left v b g lines n, totals_zero v b g lines n ∙ ap refused_totals (sym (totals_answer v b g (length lines))));
}
