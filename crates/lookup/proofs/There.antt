-- Where an expense of a checked image stands, and the part of one that is there, over plain variables.
use Rattle.std.proofs.Common.{◌≡◌, refl, sym, ap, ◌∙◌, Bool, true, false, not, cond, ◌&&◌, [], ℕ, ◌+◌, ◌-◌, ◌≤◌, ◌<◌, eqb, length, take, drop, Some, None, arith, ◌≢◌, eq-eqb, ne_eqb}
use Rattle.std.proofs.Math.Option.{none, some}
use Rattle.std.specs.Result.{is_err}
use Rattle.std.specs.Option.{is_some, unwrap_or}
use Rattle.std.specs.Bool.{then_some}
use Rattle.std.specs.declared.result.Result.{Result}
use Rattle.std.specs.declared.result.Result.TheVariants.{Ok, Err}
use Rattle.refusals.specs.declared.Fault.{Fault}
use Rattle.refusals.proofs.AboveZero.{fault_above_zero}
use Rattle.refusals.specs.Numbers.{fault_code}
use mathlib.Core.Bool.{and-false}
use Rattle.format.specs.Layout.{image_size, expense_count, expense_place, expense_size, no_expense}
use Rattle.format.specs.Bytes.{Bytes, expense_of, expense_part}
use Rattle.format.specs.declared.Part.{Part}
use Rattle.format.proofs.Laws.{add_sub}
use Rattle.rules.specs.Ledger.{absent, absent_option}
use Rattle.images.specs.Meaning.{present, meaning_in}
use Rattle.images.specs.Image.{decode, image_check, read_expense, decode_in, image_check_in}
use Rattle.images.specs.Calls.{lookup_part}
use Rattle.lookup.specs.Place.{has, place_at, lookup_place}
use Rattle.rules.proofs.Basics.{clash, eqb_true, and_left, and_right, Less, less, more, less?, ltb_true, ltb_false}
use Rattle.rules.proofs.Accepted.{pass, not_false}

-- The answer r of the check.
faulty : (r : Result (Unit {0}) Fault) → true ≡ is_err r → fault_code r ≢ 0
faulty (Ok x) h = absurd (clash refl h)
faulty (Err f) h = fault_above_zero f

pub passing : (r : Result (Unit {0}) Fault) → false ≡ is_err r → fault_code r ≡ 0
passing (Ok x) h = refl
passing (Err f) h = absurd (clash h refl)

module _ (b : Bytes) (c : ℕ) where
  pub unchecked : (r : Result (Unit {0}) Fault) → fault_code r ≡ image_check b → true ≡ is_err r → None ≡ place_at b c
  unfolding place_at
  unchecked r e h = rw (ne_eqb (image_check b) 0 (λ z. faulty r h (e ∙ z)))

  beyond : expense_count ≤ c → absent (decode b) c ≡ true
  unfolding decode_in
  beyond h = rw (ltb_false c expense_count h)

  pub above : expense_count ≤ c → None ≡ place_at b c
  unfolding place_at
  above h = ap (λ t. then_some t (expense_place c)) (sym (and-false (eqb (image_check b) 0)) ∙ ap (λ t. eqb (image_check b) 0 && not t) (sym (beyond h)))

  absent_is : c < expense_count → absent (decode b) c ≡ eqb (expense_of (expense_part b c)).payer no_expense
  unfolding decode_in read_expense meaning_in
  absent_is h = rw (ltb_true c expense_count h) (go (eqb (expense_of (expense_part b c)).payer no_expense))
    where
      go : (t : Bool) → absent_option (cond t none (some (present (expense_of (expense_part b c))))) ≡ t
      go true = refl
      go false = refl

  pub told : (k n : ℕ) → k ≡ image_check b → k ≡ 0 → c < expense_count → n ≡ (expense_of (expense_part b c)).payer
      → then_some (not (eqb n no_expense)) (expense_place c) ≡ place_at b c
  unfolding place_at
  told k n e z h en =
      rw (eq-eqb (image_check b) 0 (sym e ∙ z)) (ap (λ m. then_some (not (eqb m no_expense)) (expense_place c)) en ∙ ap (λ t. then_some (not t) (expense_place c)) (sym (absent_is h)))

  pub long : (k : ℕ) → k ≡ image_check b → k ≡ 0 → length b ≡ image_size
  unfolding image_check_in
  long k e z = eqb_true (length b) image_size (not_false _ (pass _ tt (sym e ∙ z) 0))

  -- What is there stands at the place p, with a number below 512, in an image of its size.
  module _ (p : ℕ) (e : Some p ≡ place_at b c) where
    found : (has b c ≡ true) × (p ≡ expense_place c)
    unfolding place_at
    found = go (has b c) e
      where
        go : (t : Bool) → Some p ≡ then_some t (expense_place c) → (t ≡ true) × (p ≡ expense_place c)
        go true q = (refl, ap (λ o. unwrap_or o 0) q)
        go false q = absurd (clash refl (ap is_some q))

    pub there_long : length b ≡ image_size
    there_long = long (image_check b) refl (eqb_true (image_check b) 0 (and_left (eqb (image_check b) 0) (not (absent (decode b) c)) found.0))

    there_below : c < expense_count
    there_below = go (less? c expense_count)
      where
        go : Less c expense_count → c < expense_count
        go (less h _) = h
        go (more h _) = absurd (clash (and_right (eqb (image_check b) 0) (not (absent (decode b) c)) found.0) (ap not (beyond h)))

    pub there_within : p + expense_size ≤ image_size
    there_within = let k = there_below in let q = found.1 in omega arith

    pub there_whole : take expense_size (drop p b) ≡ lookup_part b c
    unfolding lookup_part
    there_whole = rw (found.0, found.1)

    pub there_part : take ((p + expense_size) - p) (drop p b) ≡ lookup_part b c
    there_part = ap (λ m. take m (drop p b)) (add_sub p expense_size) ∙ there_whole

    pub place_there : ◌≡◌ {A = Part} (record { at = p; len = expense_size }) (lookup_place b c)
    unfolding lookup_place
    place_there = rw (found.0, found.1)

  module _ (e : None ≡ place_at b c) where
    missing : has b c ≡ false
    unfolding place_at
    missing = go (has b c) e
      where
        go : (t : Bool) → None ≡ then_some t (expense_place c) → t ≡ false
        go true q = absurd (clash (ap is_some q) refl)
        go false q = refl

    pub no_part : [] ≡ lookup_part b c
    unfolding lookup_part
    no_part = rw missing

    pub no_place : ◌≡◌ {A = Part} (record { at = 0; len = 0 }) (lookup_place b c)
    unfolding lookup_place
    no_place = rw missing
