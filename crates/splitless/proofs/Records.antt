-- Every action whose fields are in range, whose rule or day is one that a record of the version names, and whose shares are those of eight users, at most
-- 1,000,000,000 in all, has a record: forty bytes that are read as it. So what the tie says of records speaks of every action.
use mathlib.Core.Path.{◌≡◌, refl, sym, ap, ◌∙◌}
use mathlib.Core.Bool.{Bool, true, false, cond, ◌&&◌, ◌||◌}
use mathlib.Core.Option.{none, some}
use mathlib.Core.List.{[], ◌∷◌}
use Prim.Native.Nat.{ℕ, ◌+◌, ◌*◌, ◌≤◌, ◌<◌}
use native.Mathlib.Omega.{arith}
use lib.Dec.{leb, eqb}
use lib.ListN.{length}
use Rattle.format.specs.Layout.{Version, v1, v2, v3, undated, last_day, most_total, action_size}
use Rattle.format.specs.Bytes.{Bytes, Octets, shares_of, forty_of, kind_in, actor_in, other_in, group_in, expense_in, rest_in}
use Rattle.rules.specs.Tests.{all_of, sum8, every8, eight_at, eight_of}
use Rattle.rules.specs.Action.{Action, found, add, leave, enter, put_in, take_out, change, delete, acknowledge, absorb, fields_fit}
use Rattle.images.specs.Record.{rest_fits, rule_named, day_named, fields_fit_in, record_fits_in, kinds, read_action_in}
use Rattle.format.proofs.Round.{read_shares}
use Rattle.rules.proofs.Accepted.{test, ltb_lt, rule_two}
use Rattle.rules.proofs.Basics.{or_left}
use Rattle.rules.proofs.Sound.{of_each, le_leb}
use Rattle.rules.specs.Sound.{a_rule, day_fits}
use Rattle.images.proofs.Range.{Told}
use Rattle.images.proofs.Codec.{eight_back}
use Rattle.images.proofs.Octets.{octets, then, small_32, small_shares, also}

-- A record has the layout of an expense's first forty bytes, and is written by the same function: kind, actor, other, group, expense number and what stands behind it, shares.
written_as : (k a o g c z : ℕ) (s : ℕ → ℕ) → Bytes
written_as k a o g c z s = forty_of (record { payer = k; group = a; deleted = o; acknowledged = g; version = c + 65_536 * z; shares = eight_of s; day = 0 })

-- A record with these fields is read as their action.
read_at : (v : Version) (x : Bytes) (k a o g c z : ℕ) (s : ℕ → ℕ) → length x ≡ action_size → kind_in x ≡ k → actor_in x ≡ a → other_in x ≡ o → group_in x ≡ g → expense_in x ≡ c → rest_in x ≡ z
    → eight_at (shares_of x) ≡ s → fields_fit_in v k a o g c z (every8 (λ u. eqb (s u) 0)) ≡ true → read_action_in v x ≡ some (kinds k a o g c (rule_named v z) (day_named v z) s)
unfolding read_action_in record_fits_in
read_at v x k a o g c z s len hk ha ho hg hc hz hs f =
    (λ i. cond (eqb (len i) action_size && fields_fit_in v (hk i) (ha i) (ho i) (hg i) (hc i) (hz i) (every8 (λ u. eqb (hs i u) 0))) (some (kinds (hk i) (ha i) (ho i) (hg i) (hc i) (rule_named v (hz i)) (day_named v (hz i)) (hs i))) none)
    ∙ ap (λ b. cond b (some (kinds k a o g c (rule_named v z) (day_named v z) s)) none) f

-- Shares of the eight users that no limit stops.
pub record Narrow8 (s : ℕ → ℕ) : Type 0 where
  pub beyond : (u : ℕ) → 8 ≤ u → s u ≡ 0
  pub most : sum8 s ≤ most_total

module _ (v : Version) (k a o g c z : ℕ) (s : ℕ → ℕ) (n : Narrow8 s) where
  shares_back : shares_of (written_as k a o g c z s) ≡ eight_of s
  unfolding written_as
  shares_back = read_shares (record { payer = k; group = a; deleted = o; acknowledged = g; version = c + 65_536 * z; shares = eight_of s; day = 0 }) refl

  shares_are : eight_at (shares_of (written_as k a o g c z s)) ≡ s
  shares_are = ap eight_at shares_back ∙ eight_back s n.beyond

  number_back : c < 512 → z < 65_536 → expense_in (written_as k a o g c z s) ≡ c
  unfolding written_as forty_of
  number_back h j = omega arith

  rest_back : c < 512 → z < 65_536 → rest_in (written_as k a o g c z s) ≡ z
  unfolding written_as forty_of
  rest_back h j = omega arith

  record_octets : k < 256 → a < 256 → o < 256 → g < 256 → c < 512 → z < 65_536 → Octets (written_as k a o g c z s)
  unfolding written_as forty_of
  record_octets hk ha ho hg hc hz = octets (also k hk (also a ha (also o ho (also g hg (then (small_32 (c + 65_536 * z) (omega arith)) (small_shares s n.most))))))

  record_long : length (written_as k a o g c z s) ≡ action_size
  unfolding written_as forty_of
  record_long = refl

  record_read : c < 512 → z < 65_536 → fields_fit_in v k a o g c z (every8 (λ u. eqb (s u) 0)) ≡ true → read_action_in v (written_as k a o g c z s) ≡ some (kinds k a o g c (rule_named v z) (day_named v z) s)
  unfolding written_as forty_of
  record_read h j f = read_at v (written_as k a o g c z s) k a o g c z s record_long refl refl refl refl (number_back h j) (rest_back h j) shares_are f

  found_record : k < 11 → a < 8 → o < 8 → g < 16 → c < 512 → z < 65_536 → fields_fit_in v k a o g c z (every8 (λ u. eqb (s u) 0)) ≡ true
      → (x : Bytes) × Octets x × (read_action_in v x ≡ some (kinds k a o g c (rule_named v z) (day_named v z) s))
  found_record hk ha ho hg hc hz f = (written_as k a o g c z s, record_octets (omega arith) (omega arith) (omega arith) (omega arith) hc hz, record_read hc hz f)

-- No shares.
none8 : Narrow8 (λ u. 0)
none8 = record { beyond = λ u k. refl; most = omega arith }

unshared : every8 (λ u. eqb 0 0) ≡ true
unfolding every8 all_of
unshared = refl

-- What stands behind the expense number: a founding's rule, where the version has one; else, but for a day, zero.
rest_of : Version → ℕ → ℕ
rest_of v1 k = 0
rest_of v2 k = k
rest_of v3 k = k

rest_fits_lem : (v : Version) (k : ℕ) → a_rule k ≡ true → rest_fits v 1 (rest_of v k) ≡ true
unfolding rest_of
rest_fits_lem v1 k h = refl
rest_fits_lem v2 k h = h
rest_fits_lem v3 k h = h

rest_small : (v : Version) (k : ℕ) → a_rule k ≡ true → rest_of v k < 65_536
unfolding rest_of
rest_small v1 k h = omega arith
rest_small v2 k h = let z = (rule_two k h).1 in omega arith
rest_small v3 k h = let z = (rule_two k h).1 in omega arith

rest_named : (v : Version) (k : ℕ) → Told v k → rule_named v (rest_of v k) ≡ k
unfolding rest_of every8 all_of
rest_named v1 k t = t
rest_named v2 k t = refl
rest_named v3 k t = refl

unnamed : (v : Version) (k : ℕ) → eqb k 1 ≡ false → (eqb k 4 || eqb k 7) ≡ false → rest_fits v k 0 ≡ true
unnamed v1 k e f = refl
unnamed v2 k e f = rw e
unnamed v3 k e f = rw (e, f)

-- The day of kinds 4 and 7, where the version has one: none in an older version, else any up to the last.
abbrev pub Names : Version → (day : ℕ) → Type 0
Names v1 d = d ≡ undated
Names v2 d = d ≡ undated
Names v3 d = d ≤ last_day

pub names_fit : (v : Version) (d : ℕ) → Names v d → day_fits d ≡ true
names_fit v1 d n = rw n
names_fit v2 d n = rw n
names_fit v3 d n = or_left (leb d last_day) (eqb d undated) (le_leb d last_day n)

-- What zeros in bytes 6 and 7 name.
pub names_zero : (v : Version) → Names v (day_named v 0)
names_zero v1 = refl
names_zero v2 = refl
names_zero v3 = omega arith

day_rest : Version → ℕ → ℕ
day_rest v1 d = 0
day_rest v2 d = 0
day_rest v3 d = d

day_fits_lem : (v : Version) (k d : ℕ) → eqb k 1 ≡ false → (eqb k 4 || eqb k 7) ≡ true → Names v d → rest_fits v k (day_rest v d) ≡ true
unfolding day_rest
day_fits_lem v1 k d e f n = refl
day_fits_lem v2 k d e f n = rw e
day_fits_lem v3 k d e f n = rw (e, f) (le_leb d last_day n)

day_small : (v : Version) (d : ℕ) → Names v d → day_rest v d < 65_536
unfolding day_rest
day_small v1 d n = omega arith
day_small v2 d n = omega arith
day_small v3 d n = omega arith

day_named_lem : (v : Version) (d : ℕ) → Names v d → day_named v (day_rest v d) ≡ d
unfolding day_rest
day_named_lem v1 d n = sym n
day_named_lem v2 d n = sym n
day_named_lem v3 d n = refl

-- What an action has for shares is of eight users and within the limit, and its rule or day is one that a record of the version names.
abbrev pub SharesFit : Version → Action → Type 0
SharesFit v (found a g k) = Told v k
SharesFit v (add a o g) = Unit {0}
SharesFit v (leave a g) = Unit {0}
SharesFit v (enter a c s day) = Narrow8 s × Names v day
SharesFit v (put_in a g c) = Unit {0}
SharesFit v (take_out a g c) = Unit {0}
SharesFit v (change a c s day) = Narrow8 s × Names v day
SharesFit v (delete a c) = Unit {0}
SharesFit v (acknowledge a c) = Unit {0}
SharesFit v (absorb a o c) = Unit {0}

-- The eight tests of a record, as facts: kind, actor, other, group, expense, and that what the kind doesn't use is zero.
all_fit : (a b c d e f g h : Bool) → a ≡ true → b ≡ true → c ≡ true → d ≡ true → e ≡ true → f ≡ true → g ≡ true → h ≡ true → all_of (a ∷ b ∷ c ∷ d ∷ e ∷ f ∷ g ∷ h ∷ []) ≡ true
all_fit a b c d e f g h p q r s t u v w = of_each _ (p, (q, (r, (s, (t, (u, (v, (w, tt))))))))

pub has_record : (v : Version) (a : Action) → fields_fit a ≡ true → SharesFit v a → (x : Bytes) × Octets x × (read_action_in v x ≡ some a)
unfolding fields_fit
has_record v (found a g k) fi n =
    let f = test _ fi in
    let t = found_record v 1 a 0 g 0 (rest_of v k) (λ u. 0) none8 (omega arith) (ltb_lt a 8 (f 0)) (omega arith) (ltb_lt g 16 (f 1)) (omega arith) (rest_small v k (f 2)) (all_fit _ _ _ _ _ _ _ _ refl refl (f 0) refl (f 1) refl (rest_fits_lem v k (f 2)) unshared) in
    (t.0, t.1, t.2 ∙ ap (λ i. some (found a g i)) (rest_named v k n))
has_record v (add a o g) fi n =
    let f = test _ fi in
    found_record v 2 a o g 0 0 (λ u. 0) none8 (omega arith) (ltb_lt a 8 (f 0)) (ltb_lt o 8 (f 1)) (ltb_lt g 16 (f 2)) (omega arith) (omega arith) (all_fit _ _ _ _ _ _ _ _ refl refl (f 0) (f 1) (f 2) refl (unnamed v 2 refl refl) unshared)
has_record v (leave a g) fi n =
    let f = test _ fi in
    found_record v 3 a 0 g 0 0 (λ u. 0) none8 (omega arith) (ltb_lt a 8 (f 0)) (omega arith) (ltb_lt g 16 (f 1)) (omega arith) (omega arith) (all_fit _ _ _ _ _ _ _ _ refl refl (f 0) refl (f 1) refl (unnamed v 3 refl refl) unshared)
has_record v (enter a c s day) fi n =
    let f = test _ fi in
    let t = found_record v 4 a 0 0 c (day_rest v day) s n.0 (omega arith) (ltb_lt a 8 (f 0)) (omega arith) (omega arith) (ltb_lt c 512 (f 1)) (day_small v day n.1) (all_fit _ _ _ _ _ _ _ _ refl refl (f 0) refl refl (f 1) (day_fits_lem v 4 day refl refl n.1) refl) in
    (t.0, t.1, t.2 ∙ ap (λ d. some (enter a c s d)) (day_named_lem v day n.1))
has_record v (put_in a g c) fi n =
    let f = test _ fi in
    found_record v 5 a 0 g c 0 (λ u. 0) none8 (omega arith) (ltb_lt a 8 (f 0)) (omega arith) (ltb_lt g 16 (f 1)) (ltb_lt c 512 (f 2)) (omega arith) (all_fit _ _ _ _ _ _ _ _ refl refl (f 0) refl (f 1) (f 2) (unnamed v 5 refl refl) unshared)
has_record v (take_out a g c) fi n =
    let f = test _ fi in
    found_record v 6 a 0 g c 0 (λ u. 0) none8 (omega arith) (ltb_lt a 8 (f 0)) (omega arith) (ltb_lt g 16 (f 1)) (ltb_lt c 512 (f 2)) (omega arith) (all_fit _ _ _ _ _ _ _ _ refl refl (f 0) refl (f 1) (f 2) (unnamed v 6 refl refl) unshared)
has_record v (change a c s day) fi n =
    let f = test _ fi in
    let t = found_record v 7 a 0 0 c (day_rest v day) s n.0 (omega arith) (ltb_lt a 8 (f 0)) (omega arith) (omega arith) (ltb_lt c 512 (f 1)) (day_small v day n.1) (all_fit _ _ _ _ _ _ _ _ refl refl (f 0) refl refl (f 1) (day_fits_lem v 7 day refl refl n.1) refl) in
    (t.0, t.1, t.2 ∙ ap (λ d. some (change a c s d)) (day_named_lem v day n.1))
has_record v (delete a c) fi n =
    let f = test _ fi in
    found_record v 8 a 0 0 c 0 (λ u. 0) none8 (omega arith) (ltb_lt a 8 (f 0)) (omega arith) (omega arith) (ltb_lt c 512 (f 1)) (omega arith) (all_fit _ _ _ _ _ _ _ _ refl refl (f 0) refl refl (f 1) (unnamed v 8 refl refl) unshared)
has_record v (acknowledge a c) fi n =
    let f = test _ fi in
    found_record v 9 a 0 0 c 0 (λ u. 0) none8 (omega arith) (ltb_lt a 8 (f 0)) (omega arith) (omega arith) (ltb_lt c 512 (f 1)) (omega arith) (all_fit _ _ _ _ _ _ _ _ refl refl (f 0) refl refl (f 1) (unnamed v 9 refl refl) unshared)
has_record v (absorb a o c) fi n =
    let f = test _ fi in
    found_record v 10 a o 0 c 0 (λ u. 0) none8 (omega arith) (ltb_lt a 8 (f 0)) (ltb_lt o 8 (f 1)) (omega arith) (ltb_lt c 512 (f 2)) (omega arith) (all_fit _ _ _ _ _ _ _ _ refl refl (f 0) (f 1) refl (f 2) (unnamed v 10 refl refl) unshared)
