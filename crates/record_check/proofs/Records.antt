-- The record check from what its callees ensure, over plain variables: the tests on numbers are the paper's tests.
use Rattle.std.proofs.Common.{◌≡◌, refl, sym, ap, ap₂, ◌∙◌, Bool, true, false, not, cond, ◌&&◌, ◌||◌, List, [], ◌∷◌, ◌++◌, ℕ, ◌+◌, ◌*◌, ◌/◌, ◌^◌, ◌≤◌, ◌<◌, arith, bit_or, ltb, leb, eqb, get_or}
use mathlib.Core.Bool.{and-false, and_assoc}
use Rattle.format.specs.Layout.{Version, v1, current, user_count, group_count, expenses_each, no_group, undated, no_expense, most_total}
use Rattle.format.specs.declared.ExpenseRecord.{ExpenseRecord}
use Rattle.format.specs.Bytes.{Bytes, expense_of, shares_of}
use Rattle.rules.specs.Tests.{sum8, all_of, every8, eight_at}
use Rattle.rules.specs.Ledger.{Expense, ever_in, total}
use Rattle.rules.specs.Sound.{day_fits, sound_in}
use Rattle.images.specs.Meaning.{read_bits, bits, present_in, blank_record, sound_record, sound_record_in}
use Rattle.rules.proofs.Basics.{clash, Same, same, other, same?, Less, less, more, less?, ltb_true, ltb_false, and_left, and_right, bool_path}
use Rattle.rules.proofs.Accepted.{each}
use Rattle.rules.proofs.Sound.{of_each, eqb_other}
use Rattle.fields.specs.Fields.{absent_record}
use Rattle.eight.proofs.Eight.{first_fails}
use Rattle.images.proofs.Codec.{bits_byte, eight_at_lem}
use Rattle.sets.proofs.Masks.{every8_same, not_positive, byte_within, within_sets}
use Rattle.record_check.specs.Sets.{known_set, Knows, own_mark, own_marks, held_set, marks_within, group_fits}
use Rattle.record_check.proofs.Second.{marks_within_lem, both_within, one_outside, lone_bits, lone_low, lone_within, held_some}

-- The tests of a record with a group and of one without, put together from theirs.
grouped : (d hm t1 tm ph ow pk hk : Bool) → (d && all_of (true ∷ true ∷ hm ∷ t1 ∷ tm ∷ ph ∷ true ∷ pk ∷ hk ∷ [])) ≡ ((t1 && (d && ph)) && (tm && (hm && (pk && hk))))
grouped d hm t1 tm ph ow pk hk = bool_path _ _ to from
  where
    to : (d && all_of (true ∷ true ∷ hm ∷ t1 ∷ tm ∷ ph ∷ true ∷ pk ∷ hk ∷ [])) ≡ true → ((t1 && (d && ph)) && (tm && (hm && (pk && hk)))) ≡ true
    to e =
        let x = and_left d _ e in
        let t = each (true ∷ true ∷ hm ∷ t1 ∷ tm ∷ ph ∷ true ∷ pk ∷ hk ∷ []) (and_right d _ e) in
        rw (x, t.1.1.0, t.1.1.1.0, t.1.1.1.1.0, t.1.1.1.1.1.0, t.1.1.1.1.1.1.1.0, t.1.1.1.1.1.1.1.1.0)

    from : ((t1 && (d && ph)) && (tm && (hm && (pk && hk)))) ≡ true → (d && all_of (true ∷ true ∷ hm ∷ t1 ∷ tm ∷ ph ∷ true ∷ pk ∷ hk ∷ [])) ≡ true
    from e =
        let a = and_left (t1 && (d && ph)) (tm && (hm && (pk && hk))) e in
        let b = and_right (t1 && (d && ph)) (tm && (hm && (pk && hk))) e in
        let c = and_right t1 (d && ph) a in
        let f = and_right tm (hm && (pk && hk)) b in
        let g = and_right hm (pk && hk) f in
        rw (and_left d ph c)
        (of_each (true ∷ true ∷ hm ∷ t1 ∷ tm ∷ ph ∷ true ∷ pk ∷ hk ∷ [])
        (refl, (refl, (and_left hm (pk && hk) f, (and_left t1 (d && ph) a, (and_left tm (hm && (pk && hk)) b, (and_right d ph c, (refl, (and_left pk hk g, (and_right pk hk g, tt))))))))))

alone : (d n hm t1 tm ph ow pk hk : Bool) → (d && all_of (true ∷ n ∷ hm ∷ t1 ∷ tm ∷ ph ∷ (not n || ow) ∷ (n || pk) ∷ (n || hk) ∷ []))
    ≡ ((t1 && (d && ph)) && (tm && (n && (hm && (d && ow)))))
alone d false hm t1 tm ph ow pk hk =
    bool_path _ _ (λ e. absurd (clash (each (true ∷ false ∷ hm ∷ t1 ∷ tm ∷ ph ∷ true ∷ pk ∷ hk ∷ []) (and_right d _ e)).1.0 refl)) (λ e. absurd (clash (and_right tm false (and_right (t1 && (d && ph)) (tm && false) e)) refl))
alone d true hm t1 tm ph ow pk hk = bool_path _ _ to from
  where
    to : (d && all_of (true ∷ true ∷ hm ∷ t1 ∷ tm ∷ ph ∷ ow ∷ true ∷ true ∷ [])) ≡ true → ((t1 && (d && ph)) && (tm && (hm && (d && ow)))) ≡ true
    to e =
        let x = and_left d _ e in
        let t = each (true ∷ true ∷ hm ∷ t1 ∷ tm ∷ ph ∷ ow ∷ true ∷ true ∷ []) (and_right d _ e) in
        rw (x, t.1.1.0, t.1.1.1.0, t.1.1.1.1.0, t.1.1.1.1.1.0, t.1.1.1.1.1.1.0)

    from : ((t1 && (d && ph)) && (tm && (hm && (d && ow)))) ≡ true → (d && all_of (true ∷ true ∷ hm ∷ t1 ∷ tm ∷ ph ∷ ow ∷ true ∷ true ∷ [])) ≡ true
    from e =
        let a = and_left (t1 && (d && ph)) (tm && (hm && (d && ow))) e in
        let b = and_right (t1 && (d && ph)) (tm && (hm && (d && ow))) e in
        let c = and_right t1 (d && ph) a in
        let f = and_right tm (hm && (d && ow)) b in
        let g = and_right hm (d && ow) f in
        rw (and_left d ph c)
        (of_each (true ∷ true ∷ hm ∷ t1 ∷ tm ∷ ph ∷ ow ∷ true ∷ true ∷ [])
        (refl, (refl, (and_left hm (d && ow) f, (and_left t1 (d && ph) a, (and_left tm (hm && (d && ow)) b, (and_right d ph c, (and_right d ow g, (refl, (refl, tt))))))))))

-- Record c of payer n, group g, marks d and a and shares s, given the payer's home and the group's counters.
module _ (h c n g d a : ℕ) (f s : ℕ → ℕ) (mine : ℕ) (kn : n < 8) (kd : d < 256) (ka : a < 256) (own : mine ≡ own_mark h (c / 64) n) where
  abbrev held : ℕ
  held = 256 * bits (λ u. ltb 0 (s u))

  abbrev first_tests : Bool
  first_tests = not (eqb held 0) && eqb (bit_or (d + 256 * a) (bit_or held 1)) (bit_or held 1)

  first_are : first_tests ≡ (leb 1 (sum8 s) && (ltb d 2 && every8 (λ u. not (read_bits a u) || ltb 0 (s u))))
  first_are = ap₂ ◌&&◌ (held_some s) (marks_within_lem d a (bits (λ u. ltb 0 (s u))) kd ∙ ap (λ t. ltb d 2 && t) (byte_within a (λ u. ltb 0 (s u)) ka))

  -- With a group: the payer and all with a share are among those who were ever members.
  known_are : eqb (bit_or (bit_or held mine) (256 * bits (ever_in f))) (256 * bits (ever_in f))
      ≡ (eqb h (c / 64) && (ltb 0 (f n) && every8 (λ u. eqb (s u) 0 || ltb 0 (f u))))
  known_are = go (same? h (c / 64))
    where
      go : Same h (c / 64) → eqb (bit_or (bit_or held mine) (256 * bits (ever_in f))) (256 * bits (ever_in f))
          ≡ (eqb h (c / 64) && (ltb 0 (f n) && every8 (λ u. eqb (s u) 0 || ltb 0 (f u))))
      go (same p e) =
          let m : mine ≡ 256 * 2 ^ n = own ∙ ap (λ t. cond t (256 * 2 ^ n) 1) e in
          ap (λ t. eqb (bit_or (bit_or held t) (256 * bits (ever_in f))) (256 * bits (ever_in f))) m
          ∙ both_within (bits (λ u. ltb 0 (s u))) (2 ^ n) (bits (ever_in f)) (bits_byte (λ u. ltb 0 (s u))) (lone_low n kn) (bits_byte (ever_in f))
          ∙ ap₂ ◌&&◌ (lone_within f n kn) (within_sets (λ u. ltb 0 (s u)) (ever_in f) ∙ every8_same _ _ (λ u k. ap (λ t. t || ltb 0 (f u)) (not_positive (s u))))
          ∙ sym (ap (λ t. t && (ltb 0 (f n) && every8 (λ u. eqb (s u) 0 || ltb 0 (f u)))) e)
      go (other p e) =
          let m : mine ≡ 1 = own ∙ ap (λ t. cond t (256 * 2 ^ n) 1) e in
          ap (λ t. eqb (bit_or (bit_or held t) (256 * bits (ever_in f))) (256 * bits (ever_in f))) m ∙ one_outside (bits (λ u. ltb 0 (s u))) (bits (ever_in f))
          ∙ sym (ap (λ t. t && (ltb 0 (f n) && every8 (λ u. eqb (s u) 0 || ltb 0 (f u)))) e)

  abbrev lone_tests : Bool
  lone_tests = (eqb g no_group && not (eqb mine 1)) && eqb (bit_or (d + 256 * a) (bit_or mine 1)) (bit_or mine 1)

  -- Without one: no bit but the payer's.
  lone_are : lone_tests ≡ (eqb g no_group && (eqb h (c / 64) && (ltb d 2 && every8 (λ u. not (read_bits a u) || eqb u n))))
  lone_are = go (same? h (c / 64))
    where
      go : Same h (c / 64) → lone_tests ≡ (eqb g no_group && (eqb h (c / 64) && (ltb d 2 && every8 (λ u. not (read_bits a u) || eqb u n))))
      go (same p e) =
          let m : mine ≡ 256 * 2 ^ n = own ∙ ap (λ t. cond t (256 * 2 ^ n) 1) e in
          let ne : not (eqb (256 * 2 ^ n) 1) ≡ true = ap not (eqb_other (256 * 2 ^ n) 1 (λ z. omega arith)) in
          let w : eqb (bit_or (d + 256 * a) (bit_or (256 * 2 ^ n) 1)) (bit_or (256 * 2 ^ n) 1) ≡ (ltb d 2 && every8 (λ u. not (read_bits a u) || eqb u n)) =
          marks_within_lem d a (2 ^ n) kd ∙ ap (λ t. ltb d 2 && t) (ap (λ k. eqb (bit_or a k) k) (lone_bits n kn) ∙ byte_within a (λ u. eqb u n) ka) in
          ap (λ t. (eqb g no_group && not (eqb t 1)) && eqb (bit_or (d + 256 * a) (bit_or t 1)) (bit_or t 1)) m ∙ and_assoc (eqb g no_group) _ _
          ∙ ap (λ t. eqb g no_group && t) (ap₂ ◌&&◌ (ne ∙ sym e) w)
      go (other p e) =
          let m : mine ≡ 1 = own ∙ ap (λ t. cond t (256 * 2 ^ n) 1) e in
          ap (λ t. (eqb g no_group && not (eqb t 1)) && eqb (bit_or (d + 256 * a) (bit_or t 1)) (bit_or t 1)) m ∙ and_assoc (eqb g no_group) _ _
          ∙ ap (λ t. eqb g no_group && t) (sym (ap (λ t. t && (ltb d 2 && every8 (λ u. not (read_bits a u) || eqb u n))) e))

  abbrev last_tests : Bool
  last_tests = cond (ltb g 16) (eqb (bit_or (bit_or held mine) (256 * bits (ever_in f))) (256 * bits (ever_in f))) lone_tests

  -- An expense of these fields, of which soundness doesn't ask for the version and for whether it is deleted; without a day, as in version 1.
  abbrev of_fields : Expense
  of_fields = record { payer = n; group = g; deleted = false; acknowledged = read_bits a; version = 0; shares = s; day = undated }

  pub tests_are : (first_tests && (leb (sum8 s) most_total && last_tests)) ≡ (ltb d 2 && sound_in h f c of_fields)
  unfolding all_of
  tests_are = go (less? g 16)
    where
      go : Less g 16 → (first_tests && (leb (sum8 s) most_total && last_tests)) ≡ (ltb d 2 && sound_in h f c of_fields)
      go (less k e) =
          let x : eqb g no_group ≡ false = eqb_other g no_group (λ z. omega arith) in
          ap₂ ◌&&◌ first_are (ap (λ t. leb (sum8 s) most_total && t) (ap (λ t. cond t (eqb (bit_or (bit_or held mine) (256 * bits (ever_in f))) (256 * bits (ever_in f))) lone_tests) e ∙ known_are))
          ∙ sym (grouped (ltb d 2) (eqb h (c / 64)) (leb 1 (sum8 s)) (leb (sum8 s) most_total) (every8 (λ u. not (read_bits a u) || ltb 0 (s u))) true (ltb 0 (f n)) (every8 (λ u. eqb (s u) 0 || ltb 0 (f u))))
          ∙ rw (ltb_true n 8 kn, e, x)
      go (more k e) =
          ap₂ ◌&&◌ first_are (ap (λ t. leb (sum8 s) most_total && t) (ap (λ t. cond t (eqb (bit_or (bit_or held mine) (256 * bits (ever_in f))) (256 * bits (ever_in f))) lone_tests) e ∙ lone_are))
          ∙ sym (alone (ltb d 2) (eqb g no_group) (eqb h (c / 64)) (leb 1 (sum8 s)) (leb (sum8 s) most_total) (every8 (λ u. not (read_bits a u) || ltb 0 (s u))) (every8 (λ u. not (read_bits a u) || eqb u n)) (ltb 0 (f n)) (every8 (λ u. eqb (s u) 0 || ltb 0 (f u))))
          ∙ rw (ltb_true n 8 kn, e)

-- Marks by user.
pub mark_is : (home : ℕ → ℕ) (own : List ℕ) (r u : ℕ) → own ≡ own_marks home r → u < 8 → get_or own u 0 ≡ own_mark (home u) r u
mark_is home own r u e k = ap (λ l. get_or l u 0) e ∙ eight_at_lem (λ w. own_mark (home w) r w) u k

-- The record p of an expense that a user pays, at home on h, in groups with these counters.
module _ (h : ℕ) (counter : ℕ → ℕ → ℕ) (p : Bytes) (c mine : ℕ) (kn : (expense_of p).payer < 8) (kd : (expense_of p).deleted < 256) (ka : (expense_of p).acknowledged < 256)
    (own : mine ≡ own_mark h (c / 64) (expense_of p).payer) where
  abbrev sound : Bool
  sound = sound_record_in v1 h (counter (expense_of p).group) c (expense_of p)

  abbrev fits : Bool
  fits = leb (sum8 (eight_at (shares_of p))) most_total

  abbrev group_tests : ℕ → Bool
  group_tests held = group_fits (expense_of p) (known_set (counter (expense_of p).group)) mine held

  present_is : ((not (eqb (held_set (shares_of p)) 0) && marks_within (expense_of p) (held_set (shares_of p))) && (fits && group_tests (held_set (shares_of p)))) ≡ sound
  unfolding sound_record_in expense_of
  present_is =
      tests_are h c (expense_of p).payer (expense_of p).group (expense_of p).deleted (expense_of p).acknowledged (counter (expense_of p).group) (eight_at (shares_of p)) mine kn kd ka own
      ∙ sym (ap (λ t. cond t (blank_record (expense_of p)) (ltb (expense_of p).deleted 2 && sound_in h (counter (expense_of p).group) c (present_in v1 (expense_of p)))) (eqb_other (expense_of p).payer no_expense (λ z. omega arith)))

  -- The ways out of the check, from what each test found.
  module _ (held : ℕ) (eh : held ≡ held_set (shares_of p)) where
    all_tests : ((not (eqb held 0) && marks_within (expense_of p) held) && (fits && group_tests held)) ≡ sound
    all_tests = ap (λ n. (not (eqb n 0) && marks_within (expense_of p) n) && (fits && group_tests n)) eh ∙ present_is

    pub no_share : eqb held 0 ≡ true → false ≡ sound
    no_share e = sym (ap (λ t. (not t && marks_within (expense_of p) held) && (fits && group_tests held)) e) ∙ all_tests

    module _ (some : eqb held 0 ≡ false) (m : Bool) (em : m ≡ marks_within (expense_of p) held) where
      after_share : (m && (fits && group_tests held)) ≡ sound
      after_share = ap (λ t. t && (fits && group_tests held)) em ∙ sym (ap (λ t. (not t && marks_within (expense_of p) held) && (fits && group_tests held)) some) ∙ all_tests

      pub no_marks : m ≡ false → false ≡ sound
      no_marks e = sym (ap (λ t. t && (fits && group_tests held)) e) ∙ after_share

      module _ (marked : m ≡ true) (t : Bool) (et : t ≡ fits) where
        after_marks : (t && group_tests held) ≡ sound
        after_marks = ap (λ b. b && group_tests held) et ∙ sym (ap (λ b. b && (fits && group_tests held)) marked) ∙ after_share

        pub too_much : t ≡ false → false ≡ sound
        too_much e = sym (ap (λ b. b && group_tests held) e) ∙ after_marks

        pub by_group : t ≡ true → (g : Bool) → g ≡ group_tests held → g ≡ sound
        by_group e g eg = eg ∙ sym (ap (λ b. b && group_tests held) e) ∙ after_marks

-- The group's tests, where there is one and where there is none.
module _ (e : ExpenseRecord) (mine held g : ℕ) (eg : g ≡ e.group) where
  pub with_group_lem : (sets : List ℕ) (counter : ℕ → ℕ → ℕ) → Knows sets counter → g < 16
      → eqb (bit_or (bit_or held mine) (get_or sets g 0)) (get_or sets g 0) ≡ group_fits e (known_set (counter e.group)) mine held
  with_group_lem sets counter ek k =
      let q : get_or sets g 0 ≡ known_set (counter e.group) = ek g k ∙ ap (λ n. known_set (counter n)) eg in
      ap (λ y. eqb (bit_or (bit_or held mine) y) y) q ∙ sym (ap (λ x. cond x (eqb (bit_or (bit_or held mine) (known_set (counter e.group))) (known_set (counter e.group))) ((eqb e.group no_group && not (eqb mine 1)) && marks_within e mine)) (ltb_true e.group 16 (rw (← eg) k)))

  pub without_group : (known : ℕ) (m : Bool) → m ≡ marks_within e mine → 16 ≤ g → ((eqb g no_group && not (eqb mine 1)) && m) ≡ group_fits e known mine held
  without_group known m em k =
      ap₂ (λ x y. (eqb x no_group && not (eqb mine 1)) && y) eg em
      ∙ sym (ap (λ x. cond x (eqb (bit_or (bit_or held mine) known) known) ((eqb e.group no_group && not (eqb mine 1)) && marks_within e mine)) (ltb_false e.group 16 (rw (← eg) k)))

-- The day's test, which comes last, may come first.
last_fails : (ts : List Bool) → all_of (ts ++ (false ∷ [])) ≡ false
unfolding all_of
last_fails [] = refl
last_fails (t ∷ ts) = rw (last_fails ts) (and-false t)

last_first : (d x : Bool) (ts : List Bool) → (d && all_of (ts ++ (x ∷ []))) ≡ (x && (d && all_of (ts ++ (true ∷ []))))
last_first d true ts = refl
last_first d false ts = rw (last_fails ts) (and-false d)

-- The tests before it.
abbrev undated_tests : (h : ℕ) (f : ℕ → ℕ) (c : ℕ) → Expense → List Bool
undated_tests h f c e =
    ltb e.payer user_count ∷ (ltb e.group group_count || eqb e.group no_group) ∷ eqb h (c / expenses_each) ∷ leb 1 (total e) ∷ leb (total e) most_total
    ∷ every8 (λ u. not (e.acknowledged u) || ltb 0 (e.shares u)) ∷ (not (eqb e.group no_group) || every8 (λ u. not (e.acknowledged u) || eqb u e.payer))
    ∷ (eqb e.group no_group || ever_in f e.payer) ∷ (eqb e.group no_group || every8 (λ u. eqb (e.shares u) 0 || ever_in f u)) ∷ []

dated_sound : (h : ℕ) (f : ℕ → ℕ) (c : ℕ) (e : ExpenseRecord) → e.payer < 8 → sound_record h f c e ≡ (day_fits e.day && sound_record_in v1 h f c e)
unfolding sound_record_in
dated_sound h f c e k =
    rw (eqb_other e.payer no_expense (λ z. omega arith))
    (last_first (ltb e.deleted 2) (day_fits e.day) (undated_tests h f c (present_in v1 e)))

-- Of a record without a day none is asked.
sized_sound : (without : Bool) (h : ℕ) (f : ℕ → ℕ) (c : ℕ) (e : ExpenseRecord) → e.payer < 8
    → sound_record_in (cond without v1 current) h f c e ≡ ((without || day_fits e.day) && sound_record_in v1 h f c e)
sized_sound true h f c e k = refl
sized_sound false h f c e k = dated_sound h f c e k

pub day_fails : (without : Bool) (h : ℕ) (f : ℕ → ℕ) (c : ℕ) (e : ExpenseRecord) → e.payer < 8 → (without || day_fits e.day) ≡ false
    → false ≡ sound_record_in (cond without v1 current) h f c e
day_fails w h f c e k t = sym (ap (λ b. b && sound_record_in v1 h f c e) t) ∙ sym (sized_sound w h f c e k)

pub day_passes : (without : Bool) (h : ℕ) (f : ℕ → ℕ) (c : ℕ) (e : ExpenseRecord) → e.payer < 8 → (without || day_fits e.day) ≡ true → (r : Bool) → r ≡ sound_record_in v1 h f c e
    → r ≡ sound_record_in (cond without v1 current) h f c e
day_passes w h f c e k t r q = q ∙ sym (ap (λ b. b && sound_record_in v1 h f c e) t) ∙ sym (sized_sound w h f c e k)

-- A record that no user pays.
pub absent_is_sound : (v : Version) (h : ℕ) (f : ℕ → ℕ) (p : Bytes) (c : ℕ) → 8 ≤ (expense_of p).payer → absent_record (expense_of p) ≡ sound_record_in v h f c (expense_of p)
unfolding sound_record_in absent_record
absent_is_sound v h f p c k = go (same? (expense_of p).payer no_expense)
  where
    go : Same (expense_of p).payer no_expense → (eqb (expense_of p).payer no_expense && blank_record (expense_of p))
        ≡ cond (eqb (expense_of p).payer no_expense) (blank_record (expense_of p)) (ltb (expense_of p).deleted 2 && sound_in h f c (present_in v (expense_of p)))
    go (same _ e) = rw e
    go (other _ e) = rw e (sym (ap (λ t. ltb (expense_of p).deleted 2 && t) (sym (first_fails (ltb (expense_of p).payer user_count) _ (ltb_false (expense_of p).payer user_count k))) ∙ and-false (ltb (expense_of p).deleted 2)))
