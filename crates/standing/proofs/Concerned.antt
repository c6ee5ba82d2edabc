-- One expense that stands in the group: what it makes of a user's standing, whether it concerns the user, waits, or counts.
use Rattle.std.proofs.Common.{◌≡◌, refl, sym, ap, ap₂, ◌∙◌, Bool, true, false, not, ◌&&◌, ◌||◌, ◌≢◌, List, ℕ, ◌+◌, add-zero, ltb, leb, eqb, eq-eqb, ne_eqb}
use Rattle.format.specs.Layout.{no_expense}
use Rattle.format.specs.declared.ExpenseRecord.{ExpenseRecord}
use Rattle.rules.specs.Tests.{only, every8, sum8, eight_at}
use Rattle.rules.specs.Balance.{counts_acknowledged, paid_in, held_in}
use Rattle.rules.specs.Pending.{pending_in}
use Rattle.images.specs.Meaning.{read_bits, meaning, meaning_in}
use Rattle.rules.proofs.Basics.{Same, same, other, same?, clash, eqb_true, or_false, and_none}
use Rattle.rules.proofs.Sums.{only_zero}
use Rattle.sets.proofs.Masks.{not_positive}
use Rattle.fields.specs.Fields.{stands_in}
use Rattle.validity.specs.Validity.{small_in}
use Rattle.validity.proofs.Above.{counts_above, counted_by_lem}
use Rattle.validity.proofs.Counts.{backed, backed_is, counts, paid_of, held_of}
use Rattle.standing.specs.declared.Standing.{Standing}
use Rattle.standing.specs.Standing.{more}

-- Booleans.
both : (a b : Bool) → (a && not b) ≡ true → (a ≡ true) × (b ≡ false)
both true true e = absurd (clash e refl)
both true false e = (refl, refl)
both false b e = absurd (clash e refl)

not_not : (a b : Bool) → not a ≡ b → not b ≡ a
not_not true b e = ap not (sym e)
not_not false b e = ap not (sym e)

-- The payer's own amount, and nobody else's.
pub pays : (p u m t n : ℕ) → p ≡ u → t ≡ m → n + t ≡ n + only (eqb p u) m
pays p u m t n e q = ap (λ k. n + k) (q ∙ ap (λ b. only b m) (sym (eq-eqb p u e)))

pub pays_not : (p u m n : ℕ) → p ≢ u → n ≡ n + only (eqb p u) m
pays_not p u m n e = sym (ap (λ b. n + only b m) (ne_eqb p u e) ∙ add-zero n)

waits_form : (a s i d b : Bool) → (a && s && i && not (d || (i && not d && b))) ≡ (i && true && not d && not b && (s && a))
waits_form a s false d b = ap (λ t. t && not (d || false)) (and_none (a && s))
waits_form a s true true b = and_none (a && s && true)
waits_form a s true false true = and_none (a && s && true)
waits_form true true true false false = refl
waits_form true false true false false = refl
waits_form false true true false false = refl
waits_form false false true false false = refl

nowhere : (i d b a : Bool) → (i && false && d && b && a) ≡ false
nowhere true d b a = refl
nowhere false d b a = refl

or_true : (a : Bool) → true ≡ (a || true)
or_true true = refl
or_true false = refl

or_swap : (a b : Bool) → (a || b) ≡ (b || a)
or_swap true true = refl
or_swap true false = refl
or_swap false true = refl
or_swap false false = refl

unless : (z a : Bool) → (not z && (z || a)) ≡ (not z && a)
unless true a = refl
unless false a = refl

-- A positive share that is acknowledged, or no larger than the rule's small ones, is one that counts so.
asked : (rule n small : ℕ) (a : Bool) → small ≡ small_in rule → (not (eqb n 0) && (a || leb n small)) ≡ (ltb 0 n && counts_acknowledged rule n a)
asked rule n small a e =
    ap (λ t. not (eqb n 0) && t) (or_swap a (leb n small) ∙ ap (λ m. leb n m || a) e ∙ counts_above rule n a)
    ∙ unless (eqb n 0) (counts_acknowledged rule n a)
    ∙ ap (λ t. t && counts_acknowledged rule n a) (not_not (ltb 0 n) (eqb n 0) (not_positive n))

module _ (rule g u : ℕ) (e : ExpenseRecord) where
  abbrev acked : Bool
  acked = ltb 0 (eight_at e.shares u) && counts_acknowledged rule (eight_at e.shares u) (read_bits e.acknowledged u)

  -- It is pending where it stands in the group and not all its shares count as acknowledged, for those of whom one does.
  pub pending_of : pending_in rule g u (meaning e) ≡ (stands_in e g && not (backed rule e) && acked)
  unfolding meaning_in
  pending_of = go (same? e.payer no_expense)
    where
      go : Same e.payer no_expense → pending_in rule g u (meaning e) ≡ (stands_in e g && not (backed rule e) && acked)
      go (same p q) = rw q (sym (nowhere (eqb e.group g) (not (eqb e.deleted 1)) (not (backed rule e)) acked))
      go (other p q) = rw q (waits_form (counts_acknowledged rule (eight_at e.shares u) (read_bits e.acknowledged u)) (ltb 0 (eight_at e.shares u)) (eqb e.group g) (eqb e.deleted 1) (backed rule e))

  -- The standing with it, from what it adds.
  adds : (s : Standing) (p h : ℕ) (w : Bool) → p ≡ s.paid + paid_in rule g u (meaning e) → h ≡ s.held + held_in rule g u (meaning e) → w ≡ (s.pending || pending_in rule g u (meaning e))
      → ◌≡◌ {A = Standing} (record { paid = p; held = h; pending = w }) (more rule g u (meaning e) s)
  adds s p h w ep eh ew = λ i. record { paid = ep i; held = eh i; pending = ew i }

  nothing_paid : (s : Standing) → (counts rule g e && eqb e.payer u) ≡ false → s.paid ≡ s.paid + paid_in rule g u (meaning e)
  nothing_paid s z = sym (ap (λ n. s.paid + n) (paid_of rule g e u ∙ ap (λ t. only t (sum8 (eight_at e.shares))) z) ∙ add-zero s.paid)

  nothing_held : (s : Standing) → only (counts rule g e) (eight_at e.shares u) ≡ 0 → s.held ≡ s.held + held_in rule g u (meaning e)
  nothing_held s z = sym (ap (λ n. s.held + n) (held_of rule g e u ∙ z) ∙ add-zero s.held)

  nothing_waits : (s : Standing) → (stands_in e g && not (backed rule e) && acked) ≡ false → s.pending ≡ (s.pending || pending_in rule g u (meaning e))
  nothing_waits s z = sym (ap (λ t. s.pending || t) (pending_of ∙ z) ∙ or_false s.pending)

  -- One that does not stand in the group adds nothing.
  pub elsewhere : (s : Standing) → stands_in e g ≡ false → s ≡ more rule g u (meaning e) s
  elsewhere s z =
      adds s s.paid s.held s.pending (nothing_paid s (ap (λ t. t && backed rule e && eqb e.payer u) z)) (nothing_held s (ap (λ t. only (t && backed rule e) (eight_at e.shares u)) z))
      (nothing_waits s (ap (λ t. t && not (backed rule e) && acked) z))

  -- Nor does one that the user neither pays nor has a share in.
  module _ (n p : ℕ) (en : n ≡ eight_at e.shares u) (ep : p ≡ e.payer) where
    pub unconcerned : (s : Standing) → (eqb n 0 && not (eqb p u)) ≡ true → s ≡ more rule g u (meaning e) s
    unconcerned s t =
        let z = both (eqb n 0) (eqb p u) t in
        let share : eqb (eight_at e.shares u) 0 ≡ true = ap (λ k. eqb k 0) (sym en) ∙ z.0 in
        let none : ltb 0 (eight_at e.shares u) ≡ false = sym (not_not (ltb 0 (eight_at e.shares u)) true (not_positive (eight_at e.shares u) ∙ share)) in
        adds s s.paid s.held s.pending
        (nothing_paid s (ap (λ t. counts rule g e && t) (ap (λ k. eqb k u) (sym ep) ∙ z.1) ∙ and_none (counts rule g e)))
        (nothing_held s (ap (only (counts rule g e)) (eqb_true (eight_at e.shares u) 0 share) ∙ only_zero (counts rule g e)))
        (nothing_waits s (ap (λ t. stands_in e g && not (backed rule e) && (t && counts_acknowledged rule (eight_at e.shares u) (read_bits e.acknowledged u))) none ∙ and_none (stands_in e g && not (backed rule e))))

    -- The code's test b: every share above the rule's small ones is acknowledged.
    module _ (st : stands_in e g ≡ true) (l : List ℕ) (a : ℕ) (el : l ≡ e.shares) (ea : a ≡ e.acknowledged) (small : ℕ) (es : small ≡ small_in rule) (b : Bool)
        (ab : b ≡ every8 (λ w. leb (eight_at l w) small || read_bits a w)) where
      eb : b ≡ backed rule e
      eb = backed_is rule e l a b el ea (counted_by_lem rule (eight_at l) a small b (sym es) ab)

      -- Not all its shares count as acknowledged: it waits, for the user if the user's does.
      module _ (s : Standing) (z : b ≡ false) (w : Bool) (ew : w ≡ read_bits a u) where
        with_waiting : ◌≡◌ {A = Standing} (record { paid = s.paid; held = s.held; pending = s.pending || (not (eqb n 0) && (w || leb n small)) }) (more rule g u (meaning e) s)
        with_waiting =
            let k : counts rule g e ≡ false = ap₂ ◌&&◌ st (sym eb ∙ z) in
            adds s s.paid s.held _ (nothing_paid s (ap (λ t. t && eqb e.payer u) k)) (nothing_held s (ap (λ t. only t (eight_at e.shares u)) k))
            (ap (λ t. s.pending || t)
            (asked rule n small w es
            ∙ (λ i. ltb 0 (en i) && counts_acknowledged rule (en i) ((ew ∙ ap (λ k. read_bits k u) ea) i))
            ∙ (λ i. sym st i && not (sym (sym eb ∙ z) i) && acked)
            ∙ sym pending_of))

        pub waiting : (not (eqb n 0) && (w || leb n small)) ≡ true → ◌≡◌ {A = Standing} (record { paid = s.paid; held = s.held; pending = true }) (more rule g u (meaning e) s)
        waiting q = (λ i. record { paid = s.paid; held = s.held; pending = (or_true s.pending ∙ ap (λ t. s.pending || t) (sym q)) i }) ∙ with_waiting

        pub not_waiting : (not (eqb n 0) && (w || leb n small)) ≡ false → s ≡ more rule g u (meaning e) s
        not_waiting q = (λ i. record { paid = s.paid; held = s.held; pending = (sym (or_false s.pending) ∙ ap (λ t. s.pending || t) (sym q)) i }) ∙ with_waiting

      -- All do: it counts.
      pub counting : (s : Standing) → b ≡ true → (paid : ℕ) → paid ≡ s.paid + only (eqb p u) (sum8 (eight_at e.shares))
          → ◌≡◌ {A = Standing} (record { paid = paid; held = s.held + n; pending = s.pending }) (more rule g u (meaning e) s)
      counting s z paid q =
          let k : counts rule g e ≡ true = ap₂ ◌&&◌ st (sym eb ∙ z) in
          adds s paid (s.held + n) s.pending
          (q ∙ ap (λ m. s.paid + m) ((λ i. only (sym k i && eqb (ep i) u) (sum8 (eight_at e.shares))) ∙ sym (paid_of rule g e u)))
          (ap (λ m. s.held + m) (en ∙ ap (λ t. only t (eight_at e.shares u)) (sym k) ∙ sym (held_of rule g e u)))
          (nothing_waits s (λ i. st i && not ((sym eb ∙ z) i) && acked))
