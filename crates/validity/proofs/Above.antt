-- Shares above a limit and the set of those who acknowledged; which shares need an acknowledgement under a rule.
use Rattle.std.proofs.Common.{◌≡◌, sym, ap, ◌∙◌, Bool, not, cond, ◌&&◌, ◌||◌, ◌≢◌, ℕ, ◌*◌, ◌<◌, arith, ltb, leb, eqb}
use lib.Bits.{bit_or}
use Rattle.format.specs.Layout.{use_rule, small_share}
use Rattle.rules.specs.Tests.{every8}
use Rattle.rules.specs.Balance.{counts_acknowledged}
use Rattle.images.specs.Meaning.{read_bits, bits}
use Rattle.rules.proofs.Basics.{Same, same, other, same?, Less, less, more, less?, false_of}
use Rattle.rules.proofs.Sound.{eqb_other, leb_le, le_leb}
use Rattle.sets.proofs.High.{or_seconds, eqb_seconds}
use Rattle.sets.proofs.Masks.{every8_same, within_byte}
use Rattle.validity.specs.Validity.{small_in}

not_above : (m n : ℕ) → not (ltb m n) ≡ leb n m
not_above m n = go (less? m n)
  where
    go : Less m n → not (ltb m n) ≡ leb n m
    go (less k e) = rw e (sym (false_of (leb n m) (λ q. let z = leb_le n m q in omega arith)))
    go (more k e) = rw e (sym (le_leb n m k))

-- All shares above a limit are acknowledged, by sets.
pub above_is : (s : ℕ → ℕ) (limit a m : ℕ) → a < 256 → m ≡ 256 * bits (λ u. ltb limit (s u)) → eqb (bit_or m (256 * a)) (256 * a) ≡ every8 (λ u. leb (s u) limit || read_bits a u)
above_is s limit a m k e =
    ap (λ n. eqb (bit_or n (256 * a)) (256 * a)) e
    ∙ ap (λ n. eqb n (256 * a)) (or_seconds (bits (λ u. ltb limit (s u))) a)
    ∙ eqb_seconds (bit_or (bits (λ u. ltb limit (s u))) a) a
    ∙ within_byte (λ u. ltb limit (s u)) a k
    ∙ every8_same _ _ (λ u j. ap (λ t. t || read_bits a u) (not_above limit (s u)))

-- A positive share counts as acknowledged just where it is no larger than the rule's small ones, or is acknowledged.
pub counts_above : (rule n : ℕ) (a : Bool) → (leb n (small_in rule) || a) ≡ (eqb n 0 || counts_acknowledged rule n a)
unfolding small_in counts_acknowledged
counts_above rule n a = go (same? rule use_rule) (same? n 0)
  where
    go : Same rule use_rule → Same n 0 → (leb n (cond (eqb rule use_rule) small_share 0) || a) ≡ (eqb n 0 || ((eqb rule use_rule && leb n small_share) || a))
    go (same _ q) (same p e) = rw (q, e, le_leb n small_share (omega arith))
    go (same _ q) (other p e) = rw (q, e)
    go (other _ q) (same p e) = rw (q, e, le_leb n 0 (omega arith))
    go (other _ q) (other p e) = rw (q, e, false_of (leb n 0) (λ x. let z = leb_le n 0 x in p (omega arith)))

all_counted : (rule : ℕ) (s : ℕ → ℕ) (a : ℕ) → every8 (λ u. leb (s u) (small_in rule) || read_bits a u) ≡ every8 (λ u. eqb (s u) 0 || counts_acknowledged rule (s u) (read_bits a u))
all_counted rule s a = every8_same _ _ (λ u j. counts_above rule (s u) (read_bits a u))

-- A rule's limit.
pub small_use : (rule : ℕ) → rule ≡ use_rule → small_in rule ≡ small_share
unfolding small_in
small_use rule e = rw e

pub small_equal : (rule : ℕ) → rule ≢ use_rule → small_in rule ≡ 0
unfolding small_in
small_equal rule ne = ap (λ t. cond t small_share 0) (eqb_other rule use_rule ne)

-- All shares above a rule's limit are acknowledged: all positive ones count so.
pub counted_by_lem : (rule : ℕ) (s : ℕ → ℕ) (a limit : ℕ) (r : Bool) → small_in rule ≡ limit → r ≡ every8 (λ u. leb (s u) limit || read_bits a u)
    → r ≡ every8 (λ u. eqb (s u) 0 || counts_acknowledged rule (s u) (read_bits a u))
counted_by_lem rule s a limit r e q = q ∙ ap (λ n. every8 (λ u. leb (s u) n || read_bits a u)) (sym e) ∙ all_counted rule s a
