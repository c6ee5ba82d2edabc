-- The merge of two ledgers that fit the image of a version fits it (Range).
use mathlib.Core.Path.{◌≡◌, refl}
use mathlib.Core.Bool.{Bool, true, false}
use mathlib.Core.Option.{Option, none, some}
use Prim.Native.Nat.{ℕ, max, ◌≤◌}
use native.Mathlib.Omega.{arith}
use Rattle.format.specs.Layout.{Version}
use Rattle.rules.specs.Ledger.{Expense, Ledger, nobody, either_rule}
use Rattle.rules.specs.Merge.{merged, merge_expense, merge_ledger}
use Rattle.rules.proofs.Basics.{clash, less?, Less, less, more, false_of}
use Rattle.rules.proofs.Accepted.{nobody_zero, rule_two}
use Rattle.rules.proofs.Sound.{eqb_other}
use Rattle.rules.proofs.Theory.{merged_lt, merged_gt, merged_eq}
use Rattle.images.proofs.Range.{Plain, PlainOption, Ruled, Encodable, nobody_of, absent_ruled, absent_zero, present_rule, ruled_on}

merge_plain : (v : Version) (a b : Option Expense) → PlainOption v a → PlainOption v b → PlainOption v (merge_expense a b)
merge_plain v none b p q = q
merge_plain v (some e) none p q = p
merge_plain v (some e) (some f) p q = go (less? e.version f.version) (less? f.version e.version)
  where
    go : Less e.version f.version → Less f.version e.version → Plain v (merged e f)
    go (less k _) _ = rw (merged_lt e f k) q
    go (more k _) (less j _) = rw (merged_gt e f j) p
    go (more k _) (more j _) = rw (merged_eq e f (omega arith)) (record { version32 = p.version32; shares8 = p.shares8; acked8 = λ u h. rw (p.acked8 u h) (q.acked8 u h); dated = p.dated })

merge_ruled : (v : Version) (f f' : ℕ → ℕ) (k k' : ℕ) → Ruled v f k → Ruled v f' k' → Ruled v (λ u. max (f u) (f' u)) (either_rule k k')
merge_ruled v f f' k k' r r' = go (nobody f) (nobody f') refl refl
  where
    larger : (a : ℕ → ℕ) → ((u : ℕ) → a u ≤ max (f u) (f' u)) → nobody a ≡ false → nobody (λ u. max (f u) (f' u)) ≡ false
    larger a h e = false_of _ (λ z. clash (nobody_of a (λ u j. let y = nobody_zero (λ w. max (f w) (f' w)) z u j in let x = h u in omega arith)) e)

    go : (b b' : Bool) → nobody f ≡ b → nobody f' ≡ b' → Ruled v (λ u. max (f u) (f' u)) (either_rule k k')
    go true true p q = rw (absent_zero r p, absent_zero r' q) (absent_ruled v _ (nobody_of (λ u. max (f u) (f' u)) (λ u j. let z = nobody_zero f p u j in let y = nobody_zero f' q u j in omega arith)))
    go true false p q = rw (absent_zero r p) (ruled_on r' _ q (larger f' (λ u. omega arith) q))
    go false b p q = rw (eqb_other k 0 (let z = (rule_two k (present_rule r p)).0 in omega arith)) (ruled_on r _ p (larger f (λ u. omega arith) p))

pub merge_encodable : {v : Version} (l m : Ledger) → Encodable v l → Encodable v m → Encodable v (merge_ledger l m)
merge_encodable {v} l m i j = record {
  counters16 = λ g u. let a = i.counters16 g u in let b = j.counters16 g u in omega arith;
  groups16 = λ g u k. let a = i.groups16 g u k in let b = j.groups16 g u k in omega arith;
  users8 = λ g u k. let a = i.users8 g u k in let b = j.users8 g u k in omega arith;
  ruled = λ g. merge_ruled v (l.counter g) (m.counter g) (l.rule g) (m.rule g) (i.ruled g) (j.ruled g);
  expenses512 = λ c k. rw (i.expenses512 c k) (j.expenses512 c k);
  plain = λ c. merge_plain v (l.expense c) (m.expense c) (i.plain c) (j.plain c);
}
