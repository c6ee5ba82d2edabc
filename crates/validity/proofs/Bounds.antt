-- How large the sums over the first n expenses of an image can get: a share is a number of 32 bits, eight of them and 512 expenses are far below 64.
use Rattle.std.proofs.Common.{◌&&◌, ℕ, ◌+◌, ◌*◌, ◌≤◌, arith, ltb, eqb}
use Rattle.format.specs.Layout.{expense_size, expense_count, expense_place, use_rule}
use Rattle.format.specs.Bytes.{Bytes, Octets, u32_at, shares_of, expense_of, expense_part}
use Rattle.rules.specs.Tests.{number, only, sum8, sum_below, eight_at}
use Rattle.rules.specs.Balance.{paid_in, held_in, used_in, valid_in}
use Rattle.images.specs.Image.{decode}
use Rattle.images.proofs.Round.{part_octets}
use Rattle.rules.proofs.Sums.{sum_bound, number_le}
use Rattle.amounts.proofs.Amounts.{eight_bound, sum8_bound, only_le}
use Rattle.validity.proofs.Counts.{counts, paid_of, held_of, used_of, valid_of, at, meant}

word_small : (p : Bytes) → Octets p → (k : ℕ) → u32_at p k ≤ 4_294_967_295
word_small p o k =
    let a = o k in
    let b = o (k + 1) in
    let c = o (k + 2) in
    let d = o (k + 3) in
    omega arith

share_small : (p : Bytes) → Octets p → (u : ℕ) → eight_at (expense_of p).shares u ≤ 4_294_967_295
unfolding expense_of shares_of
share_small p o u = eight_bound (λ w. u32_at p (8 + 4 * w)) 4_294_967_295 (λ w. word_small p o (8 + 4 * w)) u

module _ (b : Bytes) (o : Octets b) where
  share_at : (c u : ℕ) → eight_at (at b c).shares u ≤ 4_294_967_295
  share_at c u = share_small (expense_part b c) (part_octets expense_size (expense_place c) b o) u

  total_at : (c : ℕ) → sum8 (eight_at (at b c).shares) ≤ 34_359_738_360
  total_at c = sum8_bound (eight_at (at b c).shares) 4_294_967_295 (share_at c)

  module _ (rule g : ℕ) where
    pub paid_bound : (n u : ℕ) → n ≤ expense_count → sum_below n (λ c. paid_in rule g u ((decode b).expense c)) ≤ 34_359_738_360 * n
    paid_bound n u h =
        sum_bound n 34_359_738_360 _
        (λ c k. rw (meant b c (omega arith), paid_of rule g (at b c) u) (only_le (counts rule g (at b c) && eqb (at b c).payer u) (sum8 (eight_at (at b c).shares)) 34_359_738_360 (total_at c)))

    pub held_bound : (n u : ℕ) → n ≤ expense_count → sum_below n (λ c. held_in rule g u ((decode b).expense c)) ≤ 4_294_967_295 * n
    held_bound n u h =
        sum_bound n 4_294_967_295 _
        (λ c k. rw (meant b c (omega arith), held_of rule g (at b c) u) (only_le (counts rule g (at b c)) (eight_at (at b c).shares u) 4_294_967_295 (share_at c u)))

    pub uses_bound : (n u : ℕ) → n ≤ expense_count → sum_below n (λ c. only (eqb rule use_rule) (used_in rule g u ((decode b).expense c))) ≤ 1 * n
    uses_bound n u h = sum_bound n 1 _ (λ c k. rw (meant b c (omega arith), used_of rule g (at b c) u)
        (only_le (eqb rule use_rule) (number (counts rule g (at b c) && ltb 0 (eight_at (at b c).shares u))) 1 (number_le (counts rule g (at b c) && ltb 0 (eight_at (at b c).shares u)))))

    pub valid_bound : (n : ℕ) → n ≤ expense_count → sum_below n (λ c. valid_in rule g ((decode b).expense c)) ≤ 1 * n
    valid_bound n h = sum_bound n 1 _ (λ c k. rw (meant b c (omega arith), valid_of rule g (at b c)) (number_le (counts rule g (at b c))))
