-- What decides under a group's rule whether an expense is acknowledged.
use Rattle.std.specs.Prelude.{cond, ℕ, eqb}
use Rattle.format.specs.Layout.{use_rule, small_share}

-- The largest share that needs no acknowledgement: under rule 1 that is none above zero.
unfoldable pub small_in : (rule : ℕ) → ℕ
small_in k = cond (eqb k use_rule) small_share 0
