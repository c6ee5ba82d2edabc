-- Document 02, A8: the balances of all groups beside the groups' own statements.
use Rattle.std.specs.Prelude.{◌≡◌, List, ℕ, ◌+◌, ◌*◌, ℤ, pos, length, get_or}
use Rattle.format.specs.Layout.{Version, user_count}
use Rattle.format.specs.Bytes.{Bytes}
use Rattle.format.specs.declared.Line.{Line}
use Rattle.rules.specs.Balance.{balances_in}
use Rattle.images.specs.Calls.{statement_totals_in, statement_lines_in}

-- "Each figure must equal the one that crew's own statement gives, under both rules", "zeros for absent crews": of these balances that of group g and user u, and
-- the statement of the group with these lines lent.
pub record AsStated (v : Version) (b : Bytes) (balances : List ℤ) (g u : ℕ) (lines : List Line) : Type 0 where
  pub shown : (statement_totals_in v b g (length lines)).answer ≡ 0 → get_or balances (user_count * g + u) (pos 0) ≡ get_or (balances_in (statement_lines_in v b g lines)) u (pos 0)
  pub absent : (statement_totals_in v b g (length lines)).answer ≡ 10 → get_or balances (user_count * g + u) (pos 0) ≡ pos 0
