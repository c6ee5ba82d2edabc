use Rattle.std.proofs.Common.{sym, ap, set, rules}
use Rattle.format.specs.Layout.{current}
use Rattle.format.specs.Bytes.{expense_of, forty_of, bytes_in}
use Rattle.format.proofs.Round.{write_back}
use Rattle.store.proofs.put_acknowledged.Goals as goal

pub returns : goal.returns
unfolding bytes_in forty_of expense_of
returns c = ap (λ t. set t 3 c.args.acknowledged) (sym (write_back current c.args.part.now (λ i. search rules) c.requires))
