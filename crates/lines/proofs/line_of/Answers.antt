use Rattle.lines.proofs.Signed.{raw_small, line_is}
use Rattle.lines.proofs.line_of.Goals as goal

pub balance_of-balance-requires : goal.balance_of-balance-requires
balance_of-balance-requires c = (raw_small c.args.paid c.args.held _ c.raw_of-raw.ensures c.requires.0 c.requires.1, c.requires.2, c.requires.3)

pub returns : goal.returns
returns c = line_is c.args.counter c.args.paid c.args.held c.args.gift c.args.part _ _ c.requires.0 c.requires.1 c.requires.2 c.requires.3 c.raw_of-raw.ensures c.balance_of-balance.ensures
