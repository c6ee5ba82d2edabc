use Rattle.std.proofs.Common.{refl, sym, ◌∙◌, ap, length-set, arith}
use Rattle.rules.specs.Payments.{owes, pay_in_order, settled}
use Rattle.eight.proofs.Filled.{next, last, read_back}
use Rattle.settle.proofs.Turns.{rows_next, rows_last}
use Rattle.settle.proofs.settle.Goals as goal

pub loop-d-init : goal.loop-d-init
loop-d-init c = (refl, unfold settled in (ap (pay_in_order _) (sym c.claims_of-claims.ensures)))

pub loop-d-preserved : goal.loop-d-preserved
loop-d-preserved c =
    let l = c.loop-d in
    let b = c.args.balances in
    let p = c.pay_row in (
      simp length-set (omega arith),
      next _ l.table l.d p.result _ _ (omega arith)
          (rows_next b l.d _ l.claims p.new.claims p.result (omega arith) (c.debt_of.ensures ∙ ap owes (read_back _ (omega arith))) p.ensures.row p.ensures.claims)
          l.invariant.1,
    )

pub returns : goal.returns
returns c = let l = c.loop-d in last _ l.table l.d _ (omega arith) (rows_last c.args.balances l.d l.claims (omega arith)) l.invariant.1
