use Rattle.std.proofs.Common.{◌≡◌, ◌∙◌, sym, arith, pos, length}
use Rattle.std.proofs.lemmas.List.{ext_get_or, length-map, get_or-map}
use Rattle.format.specs.declared.Line.{Line}
use Rattle.rules.specs.Balance.{balances_in}
use Rattle.lines.proofs.balances_of.Goals as goal

pub returns : goal.returns
returns c =
    let d : Line = record { counter = 0; raw = pos 0; gift = 0; part = 0; balance = pos 0 } in
    let m = c.map.ensures.items in
    let n : length c.args.lines ≡ 8 = omega arith in
    ext_get_or (pos 0) c.map.result (balances_in c.args.lines) (m.long ∙ sym n ∙ sym (length-map c.args.lines (λ x. x.balance)))
    (λ i k. (m.at i d (pos 0) (omega (arith, m.long))).2.met ∙ sym (get_or-map (λ x. x.balance) c.args.lines i d (pos 0) (omega (arith, m.long, n))))
