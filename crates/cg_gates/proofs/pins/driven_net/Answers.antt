use Rattle.std.proofs.Common.{◌≡◌, ◌-◌, ◌<◌, List, length, get_or, subst, sym, ap, ◌∙◌, arith}
use Rattle.std.proofs.lemmas.Bool.{eqb-true, eqb-false}
use Rattle.cg_netlist.specs.declared.parts.Pin.{Pin}
use Rattle.cg_gates.proofs.Shapes.{none_driven, last_driven}
use Rattle.cg_gates.proofs.pins.driven_net.Goals as goal

pub returns-then-is_empty : goal.returns-then-is_empty
returns-then-is_empty c =
    none_driven c.args.cell.now (ap length (sym c.as_slice-pins.ensures) ∙ eqb-true (length c.as_slice-pins.result.now) 0 (sym c.is_empty.ensures ∙ c.if-is_empty.true))

pub returns : goal.returns
returns c =
    let other = eqb-false (length c.as_slice-pins.result.now) 0 (sym c.is_empty.ensures ∙ c.if-is_empty.false) in
    let same = ap length c.as_slice-pins.ensures in
    let some : 0 < length c.args.cell.now.pins = omega (arith, other, same) in
    let P : List Pin → Type 0 = λ ps. c.index-pins-pins.result ≡ get_or ps (length ps - 1) c.index-pins-pins.result in
    c.as_str.ensures ∙ ap (λ (p : Pin). p.net) (sym c.index-pins-pins.is) ∙ last_driven c.args.cell.now c.index-pins-pins.result some (subst P c.as_slice-pins.ensures c.index-pins-pins.is)
