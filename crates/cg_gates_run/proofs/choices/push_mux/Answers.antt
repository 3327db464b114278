use Rattle.std.proofs.Common.{◌≡◌, Option, Some, Bool, ap, sym, ◌∙◌, subst}
use Rattle.std.specs.Prelude.{OnOk}
use Rattle.std.specs.Option.{option_copied, option_map}
use Rattle.cg_gates.specs.Shape.{Shape, shapes, shape_of, is_mux}
use Rattle.cg_gates.specs.Gates.{driving}
use Rattle.cg_gates.specs.Accepts.{net_name}
use Rattle.cg_gates_run.specs.Kept.{PushesIf, PushesMux}
use Rattle.cg_gates.proofs.Early.{driving_from}
use Rattle.cg_gates.proofs.Shapes.{form_of_shape}
use Rattle.cg_gates_run.proofs.choices.push_mux.Goals as goal

pub push_if_mux-requires-clause-there : goal.push_if_mux-requires-clause-there
push_if_mux-requires-clause-there c =
    let N = c.args.nets.now in
    let d = c.in-Some.cell.now in
    let found : driving c.name.result.now (shapes N) ≡ Some (shape_of d) = sym c.driving.ensures ∙ ap (λ o. option_map shape_of (option_copied o)) c.in-Some.is in
    (driving_from N c.name.result.now (shape_of d) found).0

pub returns-in-Some : goal.returns-in-Some
returns-in-Some c =
    let N = c.args.nets.now in
    let d = c.in-Some.cell.now in
    let found : driving (net_name N c.args.number) (shapes N) ≡ Some (shape_of d) = ap (λ name. driving name (shapes N)) (sym c.name.ensures) ∙ sym c.driving.ensures ∙ ap (λ o. option_map shape_of (option_copied o)) c.in-Some.is in
    let P : Option Shape → Type 0 = λ o. OnOk c.push_if_mux.result (PushesMux N o c.args.choices.now c.push_if_mux.new.choices) in
    let Q : Bool → Type 0 = λ b. OnOk c.push_if_mux.result (PushesIf b N (shape_of d) c.args.choices.now c.push_if_mux.new.choices) in
    subst P (sym found) (subst Q (ap is_mux (sym (form_of_shape d))) c.push_if_mux.ensures)
