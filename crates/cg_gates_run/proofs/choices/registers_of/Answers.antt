use Rattle.std.proofs.Common.{◌≡◌, ◌∙◌, List, get_or, length, ap, sym, arith}
use Rattle.std.proofs.lemmas.Bool.{or_right}
use Rattle.cg_netlist.specs.declared.parts.Cell.{Cell}
use Rattle.cg_netlist.specs.Netlist.{NetGraph}
use Rattle.std.specs.Prelude.{Contains}
use Rattle.std.proofs.lemmas.List.Elements.{Contains-get_or}
use Rattle.std.proofs.Common.{subst}
use Rattle.cg_gates.specs.declared.tables.Choices.{Choices}
use Rattle.cg_gates_run.specs.Kept.{IsPushed}
use Rattle.cg_gates.specs.Shape.{shapes, shape_of, is_mux, is_register}
use Rattle.cg_gates.proofs.Finds.{Contains-map}
use Rattle.cg_gates.proofs.Shapes.{form_of_shape}
use Rattle.cg_gates_run.proofs.Chosen.{choices_next, choices_skip, choices_all}
use Rattle.cg_gates_run.proofs.choices.registers_of.Goals.{then-is_register+in_ok-push_choice, else-is_register}
use Rattle.cg_gates_run.proofs.choices.registers_of.Goals as goal

pub loop-cell-preserved : goal.loop-cell-preserved
loop-cell-preserved c =
    let N = c.args.nets.now in
    let d = c.cell-item.result in
    let i = c.loop-cell.cell-index in
    let cells : c.cells-cell-items.result.now ≡ N.cells = c.cells-cell-items.ensures.cells ∙ ap (λ (G : NetGraph). G.cells) c.netlist.ensures.netlist in
    let long = ap length cells in
    let at : d ≡ get_or N.cells i d = c.cell-item.is ∙ ap (λ (cs : List Cell). get_or cs i d) cells in
    let said : is_register (shape_of d).form ≡ c.is_register.result = ap is_register (form_of_shape d ∙ sym c.form_said.ensures) ∙ sym c.is_register.ensures in
    let Q : Cell → Type 0 = λ x. Contains N.cells x in
    let there : Contains (shapes N) (shape_of d) = Contains-map shape_of N.cells d (subst Q (sym at) (Contains-get_or N.cells i d (omega (arith, long)))) in
    elim c.if-is_register.branch [
      | then-is_register+in_ok-push_choice w ↦ choices_next N is_register i d c.loop-cell.choices c.if-is_register.choices (omega (arith, long)) at c.requires c.netlist.ensures.valid (said ∙ w.if-is_register.true) (or_right (is_mux (shape_of d).form) (is_register (shape_of d).form) (said ∙ w.if-is_register.true)) there (let P : Choices → Type 0 = λ t. IsPushed N (shape_of d) c.loop-cell.choices t in subst P (sym w.choices-is) w.in_ok-push_choice.ensures) c.loop-cell.invariant
      | else-is_register w ↦ choices_skip N is_register i d c.loop-cell.choices c.if-is_register.choices (omega (arith, long)) at (said ∙ w.if-is_register.false) w.choices-is c.loop-cell.invariant
    ]

pub returns : goal.returns
returns c =
    let N = c.args.nets.now in
    let cells : c.cells-cell-items.result.now ≡ N.cells = c.cells-cell-items.ensures.cells ∙ ap (λ (G : NetGraph). G.cells) c.netlist.ensures.netlist in
    let long = ap length cells in
    choices_all N is_register c.loop-cell.cell-index c.loop-cell.choices (omega (arith, long)) c.loop-cell.invariant
