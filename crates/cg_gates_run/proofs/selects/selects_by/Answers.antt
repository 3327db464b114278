use Rattle.std.proofs.Common.{◌≡◌, ◌∙◌, List, true, get_or, length, ap, sym, arith}
use Rattle.std.proofs.lemmas.Bool.{true≢false}
use Rattle.cg_netlist.specs.declared.parts.Cell.{Cell}
use Rattle.cg_netlist.specs.Netlist.{NetGraph}
use Rattle.cg_gates.specs.declared.tables.SelectCell.{SelectCell}
use Rattle.std.specs.declared.alloc.Global.{Global}
use Rattle.std.proofs.Common.{Vec}
use Rattle.cg_gates.specs.Shape.{Shape, shape_of}
use Rattle.cg_gates_run.specs.Kept.{is_given}
use Rattle.cg_gates.specs.Tables.{IsSelect}
use Rattle.cg_gates_run.proofs.Listed.{mapped_next, mapped_skip, mapped_all}
use Rattle.cg_gates.proofs.Shapes.{form_of_shape}
use Rattle.cg_gates_run.proofs.selects.selects_by.Goals.{then-is_given+in_ok-push, else-is_given}
use Rattle.cg_gates_run.proofs.selects.selects_by.Goals as goal

pub loop-cell-preserved : goal.loop-cell-preserved
loop-cell-preserved c =
    let A = c.args.arch.now in
    let N = c.args.nets.now in
    let cells : c.cells-cell-items.result.now ≡ N.cells = c.cells-cell-items.ensures.cells ∙ ap (λ (G : NetGraph). G.cells) c.netlist.ensures.netlist in
    let long = ap length cells in
    let at : c.cell-item.result ≡ get_or N.cells c.loop-cell.cell-index c.cell-item.result = c.cell-item.is ∙ ap (λ (cs : List Cell). get_or cs c.loop-cell.cell-index c.cell-item.result) cells in
    let said : is_given c.args.given (shape_of c.cell-item.result).form ≡ c.is_given.result = ap (is_given c.args.given) (form_of_shape c.cell-item.result ∙ sym c.form_said.ensures) ∙ sym c.is_given.ensures in
    elim c.if-is_given.branch [
      | then-is_given+in_ok-push w ↦ mapped_next (IsSelect A N (is_given c.args.given)) (λ (s : Shape). is_given c.args.given s.form ≡ true) shape_of N.cells c.loop-cell.cell-index c.cell-item.result (record { net = 0; resource = 0 }) w.select_cell.result c.loop-cell.list.items c.if-is_given.list.items (omega (arith, long)) at w.select_cell.ensures (ap (λ (v : Vec SelectCell Global). v.items) w.list-is ∙ w.in_ok-push.ensures.items) c.loop-cell.invariant
      | else-is_given w ↦ mapped_skip (IsSelect A N (is_given c.args.given)) (λ (s : Shape). is_given c.args.given s.form ≡ true) shape_of N.cells c.loop-cell.cell-index c.cell-item.result (record { net = 0; resource = 0 }) c.loop-cell.list.items c.if-is_given.list.items (omega (arith, long)) at (λ e. true≢false (sym e ∙ said ∙ w.if-is_given.false)) (ap (λ (v : Vec SelectCell Global). v.items) w.list-is) c.loop-cell.invariant
    ]

pub returns : goal.returns
returns c =
    let A = c.args.arch.now in
    let N = c.args.nets.now in
    let cells : c.cells-cell-items.result.now ≡ N.cells = c.cells-cell-items.ensures.cells ∙ ap (λ (G : NetGraph). G.cells) c.netlist.ensures.netlist in
    let long = ap length cells in
    let all = mapped_all (IsSelect A N (is_given c.args.given)) (λ (s : Shape). is_given c.args.given s.form ≡ true) shape_of N.cells c.loop-cell.cell-index (record { net = 0; resource = 0 }) c.loop-cell.list.items (omega (arith, long)) c.loop-cell.invariant in
    record { each = all.each; all = λ s there form. all.all s there form }
