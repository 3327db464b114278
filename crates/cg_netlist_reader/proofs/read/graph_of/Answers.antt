use Rattle.std.proofs.Common.{◌≡◌, ◌∙◌, List, ap, map, subst}
use Rattle.std.specs.Prelude.{All}
use Rattle.cg_verilog.specs.declared.module.Cell.{Cell as CellLent}
use Rattle.cg_verilog.specs.Read as modules
use Rattle.cg_netlist.specs.Text.{wire_of, cell_of, module_of}
use Rattle.cg_netlist_reader.specs.Reading.{IsFormed, IsUnknownCell}
use Rattle.cg_netlist_reader.specs.Ported.{cell_taken, graph_taken}
use Rattle.cg_netlist_reader.proofs.Checked.{module_back, formed_taken}
use Rattle.cg_netlist_reader.proofs.Faults.{graph_fault, same_module}
use Rattle.cg_netlist_reader.proofs.read.graph_of.Goals as goal

pub returns-in-Some-clause-fault : goal.returns-in-Some-clause-fault
returns-in-Some-clause-fault c =
    let P : List CellLent → Type 0 = λ cs. IsUnknownCell (map cell_taken (map modules.cell_of cs)) c.in-Some.number in
    (graph_taken (modules.module_of c.args.text.now), module_back (modules.module_of c.args.text.now), subst P c.deref.ensures.value c.in-Some.ensures)

pub checked-requires-clause-formed : goal.checked-requires-clause-formed
checked-requires-clause-formed c =
    let P : List CellLent → Type 0 = λ cs. All IsFormed (map cell_taken (map modules.cell_of cs)) in
    formed_taken (map modules.cell_of c.args.text.now.cells.items) c.in_ok-cells.cells.items c.requires.cells (c.in_ok-cells.ensures ∙ ap (map modules.cell_of) c.deref-3.ensures.value)
    (subst P c.deref.ensures.value c.in_default.ensures)

pub returns-clause-fault : goal.returns-clause-fault
returns-clause-fault c =
    let wires : map wire_of c.in_ok-nets.nets.items ≡ map modules.wire_of c.args.text.now.wires.items = c.in_ok-nets.ensures ∙ ap (map modules.wire_of) c.deref-2.ensures.value in
    let cells : map cell_of c.in_ok-cells.cells.items ≡ map modules.cell_of c.args.text.now.cells.items = c.in_ok-cells.ensures ∙ ap (map modules.cell_of) c.deref-3.ensures.value in
    graph_fault (record { nets = c.in_ok-nets.nets.items; cells = c.in_ok-cells.cells.items }) (modules.module_of c.args.text.now) c.checked.result
    (same_module (module_of (record { nets = c.in_ok-nets.nets.items; cells = c.in_ok-cells.cells.items })) (modules.module_of c.args.text.now) wires cells) c.checked.ensures.fault
