use Rattle.std.proofs.Common.{◌≡◌, ◌∙◌, List, get_or, length, ap, sym, arith}
use Rattle.std.proofs.lemmas.List.{length-map}
use Rattle.cg_netlist.specs.Netlist.{NetGraph}
use Rattle.cg_netlist.specs.declared.parts.Cell.{Cell}
use Rattle.cg_gates.specs.Shape.{shape_of, shapes}
use Rattle.cg_gates.specs.Gates.{is_instance, unit_instance}
use Rattle.cg_gates.proofs.Places.{place_within, mapped_found}
use Rattle.cg_gates_run.proofs.Wired.{first_there}
use Rattle.cg_gates_run.proofs.terminals.unit_terminals.Goals as goal

pub prove-unreachable-requires : goal.prove-unreachable-requires
prove-unreachable-requires c =
    let N = c.args.nets.now in
    let name = unit_instance c.args.unit.now.name in
    let within = place_within (is_instance name) (shapes N) c.in-Some.number (sym c.in-Some.is ∙ c.in_ok-number.ensures ∙ c.requires.cells.found name) in
    let long = length-map N.cells shape_of in
    let same = ap length (c.cells-all.ensures.cells ∙ ap (λ (G : NetGraph). G.cells) c.netlist.ensures.netlist) in
    omega (arith, within, long, same)

pub unreachable-requires : goal.unreachable-requires
unreachable-requires c =
    first_there c.args.nets.now c.args.unit.now c.requires.there (sym c.in-None.is ∙ c.in_ok-number.ensures ∙ c.requires.cells.found (unit_instance c.args.unit.now.name))

pub returns : goal.returns
returns c =
    let N = c.args.nets.now in
    let name = unit_instance c.args.unit.now.name in
    let d = c.index-all-number.result in
    let cells : c.cells-all.result.now ≡ N.cells = c.cells-all.ensures.cells ∙ ap (λ (G : NetGraph). G.cells) c.netlist.ensures.netlist in
    let at : d ≡ get_or N.cells c.in-Some.number d = c.index-all-number.is ∙ ap (λ (xs : List Cell). get_or xs c.in-Some.number d) cells in
    record {
      cell = shape_of d;
      first = sym (mapped_found (is_instance name) shape_of N.cells c.in-Some.number d (sym c.in-Some.is ∙ c.in_ok-number.ensures ∙ c.requires.cells.found name) at);
      is = c.cell_terminals.ensures;
    }
