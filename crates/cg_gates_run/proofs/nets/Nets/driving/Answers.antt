use Rattle.std.proofs.Common.{ap, sym, ◌∙◌, arith, length}
use Rattle.std.proofs.lemmas.List.{length-map}
use Rattle.cg_netlist.specs.Netlist.{NetGraph}
use Rattle.cg_netlist.specs.declared.parts.Cell.{Cell}
use Rattle.std.proofs.Common.{List, get_or}
use Rattle.cg_gates.specs.Shape.{shape_of, shapes}
use Rattle.cg_gates.specs.Gates.{driving}
use Rattle.cg_gates.specs.Numbers.{by_net}
use Rattle.cg_gates.proofs.Places.{place_within, mapped_found, found_nowhere}
use Rattle.cg_gates_run.proofs.nets.Nets.driving.Goals as goal

pub prove-unreachable-requires : goal.prove-unreachable-requires
prove-unreachable-requires c =
    let within = place_within (by_net c.args.name.now) (shapes c.self.inside.netlist.now) c.in-Some.number (sym c.in-Some.is ∙ c.number_in.ensures ∙ c.self.invariant.driven.found c.args.name.now) in
    let long = length-map c.self.inside.netlist.now.cells shape_of in
    let same = ap length c.cells-cells.ensures.cells in
    omega (arith, within, long, same)

pub returns-in-Some : goal.returns-in-Some
returns-in-Some c =
    let e = sym c.in-Some.is ∙ c.number_in.ensures ∙ c.self.invariant.driven.found c.args.name.now in
    let at = c.index-cells-number.is ∙ ap (λ (xs : List Cell). get_or xs c.in-Some.number c.index-cells-number.result) c.cells-cells.ensures.cells in
    mapped_found (by_net c.args.name.now) shape_of c.self.inside.netlist.now.cells c.in-Some.number c.index-cells-number.result e at
    ∙ ap (λ (N : NetGraph). driving c.args.name.now (shapes N)) c.self.view_is

pub returns-in-None : goal.returns-in-None
returns-in-None c =
    found_nowhere (by_net c.args.name.now) (shapes c.self.inside.netlist.now) (sym c.in-None.is ∙ c.number_in.ensures ∙ c.self.invariant.driven.found c.args.name.now)
    ∙ ap (λ (N : NetGraph). driving c.args.name.now (shapes N)) c.self.view_is
