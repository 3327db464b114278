use Rattle.cg_netlist_reader.proofs.Places.{mux_place, register_place, unit_place}
use Rattle.cg_netlist_reader.proofs.ports.port_at.Goals as goal

pub choice_port-requires : goal.choice_port-requires
choice_port-requires c = mux_place c.args.form c.in-Mux.count c.args.place c.in-Mux.is c.requires

pub register_port-requires : goal.register_port-requires
register_port-requires c = register_place c.args.form c.in-Register.count c.args.place c.in-Register.is c.requires

pub unit_port-requires : goal.unit_port-requires
unit_port-requires c =
    unit_place c.args.form c.in-FunctionalUnit.ports c.in-FunctionalUnit.latency c.in-FunctionalUnit.operations c.args.place c.in-FunctionalUnit.is c.requires
