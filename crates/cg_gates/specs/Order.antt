-- Nets as resources that muxes drive: the graph in which an order of the muxes, or a ring of them, is searched.
use Rattle.std.specs.Prelude.{ℕ, bytes_eq, List, [], map, Option, None, Some}
use Rattle.std.specs.List.{position_or_len}
use Rattle.cg_model.specs.declared.array.Kind.TheVariants.{Wire}
use Rattle.cg_model.specs.declared.array.Resource.{Resource}
use Rattle.cg_netlist.specs.declared.parts.Net.{Net}
use Rattle.cg_netlist.specs.Netlist.{NetGraph}
use Rattle.cg_gates.specs.Shape.{Shape, shapes}
use Rattle.cg_gates.specs.Gates.{driving}
use Rattle.cg_gates.specs.Accepts.{data_now}

-- the number of the net of that name; the number of nets where there is none
unfoldable pub net_number : NetGraph → List ℕ → ℕ
net_number N name = position_or_len (λ (n : Net). bytes_eq n.name name) N.nets

-- the nets that the cell hears in the same cycle
abbrev pub heard : Option Shape → List (List ℕ)
heard None = []
heard (Some c) = data_now c.form c.ins

-- a net as a wire whose drivers are the nets that its mux hears, by number
abbrev pub net_resource : NetGraph → Net → Resource
net_resource N n = record { name = []; kind = Wire; drivers = map (net_number N) (heard (driving n.name (shapes N))) }

unfoldable pub mux_graph : NetGraph → List Resource
mux_graph N = map (net_resource N) N.nets
