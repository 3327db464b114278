-- Edge operands as the code keeps them, and the numbers that distinguish places and routes.
use Rattle.std.specs.Prelude.{◌≡◌, ℕ, ◌+◌, ◌*◌, ◌<◌, List, Some, slice_get}
use Rattle.cg_model.specs.Mapping.{End}
use Rattle.cg_model.specs.declared.mapping.Route.{Route}
use Rattle.cg_mapping.specs.Rules.{NodePlace}
pub use Rattle.cg_mapping.specs.declared.ends.EdgeOperand.{EdgeOperand}

abbrev pub as_end : EdgeOperand → End
as_end e = record { node = e.node; arg = e.arg }

abbrev pub node_of : NodePlace → ℕ
node_of p = p.node

-- nodes have at most three operands
abbrev pub slot_of : Route → ℕ
slot_of r = 3 * r.node + r.arg

-- three operands for each node are enough for these routes
pub record AreShort (routes : List Route) : Type 0 where
  pub short : (i : ℕ) (r : Route) → slice_get routes i ≡ Some r → r.arg < 3

-- three operands for each node, and `size` nodes, are enough for these edge operands
pub record AreWithin (size : ℕ) (ends : List EdgeOperand) : Type 0 where
  pub nodes : (i : ℕ) (e : EdgeOperand) → slice_get ends i ≡ Some e → e.node < size
  pub args : (i : ℕ) (e : EdgeOperand) → slice_get ends i ≡ Some e → e.arg < 3
