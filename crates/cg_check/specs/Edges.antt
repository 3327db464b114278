-- The data edge of an operand.
use Rattle.std.specs.Prelude.{Option, Some, None}
use Rattle.cg_model.specs.declared.kernel.Operand.{Operand}
use Rattle.cg_model.specs.declared.kernel.Operand.TheVariants.{Edge}
pub use Rattle.cg_check.specs.declared.edge.DataEdge.{DataEdge}

-- its source and its distance, if the operand is an edge
abbrev pub data_edge : Option Operand → Option DataEdge
data_edge (Some (Edge u d init)) = Some (record { source = u; distance = d })
data_edge _ = None
