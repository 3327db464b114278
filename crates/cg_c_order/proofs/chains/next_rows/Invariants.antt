use Rattle.std.proofs.Common.{List, length, take}
use Rattle.cg_model.specs.declared.kernel.OrderEdge.{OrderEdge}
use Rattle.cg_c_order.specs.Chains.{Leads, LeadsOver}
use Rattle.cg_c_order.specs.Marks.{IsSquare, IsTable}
use Rattle.cg_c_order.proofs.chains.next_rows.Given as goal

abbrev pub invariant-loop-place : goal.invariant-loop-place
invariant-loop-place l = record {
  square : IsSquare (length l.near) l.next.items;
  table : (es : List OrderEdge) → IsTable (length l.near) (Leads es) l.near → IsTable (length l.near) (LeadsOver es (take l.place l.edges)) l.next.items;
}
