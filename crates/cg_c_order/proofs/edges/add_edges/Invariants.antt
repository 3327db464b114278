use Rattle.std.proofs.Common.{◌≡◌, ◌++◌, take}
use Rattle.cg_c_order.specs.Chains.{edges_into}
use Rattle.cg_c_order.proofs.edges.add_edges.Given as goal

abbrev pub invariant-loop-place : goal.invariant-loop-place
invariant-loop-place l = l.edges.items ≡ l.fn.edges.items ++ edges_into l.to (take l.place l.operands)
