use Rattle.std.proofs.Common.{◌≡◌}
use Rattle.std.specs.Prelude.{flat_map, slice_index_or}
use Rattle.std.specs.List.{range_with_len}
use Rattle.cg_model.specs.Kernel.{no_node}
use Rattle.cg_c_order.specs.Chains.{edges_into}
use Rattle.cg_c_order.proofs.edges.data_edges.Given as goal

abbrev pub invariant-loop-to : goal.invariant-loop-to
invariant-loop-to l = l.edges.items ≡ flat_map (λ v. edges_into v (slice_index_or l.nodes v no_node).operands) (range_with_len 0 l.to)
