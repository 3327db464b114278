use Rattle.std.proofs.Common.{◌≡◌, ℕ, ◌<◌, length, slice_index_or}
use Rattle.cg_model.specs.Kernel.{no_node}
use Rattle.cg_c_kernel.specs.Built.{IsBuilt, sketch_at}
use Rattle.cg_c_kernel.proofs.building.nodes_from.Given as goal

abbrev pub invariant-loop-number : goal.invariant-loop-number
invariant-loop-number l =
    record {
      long : length l.nodes.items ≡ l.number;
      each : (m : ℕ) → m < l.number → IsBuilt l.edges.edges.items (sketch_at l.sketches m) (slice_index_or l.nodes.items m no_node);
    }
