use Rattle.std.proofs.Common.{◌≡◌, ℕ, ◌<◌, length}
use Rattle.std.specs.Prelude.{slice_index_or}
use Rattle.cg_model.specs.Kernel.{no_node}
use Rattle.cg_simplify_rotate.specs.Moving.{place_from}
use Rattle.cg_simplify_rotate.proofs.moving.shift.Given as goal

abbrev pub invariant-loop-place : goal.invariant-loop-place
invariant-loop-place l =
    (k : ℕ) → k < length l.fn.nodes → slice_index_or l.nodes k no_node ≡ slice_index_or l.fn.nodes (place_from l.u l.place k) no_node
