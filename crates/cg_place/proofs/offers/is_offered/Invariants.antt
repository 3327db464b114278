use Rattle.std.proofs.Common.{ℕ, ◌<◌, length}
use Rattle.cg_model.specs.Kernel.{node}
use Rattle.cg_place.specs.Placed.{offering}
use Rattle.cg_place.proofs.offers.is_offered.Given as goal

abbrev pub invariant-loop-node : goal.invariant-loop-node
invariant-loop-node l = (v : ℕ) → v < l.node-index → 0 < length (offering l.arch (node l.kernel v).op)
