use Rattle.std.proofs.Common.{◌≡◌, ℕ, map, take}
use Rattle.cg_model.specs.Kernel.{node}
use Rattle.cg_simplify.specs.Live.{moved_node}
use Rattle.cg_simplify.proofs.copy.copy_nodes.Given as goal

abbrev pub invariant-loop-place : goal.invariant-loop-place
invariant-loop-place l = l.copies.items ≡ map (λ (u : ℕ). moved_node l.numbers (node l.kernel u)) (take l.place l.kept)
