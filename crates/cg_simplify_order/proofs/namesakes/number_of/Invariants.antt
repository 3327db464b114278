use Rattle.std.proofs.Common.{◌≡◌, ◌<◌, ℕ}
use Rattle.std.specs.Prelude.{slice_index_or}
use Rattle.cg_model.specs.Kernel.{no_node}
use Rattle.cg_simplify_order.proofs.namesakes.number_of.Given as goal

-- the nodes so far have other names
abbrev pub invariant-loop-number : goal.invariant-loop-number
invariant-loop-number l = (k : ℕ) → k < l.number → (slice_index_or l.nodes k no_node).name ≡ l.name → ⊥
