-- Nodes of the kernel, one by one.
use Rattle.std.proofs.Common.{◌≡◌, ℕ, ◌+◌, ◌<◌, List, [], ◌∷◌, ◌++◌, length, sym, subst, arith, below_more}
use Rattle.std.proofs.lemmas.List.{get_or_append_left, get_or_push}
use Rattle.std.specs.Prelude.{slice_index_or}
use Rattle.cg_model.specs.declared.kernel.Node.{Node}
use Rattle.cg_model.specs.Kernel.{no_node}
use Rattle.cg_c_kernel.specs.declared.edges.Edge.{Edge}
use Rattle.std.specs.Prelude.{Option}
use Rattle.cg_c_kernel.specs.Made.{Sketch}
use Rattle.cg_c_kernel.specs.Built.{IsBuilt, sketch_at}

pub more_built : (edges : List (Option Edge)) (xs : List Sketch) (nodes : List Node) (node : Node) (n : ℕ) → length nodes ≡ n →
    ((m : ℕ) → m < n → IsBuilt edges (sketch_at xs m) (slice_index_or nodes m no_node)) → IsBuilt edges (sketch_at xs n) node →
    (m : ℕ) → m < n + 1 → IsBuilt edges (sketch_at xs m) (slice_index_or (nodes ++ node ∷ []) m no_node)
more_built edges xs nodes node n long each last =
    below_more _ _
    (λ m l. subst (λ (z : Node). IsBuilt edges (sketch_at xs m) z) (sym (get_or_append_left nodes (node ∷ []) no_node m (omega arith))) (each m l))
    (subst (λ (z : Node). IsBuilt edges (sketch_at xs n) z) (sym (get_or_push nodes node no_node n long)) last)
