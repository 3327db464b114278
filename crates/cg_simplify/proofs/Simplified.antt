-- A rewritten kernel with order edges of its own is simplified.
use Rattle.std.proofs.Common.{◌≡◌, ◌≤◌, List, [], ap, arith, subst, sym}
use Rattle.cg_model.specs.declared.kernel.Node.{Node}
use Rattle.cg_model.specs.Kernel.{Kernel, IsWired, size}
use Rattle.cg_simplify_draft.specs.Rewritten.{IsRewritten}
use Rattle.cg_simplify_draft.proofs.Twice.{rewritten_itself, rewritten_twice}
use Rattle.cg_simplify_order.specs.Needs.{StaysUnaliased}
use Rattle.cg_simplify.specs.Simplified.{IsSimplified}

simplified : (K L : Kernel) → IsRewritten K L → size L ≤ size K → StaysUnaliased K L → IsSimplified K L
simplified K L is few stays =
    record {
      fewer = few;
      named = λ v l. (is.from v, is.inside v l, is.named v l);
      leaves = λ n image words. let r = is.runs image n words in record { left = r.left; outside = r.outside };
      unaliased = stays;
    }

-- M has the nodes of L
pub simplified_by : (K L M : Kernel) → IsWired L → IsRewritten K L → size L ≤ size K → M.nodes ≡ L.nodes → StaysUnaliased K M → IsSimplified K M
simplified_by K L M wired is few same stays =
    let N : Kernel = record { nodes = L.nodes; order = M.order } in
    let e : N ≡ M = ap (λ (nodes : List Node). let Z : Kernel = record { nodes = nodes; order = M.order } in Z) (sym same) in
    let again : IsRewritten K M = subst (IsRewritten K) e (rewritten_twice K L N is (rewritten_itself L M.order wired)) in
    simplified K M again (subst (λ (nodes : List Node). size (record { nodes = nodes; order = [] }) ≤ size K) (sym same) few) stays

-- a kernel is a simplified one of its own
pub simplified_itself : (K : Kernel) → IsWired K → IsSimplified K K
simplified_itself K wired = simplified K K (rewritten_itself K K.order wired) (omega arith) (λ n image words few free. free)
