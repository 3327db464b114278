-- What has to come after what: whether it has to is one answer, by the namesakes.
use Rattle.std.proofs.Common.{◌≡◌, ℕ, ◌<◌, List, get_or, Some, None, true, sym, ap, ◌∙◌, subst, arith}
use Rattle.std.specs.Prelude.{◌≢◌, length, slice_index_or}
use Rattle.std.proofs.lemmas.List.{get_or_default}
use Rattle.cg_model.specs.declared.kernel.Node.{Node}
use Rattle.cg_model.specs.Kernel.{Kernel, IsKernel, no_node, node, size}
use Rattle.cg_distance.specs.Least.{IsLeast, HasNoChain}
use Rattle.cg_depend.specs.Depend.{Gap, conflict, distance_for}
use Rattle.cg_depend.specs.Gathered.{ask}
use Rattle.cg_depend.proofs.Unique.{gap_unique}
use Rattle.cg_simplify_draft.specs.Rewritten.{IsRewritten}
use Rattle.cg_simplify_order.specs.Needs.{IsNamesake, IsNeed}
use Rattle.cg_simplify_order.specs.Found.{HasNamesakes, HasNoNeed, IsCalled}
use Rattle.cg_simplify_order.proofs.Least.{least_unique}

pub one_namesake : (K L : Kernel) → IsKernel K → (x y u : ℕ) → IsNamesake K L x u → IsNamesake K L y u → x ≡ y
one_namesake K L good x y u a b = good.named.apart x y a.inside b.inside (a.named ∙ sym b.named)

-- a node of the given kernel has the name of each node of the rewritten one
pub called : (K L : Kernel) (given nodes : List Node) (v : ℕ) (N : Node) (name : List ℕ) → IsRewritten K L → given ≡ K.nodes → nodes ≡ L.nodes → v < length nodes → N ≡ get_or nodes v N → name ≡ N.name
    → IsCalled given name
called K L given nodes v N name h g n l is e =
    let inside : v < size L = subst (λ (xs : List Node). v < length xs) n l in
    let node_is : N ≡ node L v = subst (λ (xs : List Node). N ≡ get_or xs v N) n is ∙ get_or_default L.nodes v N no_node inside in
    let name_is : (node K (h.from v)).name ≡ name = sym (h.named v inside) ∙ ap (λ (z : Node). z.name) (sym node_is) ∙ sym e in
    let there : h.from v < length given = subst (λ (xs : List Node). h.from v < length xs) (sym g) (h.inside v inside) in
    (h.from v, there, subst (λ (xs : List Node). (slice_index_or xs (h.from v) no_node).name ≡ name) (sym g) name_is)

-- as it is read from the list
pub namesake_read : (K L : Kernel) (numbers : List ℕ) (u x d : ℕ) → HasNamesakes K L numbers → u < size L → x ≡ get_or numbers u d → IsNamesake K L x u
namesake_read K L numbers u x d has l e =
    let long = has.long in
    subst (λ z. IsNamesake K L z u) (sym (e ∙ get_or_default numbers u d 0 (omega arith))) (has.each u l)

-- the least chain of a need, between namesakes that are known
chain_at : (K L : Kernel) → IsKernel K → (u v r x y : ℕ) → IsNamesake K L x u → IsNamesake K L y v → (n : IsNeed K L u v r) → IsLeast K x y n.least
chain_at K L good u v r x y a b n =
    subst (λ z. IsLeast K x z n.least) (one_namesake K L good n.after y v n.target b)
    (subst (λ z. IsLeast K z n.after n.least) (one_namesake K L good n.before x u n.source a) n.chain)

-- and its gap, from the least chain on
gap_at : (K L : Kernel) → IsKernel K → (u v r x y d : ℕ) → IsNamesake K L x u → IsNamesake K L y v → IsLeast K x y d → (n : IsNeed K L u v r) → Gap L (ask u v d) (Some n.turns)
gap_at K L good u v r x y d a b least n =
    subst (λ z. Gap L (ask u v z) (Some n.turns)) (least_unique K x y n.least d (chain_at K L good u v r x y a b n) least) n.gap

pub no_chain : (K L : Kernel) → IsKernel K → (u v x y : ℕ) → IsNamesake K L x u → IsNamesake K L y v → HasNoChain K x y → HasNoNeed K L u v
no_chain K L good u v x y a b none r n = none n.least (chain_at K L good u v r x y a b n).chain

pub never_meets : (K L : Kernel) → IsKernel K → (u v x y d : ℕ) → IsNamesake K L x u → IsNamesake K L y v → IsLeast K x y d → Gap L (ask u v d) None → HasNoNeed K L u v
never_meets K L good u v x y d a b least gap r n =
    let bad : None ≡ Some n.turns = gap_unique L (ask u v d) None (Some n.turns) gap (gap_at K L good u v r x y d a b least n) in
    cc

pub is_need : (K L : Kernel) (u v r x y d g : ℕ) → u < size L → v < size L → u ≢ v → conflict L u v ≡ true → IsNamesake K L x u → IsNamesake K L y v → IsLeast K x y d → Gap L (ask u v d) (Some g) → r ≡ distance_for g → IsNeed K L u v r
is_need K L u v r x y d g lu lv other meet a b least gap near =
    record {
      first = lu;
      second = lv;
      other = other;
      meet = meet;
      before = x;
      after = y;
      least = d;
      turns = g;
      source = a;
      target = b;
      chain = least;
      gap = gap;
      near = near;
    }

pub one_need : (K L : Kernel) → IsKernel K → (u v r s : ℕ) → IsNeed K L u v r → IsNeed K L u v s → r ≡ s
one_need K L good u v r s n m =
    let gap : Gap L (ask u v m.least) (Some n.turns) = gap_at K L good u v r m.before m.after m.least m.source m.target m.chain n in
    let same : Some n.turns ≡ Some m.turns = gap_unique L (ask u v m.least) (Some n.turns) (Some m.turns) gap m.gap in
    let turns : n.turns ≡ m.turns = cc in
    n.near ∙ ap distance_for turns ∙ sym m.near
