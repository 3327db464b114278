-- The list of edge operands has each edge operand, and nothing else; and it is in the order of a
-- mapping's routes.
use Rattle.std.proofs.Common.{◌≡◌, ℕ, zero, suc, ◌+◌, ◌<◌, List, [], ◌∷◌, ◌++◌, length, map, Some, refl, ap, ◌∙◌, subst, arith}
use Rattle.std.specs.Prelude.{All, Contains, slice_get, slice_index_or}
use Rattle.std.proofs.lemmas.List.{map-append}
use Rattle.std.proofs.lemmas.List.Elements.{All-nil, All-cons, All-append, Contains-append_left, Contains-append_right}
use Rattle.cg_model.specs.declared.kernel.Node.{Node}
use Rattle.cg_model.specs.declared.kernel.Operand.{Operand}
use Rattle.cg_model.specs.declared.kernel.Operand.TheVariants.{Const as Constant, Edge}
use Rattle.cg_model.specs.Kernel.{Kernel, HasOperand, size, node, no_node}
use Rattle.cg_model.specs.Mapping.{End, ends_of, ends_from}
use Rattle.cg_walk_spec.specs.State.{EdgeOperand, edges_among, edges_from, edges}

abbrev pub IsEdge : Kernel → EdgeOperand → Type 0
IsEdge K e = (init : List ℕ) × HasOperand K e.node e.arg (Edge e.source e.distance init) × (e.node < size K)

there : {X : Type 0} (x y : X) (xs : List X) → Contains xs y → Contains (x ∷ xs) y
there x y xs m = (suc m.0, omega (arith, m.1), m.2)

among_all : (K : Kernel) (v a : ℕ) (os : List Operand) → v < size K → ((k : ℕ) → slice_get (node K v).operands (a + k) ≡ slice_get os k) → All (IsEdge K) (edges_among v a os)
among_all K v a [] l h = All-nil (IsEdge K)
among_all K v a (Constant w ∷ os) l h = among_all K v (suc a) os l (λ k. let z : suc a + k ≡ a + suc k = omega arith in ap (λ j. slice_get (node K v).operands j) z ∙ h (suc k))
among_all K v a (Edge u d init ∷ os) l h =
    let z : a ≡ a + 0 = omega arith in
    All-cons (IsEdge K) (record { node = v; arg = a; source = u; distance = d }) (edges_among v (suc a) os) (init, ap (λ j. slice_get (node K v).operands j) z ∙ h 0, l)
    (among_all K v (suc a) os l (λ k. let z : suc a + k ≡ a + suc k = omega arith in ap (λ j. slice_get (node K v).operands j) z ∙ h (suc k)))

from_all : (K : Kernel) (v : ℕ) (ns : List Node) → v + length ns ≡ size K → ((k : ℕ) → node K (v + k) ≡ slice_index_or ns k no_node) → All (IsEdge K) (edges_from v ns)
from_all K v [] l h = All-nil (IsEdge K)
from_all K v (n ∷ ns) l h =
    let z : v ≡ v + 0 = omega arith in
    let here : node K v ≡ n = ap (λ j. node K j) z ∙ h 0 in
    All-append (IsEdge K) (edges_among v 0 n.operands) (edges_from (suc v) ns)
    (among_all K v 0 n.operands (omega arith) (λ k. let y : 0 + k ≡ k = omega arith in ap (λ j. slice_get (node K v).operands j) y ∙ ap (λ (m : Node). slice_get m.operands k) here))
    (from_all K (suc v) ns (omega arith) (λ k. let y : suc v + k ≡ v + suc k = omega arith in ap (λ j. node K j) y ∙ h (suc k)))

-- each element is an edge of the kernel
pub edges_are : (K : Kernel) → All (IsEdge K) (edges K)
unfolding edges
edges_are K = from_all K 0 K.nodes (omega arith) (λ k. let y : 0 + k ≡ k = omega arith in ap (λ j. node K j) y)

among_has : (v a k u d : ℕ) (init : List ℕ) (os : List Operand) → slice_get os k ≡ Some (Edge u d init) → Contains (edges_among v a os) (record { node = v; arg = a + k; source = u; distance = d })
among_has v a k u d init [] h = absurd (cc)
among_has v a zero u d init (Constant w ∷ os) h = absurd (let y : Constant w ≡ Edge u d init = cc in cc)
among_has v a zero u d init (Edge u' d' init' ∷ os) h =
    let e : Edge u' d' init' ≡ Edge u d init = cc in
    let eu : u' ≡ u = cc in
    let ed : d' ≡ d = cc in
    let z : a ≡ a + 0 = omega arith in
    (0, omega arith, ap (λ x. record { node = v; arg = a; source = x; distance = d' }) eu ∙ ap (λ x. record { node = v; arg = a; source = u; distance = x }) ed ∙ ap (λ x. record { node = v; arg = x; source = u; distance = d }) z)
among_has v a (suc k) u d init (Constant w ∷ os) h =
    let z : suc a + k ≡ a + suc k = omega arith in
    subst (λ x. Contains (edges_among v (suc a) os) (record { node = v; arg = x; source = u; distance = d })) z (among_has v (suc a) k u d init os h)
among_has v a (suc k) u d init (Edge u' d' init' ∷ os) h =
    let z : suc a + k ≡ a + suc k = omega arith in
    there (record { node = v; arg = a; source = u'; distance = d' }) (record { node = v; arg = a + suc k; source = u; distance = d }) (edges_among v (suc a) os)
    (subst (λ x. Contains (edges_among v (suc a) os) (record { node = v; arg = x; source = u; distance = d })) z (among_has v (suc a) k u d init os h))

from_has : (v k p u d : ℕ) (init : List ℕ) (ns : List Node) → k < length ns → slice_get (slice_index_or ns k no_node).operands p ≡ Some (Edge u d init) →
    Contains (edges_from v ns) (record { node = v + k; arg = p; source = u; distance = d })
from_has v k p u d init [] l h = absurd (omega arith)
from_has v zero p u d init (n ∷ ns) l h =
    let y : 0 + p ≡ p = omega arith in
    let z : v ≡ v + 0 = omega arith in
    Contains-append_left (edges_among v 0 n.operands) (edges_from (suc v) ns) (record { node = v + 0; arg = p; source = u; distance = d })
    (subst (λ x. Contains (edges_among v 0 n.operands) (record { node = x; arg = p; source = u; distance = d })) z
    (subst (λ x. Contains (edges_among v 0 n.operands) (record { node = v; arg = x; source = u; distance = d })) y (among_has v 0 p u d init n.operands h)))
from_has v (suc k) p u d init (n ∷ ns) l h =
    let z : suc v + k ≡ v + suc k = omega arith in
    Contains-append_right (edges_among v 0 n.operands) (edges_from (suc v) ns) (record { node = v + suc k; arg = p; source = u; distance = d })
    (subst (λ x. Contains (edges_from (suc v) ns) (record { node = x; arg = p; source = u; distance = d })) z (from_has (suc v) k p u d init ns (omega arith) h))

-- each edge of the kernel is an element
pub edges_have : (K : Kernel) (v p u d : ℕ) (init : List ℕ) → v < size K → HasOperand K v p (Edge u d init) →
    Contains (edges K) (record { node = v; arg = p; source = u; distance = d })
unfolding edges
edges_have K v p u d init l h =
    let z : 0 + v ≡ v = omega arith in
    subst (λ x. Contains (edges_from 0 K.nodes) (record { node = x; arg = p; source = u; distance = d })) z (from_has 0 v p u d init K.nodes l h)

-- where it ends
abbrev pub end_at : EdgeOperand → End
end_at e = record { node = e.node; arg = e.arg }

among_ends : (v a : ℕ) (os : List Operand) → map end_at (edges_among v a os) ≡ ends_of v a os
among_ends v a [] = refl
among_ends v a (Constant w ∷ os) = among_ends v (suc a) os
among_ends v a (Edge u d init ∷ os) = ap (λ es. record { node = v; arg = a } ∷ es) (among_ends v (suc a) os)

from_ends : (v : ℕ) (ns : List Node) → map end_at (edges_from v ns) ≡ ends_from v ns
from_ends v [] = refl
from_ends v (n ∷ ns) =
    map-append end_at (edges_among v 0 n.operands) (edges_from (suc v) ns)
    ∙ ap (λ es. es ++ map end_at (edges_from (suc v) ns)) (among_ends v 0 n.operands)
    ∙ ap (λ es. ends_of v 0 n.operands ++ es) (from_ends (suc v) ns)

-- they end where the routes of a mapping have to, in that order
pub edges_end : (K : Kernel) → map end_at (edges K) ≡ ends_from 0 K.nodes
unfolding edges
edges_end K = from_ends 0 K.nodes
